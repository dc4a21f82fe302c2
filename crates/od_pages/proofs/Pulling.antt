-- A pull over what a client had of a drive gives what the drive has, whatever anybody does between two of its pages.
use Rattle.std.proofs.Common.{◌≡◌, ℕ, ◌^◌, ◌<◌, ◌≤◌, inl, Bool, true, false, ◌||◌, not, cond, nat_eq, nat_lt, List, [], ◌∷◌, ◌++◌, map, max, Option, Some, None, refl, ap, sym, subst, ◌∙◌, append_assoc, arith}
use Rattle.std.proofs.lemmas.Bool.{le-ltb, or_from}
use Rattle.std.proofs.lemmas.List.{append-nil}
use Rattle.std.proofs.lemmas.List.Elements.{same_from_all_zip}
use Rattle.std.specs.Map.{values_of}
use Rattle.gd_names.proofs.Maps.{look}
use Rattle.gd_item.specs.Answers.{answer_of, delta_reply, refused, shown}
use Rattle.gd_item.specs.Inventory.{Inventory}
use Rattle.gd_item.specs.Pages.{Asked, Past, Latest, Bad, Lost, asked, asked_unless, is_bad, page_link}
use Rattle.gd_item.specs.Records.{records_of, feed, last_of}
use Rattle.gd_item.specs.Refused.{refuse}
use Rattle.gd_item.specs.Replies.{is_page_or_gone}
use Rattle.gd_item.specs.Sessions.{State}
use Rattle.gd_item.specs.Sound.{IsItemMap}
use Rattle.gd_item.specs.Steps.{state_of, held_by, number_of}
use Rattle.gd_item.specs.Tokens.{token_text, token_of_text}
use Rattle.gd_item.specs.Views.{uncounted, AreItemsOf, ItemsAre, TokenIs}
use Rattle.gd_item.specs.declared.fault.ErrorCode.TheVariants.{InvalidRequest}
use Rattle.gd_item.specs.declared.item.Item.{Item}
use Rattle.gd_item.specs.declared.reply.Page.{Page}
use Rattle.gd_item.specs.declared.reply.PageLink.{PageLink}
use Rattle.gd_item.specs.declared.reply.PageLink.TheVariants as link
use Rattle.gd_item.specs.declared.reply.Reply.{Reply}
use Rattle.gd_item.specs.declared.reply.Reply.TheVariants as reply
use Rattle.gd_item.specs.declared.reply.Resync.TheVariants.{ApplyDifferences, UploadDifferences}
use Rattle.gd_item.specs.declared.request.Request.TheVariants.{Delta}
use Rattle.gd_item.specs.declared.step.Step.{Step}
use Rattle.gd_item.specs.declared.step.Step.TheVariants.{Ask}
use Rattle.gd_item.specs.declared.step.Who.TheVariants.{Own}
use Rattle.gd_item.specs.declared.token.Token.{Token}
use Rattle.gd_item.proofs.ReadTokens.{token-read}
use Rattle.gd_item.proofs.Views.{as-uncounted, held_at-now}
use Rattle.gd_laws.specs.Served.{shown_items, IsPagePast, IsLastPast}
use Rattle.gd_laws.proofs.Every.{every-drive}
use Rattle.gd_laws.proofs.Logs.{epoch-fits, number-fits}
use Rattle.gd_laws.proofs.Marks.{IsMarked, is-marked}
use Rattle.gd_laws.proofs.Pages.{asked-token, last-page, page-of-token, page-of-none, last-of-token, last-of-none, unless-cond}
use Rattle.od_mirror.specs.Pulled.{Pulled, begun, after_page, after_link, with_records, nodes, IsView, IsLeastBad}
use Rattle.od_pages.specs.Pulls.{Hears, HearsAll, IsLastPage, IsPull, IsTokenNow, after_answer, token_then}
use Rattle.od_mirror.specs.declared.view.MirrorView.{MirrorView}
use Rattle.od_pages.proofs.Based.{first-base}
use Rattle.od_pages.proofs.Fed.{IsBase, fed-base}
use Rattle.od_pages.proofs.Parts.{whole-part}
use Rattle.od_pages.proofs.Shown.{shows-whole, same-nodes}
use Rattle.od_pages.proofs.Standing.{records-fit}
use Rattle.od_pages.proofs.Told.{up-records, look-records}
use Rattle.od_pages.proofs.Underway.{IsSoFar, IsAt, IsUnderwayAt, IsUnderway, at-token, first-so, so-are, so-last, so-next, underway-begins, underway-later, whole-are}

-- ---- from the beginning, exactly
pub feed-gives-all : (held : Inventory) → IsItemMap held → IsMarked held → (start : ℕ) → values_of (with_records [] (values_of (feed held 0 start))) ≡ records_of held
feed-gives-all held sound marked start =
    sym
    (same_from_all_zip (λ (a b : Item). a ≡ b) (values_of (with_records [] (values_of (feed held 0 start)))) (records_of held)
    (whole-are (λ (a b : Item). a ≡ b) held marked start (with_records [] (values_of (feed held 0 start))) (up-records [] (values_of (feed held 0 start)) tt)
    (λ n. subst (IsBase (λ (a b : Item). a ≡ b) held held.number start n) (sym (look-records n [] (values_of (feed held 0 start)) tt))
    (fed-base (λ (a b : Item). a ≡ b) (λ (item : Item). item) held marked 0 start held.number (shows-whole (λ (a b : Item). a ≡ b) (λ item. refl) held) (feed held 0 start)
    (whole-part held sound marked start 0) n None (first-base (λ (a b : Item). a ≡ b) held start n marked) (λ item live late. tt))))
    (λ a b same. sym same))

-- ---- by an answer
pub link-items : (items : List (ℕ × Item)) (l : PageLink) → (after_link items l).items ≡ items
link-items items (link.Next token) = refl
link-items items (link.Delta token) = refl

module _ (log : List Step) where
  -- by a page past a position
  module _ (position start : ℕ) (items : List (ℕ × Item)) (so : IsSoFar log position start items) (size : ℕ) (some : 0 < size) (page : Page) (past : IsPagePast (state_of log) position start size page) where
    by-last : (last : Option ℕ) → last_of size (feed (held_by log) position start) ≡ last
        → IsUnderway log (after_link (with_records items page.items) (page_link (state_of log).epoch start (number_of log) last))
    by-last None is =
        let ends : page.link ≡ link.Delta (token_text (record { epoch = (state_of log).epoch; position = number_of log; start = start })) =
        past.link ∙ ap (page_link (state_of log).epoch start (number_of log)) is in
        at-token log (number_of log) start (with_records items page.items)
        (so-last log position start items so page (token_text (record { epoch = (state_of log).epoch; position = number_of log; start = start }))
        (last-page (state_of log) position start size page (token_text (record { epoch = (state_of log).epoch; position = number_of log; start = start })) past ends))
    by-last (Some last) is = at-token log last start (with_records items page.items) (so-next log position start items so page size last some is past)

    underway-page : IsUnderway log (after_link (with_records items page.items) page.link)
    underway-page =
        subst (λ l. IsUnderway log (after_link (with_records items page.items) l)) (sym past.link) (by-last (last_of size (feed (held_by log) position start)) refl)

  given-underway : (size : ℕ) (token : Option (List ℕ)) (items : List (ℕ × Item)) → 0 < size → IsUnderwayAt log token items → (page : Page) → reply.Page page ≡ answer_of log size (Delta token)
      → IsUnderway log (after_link (with_records items page.items) page.link)
  given-underway size None items some is page given =
      subst (λ kept. IsUnderway log (after_link (with_records kept page.items) page.link)) (sym is)
      (underway-page 0 (number_of log) [] (first-so log) size some page (page-of-none log size page given))
  given-underway size (Some text) items some is page given =
      underway-page is.read.position is.read.start items is.so_far size some page (page-of-token log size text is.read page is.read_is given)

  answer-underway : (size : ℕ) (pulled : Pulled) → 0 < size → IsUnderway log pulled → (given : Reply) → given ≡ answer_of log size (Delta pulled.token) → IsUnderway log (after_answer pulled given)
  answer-underway size pulled some is (reply.Page page) given = given-underway size pulled.token pulled.items some is page given
  answer-underway size pulled some is (reply.Gone resync) given = refl
  answer-underway size pulled some is other given = is

-- ---- step by step
step-underway : (log : List Step) (pulled : Pulled) (step : Step) (next : Pulled) → IsUnderway log pulled → Hears log pulled step next → IsUnderway (log ++ step ∷ []) next
step-underway log pulled (Ask Own (Delta token) true true) next is hears =
    let low : 1 ≤ hears.1 = hears.2 in
    let same : answer_of log hears.1 (Delta token) ≡ answer_of log hears.1 (Delta pulled.token) = ap (λ t. answer_of log hears.1 (Delta t)) hears.0 in
    underway-later log (Ask Own (Delta token) true true ∷ []) next.token next.items
    (subst (IsUnderway log) (sym hears.4) (answer-underway log hears.1 pulled (omega (arith, low)) is (answer_of log hears.1 (Delta token)) same))
step-underway log pulled step next is hears =
    subst (IsUnderway (log ++ step ∷ [])) (sym hears) (underway-later log (step ∷ []) pulled.token pulled.items is)

steps-underway : (log : List Step) (pulled : Pulled) (more : List Step) (last : Pulled) → IsUnderway log pulled → HearsAll log pulled more last → IsUnderway (log ++ more) last
steps-underway log pulled [] last is hears =
    subst (λ (whole : List Step). IsUnderway whole last) (sym (append-nil log)) (subst (IsUnderway log) (sym hears) is)
steps-underway log pulled (step ∷ more) last is hears =
    subst (λ (whole : List Step). IsUnderway whole last) (append_assoc log (step ∷ []) more)
    (steps-underway (log ++ step ∷ []) hears.0 more last (step-underway log pulled step hears.0 is hears.1) hears.2)

pub pull-underway : (log : List Step) (pulled : Pulled) → IsPull log pulled → IsUnderway log pulled
pull-underway log pulled pull =
    subst (λ (whole : List Step). IsUnderway whole pulled) (sym pull.grown)
    (steps-underway pull.first (begun pull.items pull.token) pull.more pulled (underway-begins pull.first pull.items pull.token pull.sound) pull.heard)

-- ---- how a pull begins and goes on
pub pull-begins : (log : List Step) (items : List Item) (token : Option (List ℕ)) → ItemsAre items log token → IsPull log (begun items token)
pull-begins log items token are = record { first = log; items = items; token = token; sound = are; more = []; grown = sym (append-nil log); heard = refl }

hears-more : (log : List Step) (pulled : Pulled) (more : List Step) (last next : Pulled) (step : Step) → HearsAll log pulled more last → Hears (log ++ more) last step next → HearsAll log pulled (more ++ step ∷ []) next
hears-more log pulled [] last next step heard hears =
    (next, subst (λ (p : Pulled). Hears log p step next) heard (subst (λ (whole : List Step). Hears whole last step next) (append-nil log) hears), refl)
hears-more log pulled (first ∷ more) last next step heard hears = (
  heard.0,
  heard.1,
  hears-more (log ++ first ∷ []) heard.0 more last next step heard.2
      (subst (λ (whole : List Step). Hears whole last step next) (sym (append_assoc log (first ∷ []) more)) hears),
)

pub pull-goes-on : (log : List Step) (pulled next : Pulled) (step : Step) → IsPull log pulled → Hears log pulled step next → IsPull (log ++ step ∷ []) next
pull-goes-on log pulled next step pull hears = record {
  first = pull.first;
  items = pull.items;
  token = pull.token;
  sound = pull.sound;
  more = pull.more ++ step ∷ [];
  grown = ap (λ (whole : List Step). whole ++ step ∷ []) pull.grown ∙ append_assoc pull.first pull.more (step ∷ []);
  heard =
      hears-more pull.first (begun pull.items pull.token) pull.more pulled next step pull.heard (subst (λ (whole : List Step). Hears whole pulled step next) pull.grown hears);
}

-- ---- the answers
abbrev unless_tests : Bool → Bool → Bool → Token → Asked
unless_tests other ahead old token = asked_unless (cond other (Some (Lost UploadDifferences)) (cond ahead (Some Bad) (cond old (Some (Lost ApplyDifferences)) None))) token

asks-well : (other ahead old : Bool) (token : Token) → ahead ≡ false → is_bad (unless_tests other ahead old token) ≡ false
asks-well true ahead old token low = refl
asks-well false true old token low = absurd (cc low)
asks-well false false true token low = refl
asks-well false false false token low = refl

shown-well : (plain : Bool) (state : State) (size : ℕ) (a : Asked) → is_bad a ≡ false → is_page_or_gone (shown plain (cond (is_bad a) (refused (refuse 400 InvalidRequest)) (delta_reply state size a))) ≡ true
shown-well true state size (Past position start) well = refl
shown-well false state size (Past position start) well = refl
shown-well true state size Latest well = refl
shown-well false state size Latest well = refl
shown-well plain state size Bad well = absurd (cc well)
shown-well true state size (Lost resync) well = refl
shown-well false state size (Lost resync) well = refl

asked-well : (log : List Step) (token : Option (List ℕ)) (items : List (ℕ × Item)) → IsUnderwayAt log token items → is_bad (asked (state_of log) token) ≡ false
asked-well log None items is = refl
asked-well log (Some text) items is =
    let read : Token = is.read in
    let number : ℕ = number_of log in
    ap is_bad (asked-token (state_of log) text is.read is.read_is)
    ∙ asks-well (not (nat_eq is.read.epoch (state_of log).epoch)) (nat_lt (number_of log) is.read.position || nat_lt (number_of log) is.read.start)
    (nat_lt (max is.read.position is.read.start) (state_of log).floor) is.read
    (or_from (nat_lt (number_of log) is.read.position) (nat_lt (number_of log) is.read.start) (le-ltb (number_of log) is.read.position is.so_far.low)
    (le-ltb (number_of log) is.read.start is.so_far.begun))

pub pull-answered : (log : List Step) (pulled : Pulled) (size : ℕ) → IsPull log pulled → is_page_or_gone (answer_of log size (Delta pulled.token)) ≡ true
pull-answered log pulled size pull =
    ap (λ whole. is_page_or_gone (shown (state_of log).plain whole)) (unless-cond (is_bad (asked (state_of log) pulled.token)) (refuse 400 InvalidRequest) (state_of log) size (Delta pulled.token))
    ∙ shown-well (state_of log).plain (state_of log) size (asked (state_of log) pulled.token) (asked-well log pulled.token pulled.items (pull-underway log pulled pull))

-- ---- over the last page
-- what a last page gives: the drive's items, and a token that stands at its number
record Gives (log : List Step) (given : List Item) (end : List ℕ) : Type 0 where
  are : AreItemsOf (state_of log).plain given (records_of (held_by log))
  start : ℕ
  early : start ≤ number_of log
  end_is : end ≡ token_text (record { epoch = (state_of log).epoch; position = number_of log; start = start })

module _ (log : List Step) (page : Page) where
  gives-past : (position start : ℕ) (items : List (ℕ × Item)) (end : List ℕ) → IsSoFar log position start items → IsLastPast (state_of log) position start page end
      → Gives log (values_of (after_link (with_records items page.items) page.link).items) end
  gives-past position start items end so past = record {
    are =
        subst (λ (given : List (ℕ × Item)). AreItemsOf (state_of log).plain (values_of given) (records_of (held_by log))) (sym (link-items (with_records items page.items) page.link))
        (so-are log start (with_records items page.items) (so-last log position start items so page end past));
    start = start;
    early = so.begun;
    end_is = past.token;
  }

  gives-by : (token : Option (List ℕ)) (items : List (ℕ × Item)) → IsUnderwayAt log token items → (last : IsLastPage log token page) → Gives log (values_of (after_link (with_records items page.items) page.link).items) last.end
  gives-by None items is last =
      subst (λ (kept : List (ℕ × Item)). Gives log (values_of (after_link (with_records kept page.items) page.link).items) last.end) (sym is)
      (gives-past 0 (number_of log) [] last.end (first-so log) (last-of-none log last.size last.end page last.given last.link_is))
  gives-by (Some text) items is last =
      gives-past is.read.position is.read.start items last.end is.so_far (last-of-token log last.size text last.end is.read page is.read_is last.given last.link_is)

  -- ---- what is finished
  module _ (pulled : Pulled) (pull : IsPull log pulled) (last : IsLastPage log pulled.token page) where
    gives : Gives log (values_of (after_page pulled page).items) last.end
    gives = gives-by pulled.token pulled.items (pull-underway log pulled pull) last

    pub pages-never-bad : (number : ℕ) → IsLeastBad (nodes (values_of (after_page pulled page).items)) number → ⊥
    pages-never-bad number bad =
        let same : nodes (values_of (after_page pulled page).items) ≡ nodes (records_of (held_by log)) =
        same-nodes (state_of log).plain (values_of (after_page pulled page).items) (records_of (held_by log)) gives.are in
        let there : IsLeastBad (nodes (records_of (held_by log))) number = subst (λ all. IsLeastBad all number) same bad in
        cc (there.bad, records-fit (held_by log) (every-drive log).tree number)

    module _ (view : MirrorView) (is : IsView (after_page pulled page) view) where
      token-is : view.token ≡ last.end
      token-is =
          let ends : Some view.token ≡ Some last.end = is.token ∙ ap (λ l. (after_link (with_records pulled.items page.items) l).last) last.link_is in
          cc ends

      view-are : AreItemsOf (state_of log).plain view.items (records_of (held_by log))
      view-are = subst (λ given. AreItemsOf (state_of log).plain given (records_of (held_by log))) (sym is.items) gives.are

      pub pages-items : (state_of log).plain ≡ false → map uncounted view.items ≡ map uncounted (records_of (held_by log))
      pages-items whole = as-uncounted view.items (records_of (held_by log)) (subst (λ b. AreItemsOf b view.items (records_of (held_by log))) whole view-are)

      pub pages-token : IsTokenNow log view.token
      pages-token = record { start = gives.start; low = gives.early; is = token-is ∙ gives.end_is }

      pub pages-sound : ItemsAre view.items log (Some view.token)
      pages-sound =
          let small : number_of log < 2 ^ 64 = number-fits log in
          let early : gives.start ≤ number_of log = gives.early in
          let read : token_of_text view.token ≡ Some (record { epoch = (state_of log).epoch; position = number_of log; start = gives.start }) =
          ap token_of_text (token-is ∙ gives.end_is)
          ∙ token-read (record { epoch = (state_of log).epoch; position = number_of log; start = gives.start }) (epoch-fits log) small (omega (arith, early, small)) in
          subst (TokenIs view.items log) (sym read)
          (record {
            epoch = omega arith;
            start = early;
            position = omega arith;
            items_then = subst (λ (held : Inventory). AreItemsOf (state_of log).plain view.items (records_of held)) (sym (held_at-now log)) view-are;
          })

  -- ---- of one page
  module _ (items : List Item) (token : Option (List ℕ)) where
    pub pull-items : (view : MirrorView) → ItemsAre items log token → IsLastPage log token page → IsView (after_page (begun items token) page) view
        → (state_of log).plain ≡ false → map uncounted view.items ≡ map uncounted (records_of (held_by log))
    pull-items view are last is whole = pages-items (begun items token) (pull-begins log items token are) last view is whole

    pub pull-sound : (view : MirrorView) → ItemsAre items log token → IsLastPage log token page → IsView (after_page (begun items token) page) view → ItemsAre view.items log (Some view.token)
    pull-sound view are last is = pages-sound (begun items token) (pull-begins log items token are) last view is

    pub pull-never-bad : (number : ℕ) → ItemsAre items log token → IsLastPage log token page → IsLeastBad (nodes (values_of (after_page (begun items token) page).items)) number → ⊥
    pull-never-bad number are last bad = pages-never-bad (begun items token) (pull-begins log items token are) last number bad

  -- ---- with nothing before
  pub first-items : (view : MirrorView) → IsLastPage log None page → IsView (after_page (begun [] None) page) view → (state_of log).plain ≡ false → view.items ≡ records_of (held_by log)
  first-items view last is whole =
      let past : IsLastPast (state_of log) 0 (number_of log) page last.end = last-of-none log last.size last.end page last.given last.link_is in
      is.items ∙ ap values_of (link-items (with_records [] page.items) page.link)
      ∙ ap (λ records. values_of (with_records [] records)) (past.items ∙ ap (λ b. shown_items b (values_of (feed (held_by log) 0 (number_of log)))) whole)
      ∙ feed-gives-all (held_by log) (every-drive log).tree (is-marked (state_of log).effects) (number_of log)

  pub first-token : (view : MirrorView) → IsLastPage log None page → IsView (after_page (begun [] None) page) view → view.token ≡ token_then log
  first-token view last is =
      let past : IsLastPast (state_of log) 0 (number_of log) page last.end = last-of-none log last.size last.end page last.given last.link_is in
      token-is (begun [] None) (pull-begins log [] None refl) last view is ∙ past.token
