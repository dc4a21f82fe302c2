-- The pages of a pull that no one disturbs have the feed, one after the other.
use Rattle.std.proofs.Common.{◌≡◌, inl, inr, ℕ, ◌-◌, ◌^◌, ◌<◌, ◌≤◌, zero, suc, Bool, true, false, cond, nat_lt, List, [], ◌∷◌, ◌++◌, length, take, map, slice_index, IsSome, Option, Some, None, refl, ap, sym, subst, ◌∙◌, append_assoc, append-nil, arith}
use Rattle.std.proofs.lemmas.Bool.{ltb-true}
use Rattle.std.specs.List.{All, AllByRecursion, Any}
use Rattle.std.specs.Map.{keys_of, values_of}
use Rattle.gd_item.specs.Answers.{answer, answer_of, bare_item}
use Rattle.gd_item.specs.Pages.{page_link}
use Rattle.gd_item.specs.Records.{record_of, deleted_record, feed, last_of}
use Rattle.gd_item.specs.Sessions.{State, held}
use Rattle.gd_item.specs.Sound.{IsWithin}
use Rattle.gd_item.specs.Steps.{state_of}
use Rattle.gd_item.specs.Tokens.{token_text}
use Rattle.gd_item.specs.declared.item.Item.{Item}
use Rattle.gd_item.specs.declared.live.LiveItem.{LiveItem}
use Rattle.gd_item.specs.declared.live.Tombstone.{Tombstone}
use Rattle.gd_item.specs.declared.reply.Page.{Page}
use Rattle.gd_item.specs.declared.reply.PageLink.{PageLink}
use Rattle.gd_item.specs.declared.reply.PageLink.TheVariants as link
use Rattle.gd_item.specs.declared.reply.Reply.{Reply}
use Rattle.gd_item.specs.declared.reply.Reply.TheVariants as reply
use Rattle.gd_item.specs.declared.request.Request.{Request}
use Rattle.gd_item.specs.declared.request.Request.TheVariants.{Delta}
use Rattle.gd_item.specs.declared.step.Step.{Step}
use Rattle.gd_item.specs.declared.step.Step.TheVariants.{Ask}
use Rattle.gd_item.specs.declared.step.Who.TheVariants.{Other}
use Rattle.gd_item.specs.declared.token.Token.{Token}
use Rattle.gd_item.proofs.LogsFeed.{feed-pages}
use Rattle.gd_item.proofs.ReadTokens.{token-read}
use Rattle.gd_laws.specs.Changes.{IsEntry}
use Rattle.gd_laws.specs.EveryDrive.{EveryDrive, IsGone}
use Rattle.gd_laws.specs.Served.{is_served_token, shown_items, IsPagePast, IsLastPast}
use Rattle.gd_laws.proofs.Every.{every-drive}
use Rattle.gd_laws.proofs.Feeds.{feed-each}
use Rattle.gd_laws.proofs.Marks.{is-marked}
use Rattle.gd_laws.proofs.Pages.{last-page, page-of-none, page-of-token, served-page}
use Rattle.gd_laws.proofs.Tokens.{next-served}
use Rattle.od_mirror.specs.Pulled.{Pulled, begun, after_link, after_page, with_records, taken_of}
use Rattle.od_mirror.proofs.Keyed.{with_records-append}
use Rattle.od_pages.proofs.Pulling.{link-items}
use Rattle.od_mirror.specs.declared.mirror.Taken.{Taken}
use Rattle.od_mirror.specs.declared.mirror.Taken.TheVariants.{More, Last}
use Rattle.od_cli.specs.Pulling.{HasAll, IsUnderway, Takes, TakesPages, TokenAt, asks_from, ends_from, most_replies, next_of, next_of_link, others_steps}
use Rattle.od_cli.specs.Worlds.{WorldValue, with_other}
use Rattle.od_cli.proofs.Worlds.{delta-rests, state-push}

-- ---- the numbers of a feed are at most the drive's
of-any : {X : Type 0} (P Q : X → Type 0) (xs : List X) → All P xs → Any Q xs → (x : X) × P x × Q x
of-any P Q xs all any = (any.1, subst P any.3 (all any.0 any.1 any.2), any.4)

key-at : (P : ℕ → Type 0) (n : ℕ) (entries : List (ℕ × Item)) → AllByRecursion (λ (e : ℕ × Item). P e.0) entries → n < length entries → P (slice_index (keys_of entries) n)
key-at P n [] all lt = absurd (omega (arith, lt))
key-at P zero (entry ∷ entries) all lt = all.0
key-at P (suc n) (entry ∷ entries) all lt = key-at P n entries all.1 (omega (arith, lt))

last-if : (b : Bool) (n last : ℕ) → cond b (Some n) None ≡ Some last → (b ≡ true) × (n ≡ last)
last-if true n last is = (refl, cc is)
last-if false n last is = absurd (cc is)

last-at : (P : ℕ → Type 0) (size last : ℕ) (changes : List (ℕ × Item)) → AllByRecursion (λ (e : ℕ × Item). P e.0) changes → last_of size changes ≡ Some last → P last
last-at P size last changes all is =
    let parts = last-if (nat_lt size (length changes)) (slice_index (keys_of changes) (size - 1)) last is in
    let more : size < length changes = ltb-true size (length changes) parts.0 in
    subst P parts.1 (key-at P (size - 1) changes all (omega (arith, more)))

module _ (state : State) (every : EveryDrive state) where
  entry-low : (position start : ℕ) (e : ℕ × Item) → IsEntry (held state) position start e → e.0 ≤ (held state).number
  entry-low position start e (inl root) =
      let one : e.0 ≡ 1 = ap (λ (x : ℕ × Item). x.0) root.1 in
      let begun : 0 < (held state).number = every.begun in
      omega (arith, one, begun)
  entry-low position start e (inr (inl live)) =
      let found =
      of-any (IsWithin (held state)) (λ (item : LiveItem). (position < item.change) × (e ≡ (item.change, record_of (held state).items item))) (held state).items (every.tree).within live in
      let at : e.0 ≡ (found.0).change = ap (λ (x : ℕ × Item). x.0) (found.2).1 in
      let done : (found.0).change ≤ (held state).number = (found.1).done in
      omega (arith, done, at)
  entry-low position start e (inr (inr removed)) =
      let found =
      of-any (IsGone (held state)) (λ (stone : Tombstone). (position < stone.change) × (start < stone.change) × (e ≡ (stone.change, deleted_record stone))) (held state).removed every.gone removed in
      let at : e.0 ≡ (found.0).change = ap (λ (x : ℕ × Item). x.0) (found.2).2 in
      let done : (found.0).change ≤ (held state).number = (found.1).done in
      omega (arith, done, at)

  last-low : (position start size last : ℕ) → last_of size (feed (held state) position start) ≡ Some last → last ≤ (held state).number
  last-low position start size last is =
      last-at (λ n. n ≤ (held state).number) size last (feed (held state) position start)
      (feed-each (held state) every.tree (is-marked state.effects) position start (λ (e : ℕ × Item). e.0 ≤ (held state).number) (entry-low position start)) is

-- ---- records in parts
values-append : (xs ys : List (ℕ × Item)) → values_of (xs ++ ys) ≡ values_of xs ++ values_of ys
values-append [] ys = refl
values-append (x ∷ xs) ys = ap (λ vs. x.1 ∷ vs) (values-append xs ys)

values-take : (n : ℕ) (xs : List (ℕ × Item)) → take n (values_of xs) ≡ values_of (take n xs)
values-take zero [] = refl
values-take zero (x ∷ xs) = refl
values-take (suc n) [] = refl
values-take (suc n) (x ∷ xs) = ap (λ vs. x.1 ∷ vs) (values-take n xs)

bare-append : (xs ys : List Item) → map bare_item (xs ++ ys) ≡ map bare_item xs ++ map bare_item ys
bare-append [] ys = refl
bare-append (x ∷ xs) ys = ap (λ is. bare_item x ∷ is) (bare-append xs ys)

shown-append : (plain : Bool) (xs ys : List Item) → shown_items plain (xs ++ ys) ≡ shown_items plain xs ++ shown_items plain ys
shown-append true xs ys = bare-append xs ys
shown-append false xs ys = refl

shown-none : (plain : Bool) → shown_items plain [] ≡ []
shown-none true = refl
shown-none false = refl

-- the records that were sent, and then those of one more page
joined : (plain : Bool) (sent more : List (ℕ × Item)) (items : List (ℕ × Item)) (records : List Item) → items ≡ with_records [] (shown_items plain (values_of sent)) → records ≡ shown_items plain (values_of more)
    → with_records items records ≡ with_records [] (shown_items plain (values_of (sent ++ more)))
joined plain sent more items records are is =
    ap (λ is. with_records is records) are ∙ ap (λ rs. with_records (with_records [] (shown_items plain (values_of sent))) rs) is
    ∙ sym (with_records-append [] (shown_items plain (values_of sent)) (shown_items plain (values_of more)))
    ∙ ap (λ rs. with_records [] rs) (sym (shown-append plain (values_of sent) (values_of more)) ∙ sym (ap (shown_items plain) (values-append sent more)))

-- ---- a pull begins
pub begins-underway : (state : State) → IsUnderway state (begun [] None)
begins-underway state = record {
  position = 0;
  within = omega arith;
  token = inl (refl, refl);
  served = refl;
  sent = [];
  feed_is = refl;
  items_are = sym (ap (λ rs. with_records [] rs) (shown-none state.plain));
}

-- the token at the end of a page
record IsNext (epoch start : ℕ) (last : Option ℕ) (token : List ℕ) : Type 0 where
  at : ℕ
  last_is : last ≡ Some at
  token_is : token ≡ token_text (record { epoch = epoch; position = at; start = start })

next-link : (epoch start number : ℕ) (last : Option ℕ) (token : List ℕ) → page_link epoch start number last ≡ link.Next token → IsNext epoch start last token
next-link epoch start number None token is = absurd (cc is)
next-link epoch start number (Some last) token is = record { at = last; last_is = refl; token_is = cc is }

-- ---- one more page
module _ (log : List Step) (size : ℕ) (some : 0 < size) (pulled : Pulled) (on : IsUnderway (state_of log) pulled) where
  abbrev number : ℕ
  number = (held (state_of log)).number

  every : EveryDrive (state_of log)
  every = every-drive log

  -- the drive has a page for the token
  pub has-page : (page : Page) × (answer_of log size (Delta pulled.token) ≡ reply.Page page)
  has-page = served-page log size pulled.token on.served

  past-at : (page : Page) (token : Option (List ℕ)) → TokenAt (state_of log) on.position token → reply.Page page ≡ answer_of log size (Delta token) → IsPagePast (state_of log) on.position number size page
  past-at page token (inl begins) is =
      subst (λ n. IsPagePast (state_of log) n number size page) (sym begins.0) (page-of-none log size page (is ∙ ap (λ (t : Option (List ℕ)). answer_of log size (Delta t)) begins.1))
  past-at page token (inr later) is =
      let low : on.position ≤ number = on.within in
      let bound : number < 2 ^ 64 = every.number in
      let t : Token = record { epoch = (state_of log).epoch; position = on.position; start = number } in
      page-of-token log size (token_text t) t page (token-read t every.epoch (omega (arith, low, bound)) bound) (is ∙ ap (λ (t : Option (List ℕ)). answer_of log size (Delta t)) later)

  module _ (page : Page) (given : reply.Page page ≡ answer_of log size (Delta pulled.token)) where
    past : IsPagePast (state_of log) on.position number size page
    past = past-at page pulled.token on.token given

    abbrev changes : List (ℕ × Item)
    changes = feed (held (state_of log)) on.position number

    items-after : (more : List (ℕ × Item)) → page.items ≡ shown_items (state_of log).plain (values_of more) → (after_page pulled page).items ≡ with_records [] (shown_items (state_of log).plain (values_of (on.sent ++ more)))
    items-after more is =
        link-items (with_records pulled.items page.items) page.link ∙ joined (state_of log).plain on.sent more pulled.items page.items on.items_are is

    pub goes-on : (token : List ℕ) → page.link ≡ link.Next token → IsUnderway (state_of log) (after_page pulled page)
    goes-on token link_is =
        let next : IsNext (state_of log).epoch number (last_of size changes) token = next-link (state_of log).epoch number number (last_of size changes) token (sym past.link ∙ link_is) in
        let sent_now : Some token ≡ (after_page pulled page).token = sym (ap (λ (l : PageLink). (after_link (with_records pulled.items page.items) l).token) link_is) in
        record {
          position = next.at;
          within = last-low (state_of log) every on.position number size next.at next.last_is;
          token = inr (sym sent_now ∙ ap Some next.token_is);
          served = subst (λ (t : Option (List ℕ)). is_served_token (state_of log) t ≡ true) sent_now (next-served log pulled.token size page token given link_is);
          sent = on.sent ++ take size changes;
          feed_is =
              on.feed_is ∙ ap (λ more. on.sent ++ more) (feed-pages (held (state_of log)) on.position number size next.at some next.last_is)
              ∙ sym (append_assoc on.sent (take size changes) (feed (held (state_of log)) next.at number));
          items_are = items-after (take size changes) (past.items ∙ ap (shown_items (state_of log).plain) (values-take size changes));
        }

    pub ends-here : (end : List ℕ) → page.link ≡ link.Delta end → HasAll (state_of log) (after_page pulled page)
    ends-here end link_is =
        let last : IsLastPast (state_of log) on.position number page end = last-page (state_of log) on.position number size page end past link_is in
        record {
          items_are =
              items-after changes last.items
              ∙ ap (λ (es : List (ℕ × Item)). with_records [] (shown_items (state_of log).plain (values_of es))) (sym on.feed_is);
          last = subst (λ (o : Option (List ℕ)). IsSome o) (sym (ap (λ (l : PageLink). (after_link (with_records pulled.items page.items) l).last) link_is)) refl;
        }

    pub link-next : (token : List ℕ) → page.link ≡ link.Next token → next_of (answer_of log size (Delta pulled.token)) ≡ Some (after_page pulled page).token
    link-next token link_is =
        ap next_of (sym given) ∙ ap next_of_link link_is ∙ ap Some (sym (ap (λ (l : PageLink). (after_link (with_records pulled.items page.items) l).token) link_is))

    pub link-last : (end : List ℕ) → page.link ≡ link.Delta end → next_of (answer_of log size (Delta pulled.token)) ≡ None
    link-last end link_is = ap next_of (sym given) ∙ ap next_of_link link_is

-- ---- one more reply
module _ (before after : WorldValue) (pulled next : Pulled) (token : Option (List ℕ)) (given : Reply) (some : 0 < before.size) (on : IsUnderway (state_of before.log) pulled) (copied : token ≡ pulled.token)
    (reply_is : given ≡ answer (state_of before.log) before.size (Delta token)) (world : after ≡ record before { log = with_other before.log (Delta token) }) where
  answered : given ≡ answer_of before.log before.size (Delta pulled.token)
  answered = reply_is ∙ ap (λ (t : Option (List ℕ)). answer_of before.log before.size (Delta t)) copied

  -- it is a page
  pub page-came : (page : Page) × (given ≡ reply.Page page)
  page-came = let found = has-page before.log before.size some pulled on in (found.0, answered ∙ found.1)

  stepped : after ≡ record before { log = with_other before.log (Delta pulled.token) }
  stepped =
      let at : Option (List ℕ) → WorldValue = λ t. record before { log = with_other before.log (Delta t) } in
      world ∙ ap at copied

  taken-by : (page : Page) (l : PageLink) (taken : Taken) → page.link ≡ l → given ≡ reply.Page page → next ≡ after_page pulled page → taken ≡ taken_of l → Takes before after pulled next taken
  taken-by page (link.Next t) taken link_is is same what =
      let came : reply.Page page ≡ answer_of before.log before.size (Delta pulled.token) = sym is ∙ answered in
      record {
        world = stepped;
        last = λ last. absurd (cc (what, last));
        more = λ _. (
          link-next before.log before.size some pulled on page came t link_is ∙ ap (λ (p : Pulled). Some p.token) (sym same),
          subst (IsUnderway (state_of before.log)) (sym same) (goes-on before.log before.size some pulled on page came t link_is),
        );
      }
  taken-by page (link.Delta t) taken link_is is same what =
      let came : reply.Page page ≡ answer_of before.log before.size (Delta pulled.token) = sym is ∙ answered in
      record {
        world = stepped;
        last = λ _. (
          link-last before.log before.size some pulled on page came t link_is,
          subst (HasAll (state_of before.log)) (sym same) (ends-here before.log before.size some pulled on page came t link_is),
        );
        more = λ more. absurd (cc (what, more));
      }

  pub takes : (page : Page) (taken : Taken) → given ≡ reply.Page page → next ≡ after_page pulled page → taken ≡ taken_of page.link → Takes before after pulled next taken
  takes page taken is same what = taken-by page page.link taken refl is same what

-- ---- all of them
others-append : (xs ys : List Request) → others_steps (xs ++ ys) ≡ others_steps xs ++ others_steps ys
others-append [] ys = refl
others-append (x ∷ xs) ys = ap (λ (steps : List Step). Ask Other x true true ∷ steps) (others-append xs ys)

pub record TakingOn (start now : WorldValue) (pulled : Pulled) (left : ℕ) : Type 0 where
  pub done : List Request
  pub world : now ≡ record start { log = start.log ++ others_steps done }
  pub rests : state_of now.log ≡ state_of start.log
  pub asks : asks_from most_replies (state_of start.log) start.size (Some None) ≡ done ++ asks_from left (state_of start.log) start.size (Some pulled.token)
  pub ends : ends_from most_replies (state_of start.log) start.size (Some None) ≡ ends_from left (state_of start.log) start.size (Some pulled.token)
  pub underway : IsUnderway (state_of start.log) pulled

pub taking-begins : (start : WorldValue) (pulled : Pulled) → pulled ≡ begun [] None → TakingOn start start pulled most_replies
taking-begins start pulled is =
    let at : List Step → WorldValue = λ l. record start { log = l } in
    subst (λ (p : Pulled). TakingOn start start p most_replies) (sym is)
    (record { done = []; world = ap at (sym (append-nil start.log)); rests = refl; asks = refl; ends = refl; underway = begins-underway (state_of start.log) })

module _ (start before after : WorldValue) (pulled next : Pulled) (now : ℕ) (on : TakingOn start before pulled (suc now)) where
  abbrev state : State
  state = state_of start.log

  abbrev asked : List Request
  asked = on.done ++ Delta pulled.token ∷ []

  module _ (stepped : after ≡ record before { log = with_other before.log (Delta pulled.token) }) (follows : Option (Option (List ℕ)))
      (is : next_of (answer (state_of before.log) before.size (Delta pulled.token)) ≡ follows) where
    here : next_of (answer state start.size (Delta pulled.token)) ≡ follows
    here =
        sym (ap (λ (s : State). next_of (answer s start.size (Delta pulled.token))) on.rests)
        ∙ sym (ap (λ (w : WorldValue). next_of (answer (state_of before.log) w.size (Delta pulled.token))) on.world) ∙ is

    asks-on : asks_from most_replies state start.size (Some None) ≡ asked ++ asks_from now state start.size follows
    asks-on =
        on.asks ∙ ap (λ (f : Option (Option (List ℕ))). on.done ++ Delta pulled.token ∷ asks_from now state start.size f) here
        ∙ sym (append_assoc on.done (Delta pulled.token ∷ []) (asks_from now state start.size follows))

    ends-on : ends_from most_replies state start.size (Some None) ≡ ends_from now state start.size follows
    ends-on = on.ends ∙ ap (λ (f : Option (Option (List ℕ))). ends_from now state start.size f) here

    world-on : after ≡ record start { log = start.log ++ others_steps asked }
    world-on =
        let at : WorldValue → WorldValue = λ w. record w { log = with_other w.log (Delta pulled.token) } in
        let by : List Step → WorldValue = λ l. record start { log = l } in
        stepped ∙ ap at on.world
        ∙ ap by (append_assoc start.log (others_steps on.done) (Ask Other (Delta pulled.token) true true ∷ []) ∙ ap (λ (l : List Step). start.log ++ l) (sym (others-append on.done (Delta pulled.token ∷ []))))

    rests-on : state_of after.log ≡ state
    rests-on =
        ap (λ (w : WorldValue). state_of w.log) stepped ∙ state-push before.log (Ask Other (Delta pulled.token) true true) ∙ delta-rests (state_of before.log) Other pulled.token true ∙ on.rests

  pub one-reply-more : Takes before after pulled next More → TakingOn start after next now
  one-reply-more takes = record {
    done = asked;
    world = world-on takes.world (Some next.token) (takes.more refl).0;
    rests = rests-on takes.world (Some next.token) (takes.more refl).0;
    asks = asks-on takes.world (Some next.token) (takes.more refl).0;
    ends = ends-on takes.world (Some next.token) (takes.more refl).0;
    underway = subst (λ (s : State). IsUnderway s next) on.rests (takes.more refl).1;
  }

  pub last-reply : Takes before after pulled next Last → TakesPages start after next true
  last-reply takes =
      let by : List Request → WorldValue = λ rs. record start { log = start.log ++ others_steps rs } in
      record {
        world = world-on takes.world None (takes.last refl).0 ∙ ap by (sym (asks-on takes.world None (takes.last refl).0 ∙ append-nil asked));
        rests = rests-on takes.world None (takes.last refl).0;
        ended_is = sym (ends-on takes.world None (takes.last refl).0);
        all = λ _. subst (λ (s : State). HasAll s next) on.rests (takes.last refl).1;
      }

pub too-many-replies : (start now : WorldValue) (pulled : Pulled) → TakingOn start now pulled 0 → TakesPages start now pulled false
too-many-replies start now pulled on =
    let by : List Request → WorldValue = λ rs. record start { log = start.log ++ others_steps rs } in
    record {
      world = on.world ∙ ap by (sym (on.asks ∙ append-nil on.done));
      rests = on.rests;
      ended_is = sym on.ends;
      all = λ ended. absurd (cc ended);
    }

-- the same where so many were left
counted-down : (start now : WorldValue) (pulled : Pulled) (left : ℕ) → 0 < left → TakingOn start now pulled left → TakingOn start now pulled (suc (left - 1))
counted-down start now pulled left some on =
    let one : left ≡ suc (left - 1) = omega arith in
    subst (λ n. TakingOn start now pulled n) one on

pub more-came : (start before after : WorldValue) (pulled next : Pulled) (left : ℕ) (taken : Taken) → 0 < left → TakingOn start before pulled left → Takes before after pulled next taken → taken ≡ More
    → TakingOn start after next (left - 1)
more-came start before after pulled next left taken some on takes is =
    one-reply-more start before after pulled next (left - 1) (counted-down start before pulled left some on) (subst (λ (t : Taken). Takes before after pulled next t) is takes)

pub last-came : (start before after : WorldValue) (pulled next : Pulled) (left : ℕ) (taken : Taken) → 0 < left → TakingOn start before pulled left → Takes before after pulled next taken → taken ≡ Last
    → TakesPages start after next true
last-came start before after pulled next left taken some on takes is =
    last-reply start before after pulled next (left - 1) (counted-down start before pulled left some on) (subst (λ (t : Taken). Takes before after pulled next t) is takes)

pub none-left : (start now : WorldValue) (pulled : Pulled) (left : ℕ) → left ≤ 0 → TakingOn start now pulled left → TakesPages start now pulled false
none-left start now pulled left none on =
    let zero_left : left ≡ 0 = omega arith in
    too-many-replies start now pulled (subst (λ n. TakingOn start now pulled n) zero_left on)
