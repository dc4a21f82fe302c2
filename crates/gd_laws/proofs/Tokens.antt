-- A drive serves the token at the end of each page that it gives, and requests leave it so: the token's epoch is the drive's, its
-- numbers are at most the drive's, and one of them is at least the floor.
use Rattle.std.proofs.Common.{◌≡◌, ◌⊎◌, inl, inr, ℕ, ◌-◌, ◌^◌, ◌<◌, ◌≤◌, zero, suc, Bool, true, false, ◌||◌, not, cond, nat_eq, nat_lt, List, [], ◌∷◌, ◌++◌, length, max, slice_index, codes, Option, Some, None, refl, ap, sym, subst, ◌∙◌, arith}
use Rattle.std.proofs.lemmas.Bool.{and_parts, eq-eqb, le-ltb, ltb-true, or_from}
use Rattle.std.specs.Cmp.Lexicographic.{pointwise}
use Rattle.std.specs.List.{All, AllByRecursion, Any, list_all}
use Rattle.std.specs.Map.{keys_of}
use Rattle.gd_names.proofs.Small.{neither, not-below}
use Rattle.gd_item.specs.Answers.{answer_of}
use Rattle.gd_item.specs.Pages.{Asked, Past, Bad, Latest, Lost, asked, asked_unless, asked_by_token, page_past, latest_page, page_link}
use Rattle.gd_item.specs.Records.{record_of, deleted_record, feed, last_of}
use Rattle.gd_item.specs.Sessions.{State, new_state, held}
use Rattle.gd_item.specs.Sound.{IsWithin}
use Rattle.gd_item.specs.Steps.{effects_of, is_accepted, after_request, after_step, after_steps, state_of}
use Rattle.gd_item.specs.Tokens.{token_text, token_of_text}
use Rattle.gd_item.specs.declared.item.Item.{Item}
use Rattle.gd_item.specs.declared.live.LiveItem.{LiveItem}
use Rattle.gd_item.specs.declared.live.Tombstone.{Tombstone}
use Rattle.gd_item.specs.declared.reply.Page.{Page}
use Rattle.gd_item.specs.declared.reply.PageLink.TheVariants as link
use Rattle.gd_item.specs.declared.reply.Reply.TheVariants as reply
use Rattle.gd_item.specs.declared.reply.Resync.TheVariants.{ApplyDifferences, UploadDifferences}
use Rattle.gd_item.specs.declared.request.Request.{Request}
use Rattle.gd_item.specs.declared.request.Request.TheVariants.{Delta}
use Rattle.gd_item.specs.declared.step.DriveEvent.TheVariants.{Expire, Restore, EndSession, Plain}
use Rattle.gd_item.specs.declared.step.Step.{Step}
use Rattle.gd_item.specs.declared.step.Step.TheVariants.{Ask, Event}
use Rattle.gd_item.specs.declared.step.Who.{Who}
use Rattle.gd_item.specs.declared.token.Token.{Token}
use Rattle.gd_item.proofs.LogsGrow.{after_steps-append}
use Rattle.gd_item.proofs.ReadTokens.{token-read}
use Rattle.gd_laws.specs.Changes.{IsEntry}
use Rattle.gd_laws.specs.EveryDrive.{EveryDrive, IsGone}
use Rattle.gd_laws.specs.Served.{is_page, is_served_token, is_token_safe}
use Rattle.gd_laws.proofs.Every.{every-drive, number-rises}
use Rattle.gd_laws.proofs.Feeds.{feed-each}
use Rattle.gd_laws.proofs.Marks.{is-marked}
use Rattle.gd_laws.proofs.Pages.{given_for, given-page, asked-token}

-- ---- the tests of a token
abbrev unless_tests : Bool → Bool → Bool → Token → Asked
unless_tests other ahead old token = asked_unless (cond other (Some (Lost UploadDifferences)) (cond ahead (Some Bad) (cond old (Some (Lost ApplyDifferences)) None))) token

abbrev is_other : State → Token → Bool
is_other state token = not (nat_eq token.epoch state.epoch)

abbrev is_ahead : State → Token → Bool
is_ahead state token = nat_lt (held state).number token.position || nat_lt (held state).number token.start

abbrev is_old : State → Token → Bool
is_old state token = nat_lt (max token.position token.start) state.floor

passed : (other ahead old : Bool) (token : Token) → other ≡ false → ahead ≡ false → old ≡ false → is_page (unless_tests other ahead old token) ≡ true
passed true ahead old token a b c = absurd (cc a)
passed false true old token a b c = absurd (cc b)
passed false false true token a b c = absurd (cc c)
passed false false false token a b c = refl

pub record Passes (other ahead old : Bool) : Type 0 where
  pub of_epoch : other ≡ false
  pub within : ahead ≡ false
  pub late : old ≡ false

has-passed : (other ahead old : Bool) (token : Token) → is_page (unless_tests other ahead old token) ≡ true → Passes other ahead old
has-passed true ahead old token is = absurd (cc is)
has-passed false true old token is = absurd (cc is)
has-passed false false true token is = absurd (cc is)
has-passed false false false token is = record { of_epoch = refl; within = refl; late = refl }

-- ---- where a page begins
-- a page begins past two numbers of the drive, one of which is at least the floor
abbrev Begins : State → Asked → Type 0
Begins state (Past position start) = (start ≤ (held state).number) × (state.floor ≤ max position start)
Begins state Latest = Unit {0}
Begins state Bad = Unit {0}
Begins state (Lost resync) = Unit {0}

begins-unless : (state : State) (token : Token) (other ahead old : Bool) → is_ahead state token ≡ ahead → is_old state token ≡ old → Begins state (unless_tests other ahead old token)
begins-unless state token true ahead old is late = tt
begins-unless state token false true old is late = tt
begins-unless state token false false true is late = tt
begins-unless state token false false false is late = (
  not-below (held state).number token.start (neither (nat_lt (held state).number token.position) (nat_lt (held state).number token.start) is).1,
  not-below (max token.position token.start) state.floor late,
)

begins-token : (state : State) (token : Option Token) → Begins state (asked_by_token state token)
begins-token state None = tt
begins-token state (Some token) = begins-unless state token (is_other state token) (is_ahead state token) (is_old state token) refl refl

begins-text : (state : State) (latest : Bool) (token : Option Token) → Begins state (cond latest Latest (asked_by_token state token))
begins-text state true token = tt
begins-text state false token = begins-token state token

begins : (state : State) (token : Option (List ℕ)) → state.floor ≤ (held state).number → Begins state (asked state token)
begins state None floor = (omega arith, omega (arith, floor))
begins state (Some text) floor = begins-text state (pointwise nat_eq text (codes "latest")) (token_of_text text)

-- ---- the numbers of a feed
key-at : (P : ℕ → Type 0) (n : ℕ) (entries : List (ℕ × Item)) → AllByRecursion (λ (e : ℕ × Item). P e.0) entries → n < length entries → P (slice_index (keys_of entries) n)
key-at P n [] all lt = absurd (omega (arith, lt))
key-at P zero (entry ∷ entries) all lt = all.0
key-at P (suc n) (entry ∷ entries) all lt = key-at P n entries all.1 (omega (arith, lt))

last-if : (b : Bool) (n last : ℕ) → cond b (Some n) None ≡ Some last → (b ≡ true) × (n ≡ last)
last-if true n last is = (refl, cc is)
last-if false n last is = absurd (cc is)

last-at : (P : ℕ → Type 0) (size last : ℕ) (changes : List (ℕ × Item)) → AllByRecursion (λ (e : ℕ × Item). P e.0) changes → last_of size changes ≡ Some last → P last
last-at P size last changes all is =
    let parts = last-if (nat_lt size (length changes)) (slice_index (keys_of changes) (size - 1)) last is in
    let more : size < length changes = ltb-true size (length changes) parts.0 in
    subst P parts.1 (key-at P (size - 1) changes all (omega (arith, more)))

-- one of which something holds, where another fact holds of each
of-any : {X : Type 0} (P Q : X → Type 0) (xs : List X) → All P xs → Any Q xs → (x : X) × P x × Q x
of-any P Q xs all any = (any.1, subst P any.3 (all any.0 any.1 any.2), any.4)

not-less : (a b : ℕ) → b ≤ a → nat_lt a b ≡ false
not-less a b low = le-ltb a b low

module _ (state : State) (every : EveryDrive state) where
  -- a change of the feed is past its position and at most at the drive's number
  entry-within : (position start : ℕ) (e : ℕ × Item) → IsEntry (held state) position start e → (position < e.0) × (e.0 ≤ (held state).number)
  entry-within position start e (inl root) =
      let one : e.0 ≡ 1 = ap (λ (x : ℕ × Item). x.0) root.1 in
      let begun : 0 < (held state).number = every.begun in
      (omega (arith, root.0, one), omega (arith, one, begun))
  entry-within position start e (inr (inl live)) =
      let found =
      of-any (IsWithin (held state)) (λ (item : LiveItem). (position < item.change) × (e ≡ (item.change, record_of (held state).items item))) (held state).items (every.tree).within live in
      let at : e.0 ≡ (found.0).change = ap (λ (x : ℕ × Item). x.0) (found.2).1 in
      let done : (found.0).change ≤ (held state).number = (found.1).done in
      let past : position < (found.0).change = (found.2).0 in
      (omega (arith, past, at), omega (arith, done, at))
  entry-within position start e (inr (inr removed)) =
      let found =
      of-any (IsGone (held state)) (λ (stone : Tombstone). (position < stone.change) × (start < stone.change) × (e ≡ (stone.change, deleted_record stone))) (held state).removed every.gone removed in
      let at : e.0 ≡ (found.0).change = ap (λ (x : ℕ × Item). x.0) (found.2).2 in
      let done : (found.0).change ≤ (held state).number = (found.1).done in
      let past : position < (found.0).change = (found.2).0 in
      (omega (arith, past, at), omega (arith, done, at))

  last-within : (position start size last : ℕ) → last_of size (feed (held state) position start) ≡ Some last → (position < last) × (last ≤ (held state).number)
  last-within position start size last is =
      last-at (λ n. (position < n) × (n ≤ (held state).number)) size last (feed (held state) position start)
      (feed-each (held state) every.tree (is-marked state.effects) position start (λ (e : ℕ × Item). (position < e.0) × (e.0 ≤ (held state).number)) (entry-within position start)) is

  -- the token at two numbers of the drive, one of which is at least the floor, is served
  served-at : (position start : ℕ) → position ≤ (held state).number → start ≤ (held state).number → state.floor ≤ max position start
      → is_served_token state (Some (token_text (record { epoch = state.epoch; position = position; start = start }))) ≡ true
  served-at position start low also late =
      let token : Token = record { epoch = state.epoch; position = position; start = start } in
      let bound : (held state).number < 2 ^ 64 = every.number in
      let fits : position < 2 ^ 64 = omega arith in
      let start_fits : start < 2 ^ 64 = omega arith in
      ap is_page (asked-token state (token_text token) token (token-read token every.epoch fits start_fits))
      ∙ passed (is_other state token) (is_ahead state token) (is_old state token) token
      (ap not (eq-eqb state.epoch state.epoch refl))
      (or_from (nat_lt (held state).number position) (nat_lt (held state).number start) (not-less (held state).number position low) (not-less (held state).number start also))
      (not-less (max position start) state.floor late)

  -- ---- the token at the end of a page
  served-link : (size position start : ℕ) (last : Option ℕ) (text : List ℕ) → start ≤ (held state).number → state.floor ≤ max position start
      → ((n : ℕ) → last ≡ Some n → (position < n) × (n ≤ (held state).number))
      → (page_link state.epoch start (held state).number last ≡ link.Delta text) ⊎ (page_link state.epoch start (held state).number last ≡ link.Next text) → is_served_token state (Some text) ≡ true
  served-link size position start None text low late within (inl ends) =
      let spelt : token_text (record { epoch = state.epoch; position = (held state).number; start = start }) ≡ text = cc ends in
      let floor : state.floor ≤ (held state).number = every.floor in
      subst (λ (t : List ℕ). is_served_token state (Some t) ≡ true) spelt (served-at (held state).number start (omega arith) low (omega (arith, floor)))
  served-link size position start None text low late within (inr ends) = absurd (cc ends)
  served-link size position start (Some last) text low late within (inl ends) = absurd (cc ends)
  served-link size position start (Some last) text low late within (inr ends) =
      let spelt : token_text (record { epoch = state.epoch; position = last; start = start }) ≡ text = cc ends in
      let bounds : (position < last) × (last ≤ (held state).number) = within last refl in
      let past : position < last = bounds.0 in
      subst (λ (t : List ℕ). is_served_token state (Some t) ≡ true) spelt (served-at last start bounds.1 low (omega (arith, late, past)))

  abbrev EndsIn : Page → List ℕ → Type 0
  EndsIn page text = (page.link ≡ link.Delta text) ⊎ (page.link ≡ link.Next text)

  ends-as : (page full : Page) (text : List ℕ) → page.link ≡ full.link → EndsIn page text → EndsIn full text
  ends-as page full text same (inl ends) = inl (sym same ∙ ends)
  ends-as page full text same (inr ends) = inr (sym same ∙ ends)

  served-end : (size : ℕ) (a : Asked) (full : Page) (text : List ℕ) → Begins state a → given_for state size a ≡ reply.Page full → EndsIn full text → is_served_token state (Some text) ≡ true
  served-end size (Past position start) full text begins is ends =
      let same : full ≡ page_past state position start size = cc is in
      served-link size position start (last_of size (feed (held state) position start)) text begins.0 begins.1 (last-within position start size)
      (ends-as full (page_past state position start size) text (ap (λ (p : Page). p.link) same) ends)
  served-end size Latest full text begins is ends =
      let same : full ≡ latest_page state = cc is in
      let floor : state.floor ≤ (held state).number = every.floor in
      served-link size (held state).number (held state).number None text (omega arith) (omega (arith, floor)) (λ n none. absurd (cc none))
      (ends-as full (latest_page state) text (ap (λ (p : Page). p.link) same) ends)
  served-end size Bad full text begins is ends = absurd (cc is)
  served-end size (Lost resync) full text begins is ends = absurd (cc is)

given-served : (log : List Step) (token : Option (List ℕ)) (size : ℕ) (page : Page) (text : List ℕ) → reply.Page page ≡ answer_of log size (Delta token)
    → (page.link ≡ link.Delta text) ⊎ (page.link ≡ link.Next text) → is_served_token (state_of log) (Some text) ≡ true
given-served log token size page text is ends =
    let every : EveryDrive (state_of log) = every-drive log in
    let given = given-page log size token page is in
    served-end (state_of log) every size (asked (state_of log) token) given.full text (begins (state_of log) token every.floor) given.is
    (ends-as (state_of log) every page given.full text given.link ends)

pub last-served : (log : List Step) (token : Option (List ℕ)) (size : ℕ) (page : Page) (text : List ℕ) → reply.Page page ≡ answer_of log size (Delta token)
    → page.link ≡ link.Delta text → is_served_token (state_of log) (Some text) ≡ true
last-served log token size page text is ends = given-served log token size page text is (inl ends)

pub next-served : (log : List Step) (token : Option (List ℕ)) (size : ℕ) (page : Page) (text : List ℕ) → reply.Page page ≡ answer_of log size (Delta token)
    → page.link ≡ link.Next text → is_served_token (state_of log) (Some text) ≡ true
next-served log token size page text is ends = given-served log token size page text is (inr ends)

-- ---- steps that leave a token served
pub record KeepsTokens (old new : State) : Type 0 where
  pub epoch : new.epoch ≡ old.epoch
  pub floor : new.floor ≡ old.floor
  pub number : (held old).number ≤ (held new).number

module _ (old new : State) (keeps : KeepsTokens old new) where
  keep-tests : (token : Token) → Passes (is_other old token) (is_ahead old token) (is_old old token) → is_page (unless_tests (is_other new token) (is_ahead new token) (is_old new token) token) ≡ true
  keep-tests token passes =
      let sides = neither (nat_lt (held old).number token.position) (nat_lt (held old).number token.start) passes.within in
      let position : token.position ≤ (held old).number = not-below (held old).number token.position sides.0 in
      let start : token.start ≤ (held old).number = not-below (held old).number token.start sides.1 in
      let later : (held old).number ≤ (held new).number = keeps.number in
      passed (is_other new token) (is_ahead new token) (is_old new token) token
      (ap (λ n. not (nat_eq token.epoch n)) keeps.epoch ∙ passes.of_epoch)
      (or_from (nat_lt (held new).number token.position) (nat_lt (held new).number token.start)
      (not-less (held new).number token.position (omega arith)) (not-less (held new).number token.start (omega arith)))
      (ap (λ n. nat_lt (max token.position token.start) n) keeps.floor ∙ passes.late)

  keep-token : (token : Option Token) → is_page (asked_by_token old token) ≡ true → is_page (asked_by_token new token) ≡ true
  keep-token None is = absurd (cc is)
  keep-token (Some token) is = keep-tests token (has-passed (is_other old token) (is_ahead old token) (is_old old token) token is)

  keep-text : (latest : Bool) (token : Option Token) → is_page (cond latest Latest (asked_by_token old token)) ≡ true → is_page (cond latest Latest (asked_by_token new token)) ≡ true
  keep-text true token is = absurd (cc is)
  keep-text false token is = keep-token token is

  pub keep-served : (token : Option (List ℕ)) → is_served_token old token ≡ true → is_served_token new token ≡ true
  keep-served None is = refl
  keep-served (Some text) is = keep-text (pointwise nat_eq text (codes "latest")) (token_of_text text) is

same-keeps : (state : State) → KeepsTokens state state
same-keeps state = record { epoch = refl; floor = refl; number = omega arith }

request-keeps : (state : State) (who : Who) (request : Request) (accepted : Bool) → KeepsTokens state (cond accepted (after_request state who request) state)
request-keeps state who request true = record { epoch = refl; floor = refl; number = number-rises state.effects (effects_of state request) }
request-keeps state who request false = same-keeps state

step-keeps : (state : State) (step : Step) → is_token_safe step ≡ true → KeepsTokens state (after_step state step)
step-keeps state (Ask who request served heard) safe = request-keeps state who request (is_accepted state request served)
step-keeps state (Event (Expire number)) safe = absurd (cc safe)
step-keeps state (Event Restore) safe = absurd (cc safe)
step-keeps state (Event (EndSession session)) safe = record { epoch = refl; floor = refl; number = omega arith }
step-keeps state (Event Plain) safe = record { epoch = refl; floor = refl; number = omega arith }

steps-keep : (state : State) (steps : List Step) (token : Option (List ℕ)) → list_all is_token_safe steps ≡ true → is_served_token state token ≡ true → is_served_token (after_steps state steps) token ≡ true
steps-keep state [] token safe is = is
steps-keep state (step ∷ steps) token safe is =
    let parts = and_parts (is_token_safe step) (list_all is_token_safe steps) safe in
    steps-keep (after_step state step) steps token parts.1 (keep-served state (after_step state step) (step-keeps state step parts.0) token is)

pub served-stays : (log more : List Step) (token : Option (List ℕ)) → list_all is_token_safe more ≡ true → is_served_token (state_of log) token ≡ true → is_served_token (state_of (log ++ more)) token ≡ true
served-stays log more token safe is =
    ap (λ state. is_served_token state token) (after_steps-append new_state log more) ∙ steps-keep (state_of log) more token safe is
