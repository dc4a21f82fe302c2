-- A page over a store, and what a token asks for.
use Rattle.std.proofs.Common.{◌≡◌, ℕ, ◌+◌, ◌≤◌, Bool, true, false, not, ◌||◌, nat_lt, max, List, [], ◌∷◌, length, Option, Some, None, Result, Ok, Err, sym, ap, ◌∙◌, subst, eq-eqb, arith}
use Rattle.std.proofs.lemmas.Bool.Decides.{nat_tests}
use Rattle.std.proofs.Math.Nat.{le-max_right}
use Rattle.gd_names.specs.Causes.{first_cause}
use Rattle.gd_item.specs.Inventory.{Inventory, Effect, inventory}
use Rattle.gd_item.specs.Pages.{Bad, Lost, asked, asked_unless, asked_by_token, page_link, page_past, latest_page}
use Rattle.gd_item.specs.Records.{feed, first_of, last_of}
use Rattle.gd_item.specs.Sessions.{State, held}
use Rattle.gd_item.specs.declared.item.Item.{Item}
use Rattle.gd_item.specs.declared.reply.Page.{Page}
use Rattle.gd_item.specs.declared.reply.PageLink.{PageLink}
use Rattle.gd_item.specs.declared.reply.Resync.TheVariants.{ApplyDifferences, UploadDifferences}
use Rattle.gd_item.specs.declared.token.Token.{Token}
use Rattle.gd_item.proofs.Effects.{number-inventory}
use Rattle.gd_store.specs.Stands.{StoreValue, Stands}
use Rattle.gd_delta.specs.Served.{answer_to}
use Rattle.gd_delta.specs.declared.pages.DeltaFault.{DeltaFault}
use Rattle.gd_delta.specs.declared.pages.DeltaFault.TheVariants.{BadToken}

-- the drive's number counts the effects
own : (log : List Effect) (number : ℕ) → number ≡ length log + 1 → number ≡ (inventory log).number
own log number is = is ∙ sym (number-inventory log)

is-young : (seen floor : ℕ) → floor ≤ seen → nat_lt seen floor ≡ false
is-young seen floor le = grind (arith, nat_tests)

module _ (state : State) (epoch number : ℕ) (epoch-is : epoch ≡ state.epoch) (number-is : number ≡ length state.effects + 1) where
  link-is : (start : ℕ) (last : Option ℕ) → page_link epoch start number last ≡ page_link state.epoch start (held state).number last
  link-is start last = ap (λ e. page_link e start number last) epoch-is ∙ ap (λ n. page_link state.epoch start n last) (own state.effects number number-is)

  pub newest : (items : List Item) (link : PageLink) → items ≡ [] → link ≡ page_link epoch number number None → record { items = items; link = link } ≡ latest_page state
  newest items link none is =
      let same : link ≡ page_link state.epoch (held state).number (held state).number None =
      is ∙ link-is number None ∙ ap (λ n. page_link state.epoch n (held state).number None) (own state.effects number number-is) in
      λ i. record { items = none i; link = same i }

  pub past : (position start size : ℕ) (items : List Item) (last : Option ℕ) (link : PageLink) → items ≡ first_of size (feed (held state) position start) → last ≡ last_of size (feed (held state) position start)
      → link ≡ page_link epoch start number last → record { items = items; link = link } ≡ page_past state position start size
  past position start size items last link items-is last-is is =
      let same : link ≡ page_link state.epoch start (held state).number (last_of size (feed (held state) position start)) =
      is ∙ link-is start last ∙ ap (page_link state.epoch start (held state).number) last-is in
      λ i. record { items = items-is i; link = same i }

  -- what a token asks for, from whether its epoch is the drive's, whether it is ahead, and whether it is too old
  abbrev told : Token → ℕ → Bool → Bool → Bool → Result Page DeltaFault
  told token size same ahead old =
      answer_to state size (asked_unless (first_cause ((not same, Lost UploadDifferences) ∷ (ahead, Bad) ∷ (old, Lost ApplyDifferences) ∷ [])) token)

  abbrev is_ahead : ℕ → Token → Bool
  is_ahead n token = nat_lt n token.position || nat_lt n token.start

  abbrev is_old : Token → Bool
  is_old token = nat_lt (max token.position token.start) state.floor

  asks : (token : Token) (size : ℕ) (ahead : Bool) → token.epoch ≡ epoch → is_ahead number token ≡ ahead → answer_to state size (asked_by_token state (Some token)) ≡ told token size true ahead (is_old token)
  asks token size ahead same is =
      ap (λ b. told token size b (is_ahead (held state).number token) (is_old token)) (eq-eqb token.epoch state.epoch (same ∙ epoch-is))
      ∙ ap (λ b. told token size true b (is_old token)) (sym (ap (λ n. is_ahead n token) (own state.effects number number-is)) ∙ is)

  pub ahead : (token : Token) (size : ℕ) → token.epoch ≡ epoch → is_ahead number token ≡ true → Err BadToken ≡ answer_to state size (asked_by_token state (Some token))
  ahead token size same is = sym (asks token size true same is)

  pub served : (token : Token) (size floor : ℕ) (page : Page) → token.epoch ≡ epoch → is_ahead number token ≡ false → floor ≡ state.floor → floor ≤ max token.position token.start
      → (state.floor ≤ max token.position token.start → page ≡ page_past state token.position token.start size) → Ok page ≡ answer_to state size (asked_by_token state (Some token))
  served token size floor page same off floor-is late is =
      let reached : state.floor ≤ max token.position token.start = subst (λ n. n ≤ max token.position token.start) floor-is late in
      let young : is_old token ≡ false = is-young (max token.position token.start) state.floor reached in
      ap (λ p. Ok p) (is reached) ∙ sym (asks token size false same off ∙ ap (told token size true false) young)

-- no token asks for all that lives
pub fresh : (store : StoreValue) (state : State) (number size : ℕ) (token : Option (List ℕ)) (page : Page) → Stands store state.effects state.epoch state.floor → number ≡ length state.effects + 1
    → token ≡ None → (state.floor ≤ max 0 number → page ≡ page_past state 0 number size) → Ok page ≡ answer_to state size (asked state token)
fresh store state number size token page stands number-is none is =
    let same : number ≡ (held state).number = own state.effects number number-is in
    let P : Inventory → Type 0 = λ h. state.floor ≤ h.number in
    let below : state.floor ≤ (held state).number = subst P stands.held stands.reached in
    let up : number ≤ max 0 number = le-max_right 0 number in
    let reached : state.floor ≤ max 0 number = omega arith in
    ap (λ p. Ok p) (is reached ∙ ap (λ n. page_past state 0 n size) same) ∙ sym (ap (λ t. answer_to state size (asked state t)) none)
