-- The versions of a living item that a drive can give are all that it accepted for it.
use Rattle.std.proofs.Common.{◌≡◌, ◌⊎◌, ◌↔◌, inl, inr, ℕ, ◌+◌, ◌<◌, ◌≤◌, Bool, true, false, ◌&&◌, cond, nat_eq, List, [], ◌∷◌, ◌++◌, filter, is_some, is_none, Option, Some, None, refl, sym, ap, subst, ◌∙◌, arith}
use Rattle.std.specs.List.{AllByRecursion, Contains}
use Rattle.std.specs.Option.{option_map}
use Rattle.std.proofs.lemmas.Bool.{and_parts, eq-eqb, eqb-true, eqb-false, ne_eqb}
use Rattle.std.proofs.lemmas.List.{append-nil, append_assoc}
use Rattle.std.proofs.lemmas.List.Elements.{filter-append}
use Rattle.gd_names.proofs.Each.{each-so, each-append}
use Rattle.gd_names.proofs.Small.{none-from}
use Rattle.gd_item.specs.Inventory.{Inventory, Effect, MadeFolder, PutNew, PutOver, Moved, Removed, new_drive, made_folder, made_file, with_bytes, with_place, live_at, version_in, version_of, after, after_all, inventory}
use Rattle.gd_item.specs.Refused.{refusal}
use Rattle.gd_item.specs.Sessions.{State, new_state, held}
use Rattle.gd_item.specs.Steps.{effects_of, is_accepted, after_request, after_step, after_steps, state_of, held_by, accepted_by}
use Rattle.gd_item.specs.Versions.{put_by, accepted_after, accepted, replaced_bytes, file_version, item_version, version_at}
use Rattle.gd_item.specs.declared.live.LiveItem.{LiveItem}
use Rattle.gd_item.specs.declared.live.Version.{Version}
use Rattle.gd_item.specs.declared.request.Request.{Request}
use Rattle.gd_item.specs.declared.step.DriveEvent.TheVariants.{Expire, Restore, EndSession, Plain}
use Rattle.gd_item.specs.declared.step.Step.{Step}
use Rattle.gd_item.specs.declared.step.Step.TheVariants.{Ask, Event}
use Rattle.gd_item.proofs.Effects.{inventory-append}
use Rattle.gd_item.proofs.LogsGrow.{accepted-append}
use Rattle.gd_item.proofs.LogsVersions.{version-log}
use Rattle.gd_laws.specs.Given.{is_version_of, given_versions}
use Rattle.gd_laws.proofs.Living.{of-living, or_live, live-append, live-changed, live-lacking}
use Rattle.gd_laws.proofs.Marks.{IsLiving, IsMarked, marked-after, is-marked}
use Rattle.gd_laws.proofs.Members.{Has, some-so, some-cases, some-from-any, each-has, has-filter, contains-from-has, has-from-contains}
use Rattle.gd_laws.proofs.Replacing.{Lives, OnLiving, AllOnLiving, request-on}

-- ---- which versions are of an item
abbrev of : ℕ → List Version → List Version
of number versions = filter (is_version_of number) versions

-- versions of this item, and of another
abbrev AreOf : ℕ → List Version → Type 0
AreOf number versions = AllByRecursion (λ (version : Version). version.item ≡ number) versions

all-of : (number : ℕ) (versions : List Version) → AreOf number versions → of number versions ≡ versions
all-of number [] all = refl
all-of number (version ∷ versions) all =
    ap (λ b. cond b (version ∷ of number versions) (of number versions)) (eq-eqb version.item number all.0) ∙ ap (λ vs. version ∷ vs) (all-of number versions all.1)

none-of : (number : ℕ) (versions : List Version) → AllByRecursion (λ (version : Version). version.item ≡ number → ⊥) versions → of number versions ≡ []
none-of number [] all = refl
none-of number (version ∷ versions) all =
    ap (λ b. cond b (version ∷ of number versions) (of number versions)) (ne_eqb version.item number all.0) ∙ none-of number versions all.1

none-of-other : (number other : ℕ) (versions : List Version) → AreOf other versions → (other ≡ number → ⊥) → of number versions ≡ []
none-of-other number other versions all apart =
    none-of number versions (each-so (λ (v : Version). v.item ≡ other) (λ (v : Version). v.item ≡ number → ⊥) (λ v is same. apart (sym is ∙ same)) versions all)

in-item : (item : LiveItem) (bytes : Option (List ℕ)) → AreOf item.number (version_in item bytes)
in-item item None = tt
in-item item (Some bytes) = (refl, tt)

-- ---- nothing that was accepted is forgotten
-- numbers of versions are numbers that were given
abbrev AreMade : ℕ → List Version → Type 0
AreMade next versions = AllByRecursion (λ (version : Version). version.item < next) versions

made-more : (next more : ℕ) (versions : List Version) → next ≤ more → AreMade next versions → AreMade more versions
made-more next more versions le all = each-so (λ (v : Version). v.item < next) (λ (v : Version). v.item < more) (λ v low. omega (arith, low, le)) versions all

none-made : (next number : ℕ) (versions : List Version) → AreMade next versions → next ≡ number → of number versions ≡ []
none-made next number versions all is =
    none-of number versions (each-so (λ (v : Version). v.item < next) (λ (v : Version). v.item ≡ number → ⊥) (λ v low same. absurd (omega (arith, low, same, is))) versions all)

pub record IsWhole (held : Inventory) (versions : List Version) : Type 0 where
  pub made : AreMade held.next versions
  pub replaced : AreMade held.next held.replaced
  pub whole : (n : ℕ) (item : LiveItem) → live_at n held.items ≡ Some item → of n held.replaced ++ version_in item item.bytes ≡ of n versions

-- a living item has a number that was given
living-made : (held : Inventory) (n : ℕ) (item : LiveItem) → IsMarked held → live_at n held.items ≡ Some item → (n < held.next) × (item.number ≡ n)
living-made held n item marked is =
    let found = of-living (IsLiving held) n held.items item marked.living is in
    let low : item.number < held.next = (found.0).made in
    (omega (arith, low, found.1), found.1)

-- a new place leaves the version as it is
placed-version : (change parent : ℕ) (name : List ℕ) (item : LiveItem) (bytes : Option (List ℕ)) → version_in (with_place change parent name item) bytes ≡ version_in item bytes
placed-version change parent name item None = refl
placed-version change parent name item (Some bytes) = refl

module _ (held : Inventory) (versions : List Version) (marked : IsMarked held) (is_whole : IsWhole held versions) where
  -- an item that is made, with its version
  made-at : (n : ℕ) (new item : LiveItem) (found : Option LiveItem) (b : Bool) → new.number ≡ held.next → live_at n held.items ≡ found → nat_eq new.number n ≡ b
      → or_live found (cond b (Some new) None) ≡ Some item
      → of n held.replaced ++ version_in item item.bytes ≡ of n (versions ++ version_in new new.bytes)
  made-at n new item None true is_next there at is =
      let same : new ≡ item = cc is in
      let number : held.next ≡ n = sym is_next ∙ eqb-true new.number n at in
      ap (λ vs. vs ++ version_in item item.bytes) (none-made held.next n held.replaced is_whole.replaced number)
      ∙ ap (λ (x : LiveItem). version_in x x.bytes) (sym same)
      ∙ sym (filter-append (is_version_of n) versions (version_in new new.bytes)
      ∙ ap (λ vs. vs ++ of n (version_in new new.bytes)) (none-made held.next n versions is_whole.made number)
      ∙ all-of n (version_in new new.bytes)
      (each-so (λ (v : Version). v.item ≡ new.number) (λ (v : Version). v.item ≡ n) (λ v own. own ∙ is_next ∙ number) (version_in new new.bytes) (in-item new new.bytes)))
  made-at n new item None false is_next there off is = absurd (cc is)
  made-at n new item (Some old) b is_next there at is =
      let low : n < held.next = (living-made held n old marked there).0 in
      is_whole.whole n item (there ∙ is) ∙ sym (append-nil (of n versions))
      ∙ sym (filter-append (is_version_of n) versions (version_in new new.bytes)
      ∙ ap (λ vs. of n versions ++ vs) (none-of-other n new.number (version_in new new.bytes) (in-item new new.bytes) (λ same. absurd (omega (arith, low, same, is_next)))))

  with-new : (now : Inventory) (new : LiveItem) → now.items ≡ held.items ++ new ∷ [] → now.replaced ≡ held.replaced → now.next ≡ held.next + 1 → new.number ≡ held.next
      → IsWhole now (versions ++ version_in new new.bytes)
  with-new now new are same next number = record {
    made = each-append (λ (v : Version). v.item < now.next) versions (version_in new new.bytes) (made-more held.next now.next versions (omega (arith, next)) is_whole.made)
        (each-so (λ (v : Version). v.item ≡ new.number) (λ (v : Version). v.item < now.next) (λ v own. omega (arith, own, number, next)) (version_in new new.bytes) (in-item new new.bytes));
    replaced = subst (AreMade now.next) (sym same) (made-more held.next now.next held.replaced (omega (arith, next)) is_whole.replaced);
    whole = λ n item is.
        ap (λ vs. of n vs ++ version_in item item.bytes) same
        ∙ made-at n new item (live_at n held.items) (nat_eq new.number n) number refl refl (sym (ap (live_at n) are ∙ live-append n held.items new) ∙ is);
  }

  -- what lives is as before, or lives no more, and no version comes
  same-versions : (now : Inventory) → now.replaced ≡ held.replaced → now.next ≡ held.next
      → ((n : ℕ) (item : LiveItem) → live_at n now.items ≡ Some item → (old : LiveItem) × (live_at n held.items ≡ Some old) × (version_in item item.bytes ≡ version_in old old.bytes))
      → IsWhole now (versions ++ [])
  same-versions now same next before = record {
    made = subst (AreMade now.next) (sym (append-nil versions)) (subst (λ m. AreMade m versions) (sym next) is_whole.made);
    replaced = subst (AreMade now.next) (sym same) (subst (λ m. AreMade m held.replaced) (sym next) is_whole.replaced);
    whole = λ n item is.
        let then = before n item is in
        ap (λ vs. of n vs ++ version_in item item.bytes) same ∙ ap (λ vs. of n held.replaced ++ vs) then.2 ∙ is_whole.whole n then.0 then.1 ∙ sym (ap (of n) (append-nil versions));
  }

  -- the version that is replaced is of the item that lives
  other-of : (n number : ℕ) (found : Option LiveItem) → live_at number held.items ≡ found → (number ≡ n → ⊥) → of n (version_of found) ≡ []
  other-of n number None there apart = refl
  other-of n number (Some old) there apart =
      none-of-other n old.number (version_in old old.bytes) (in-item old old.bytes) (λ same. apart (sym (living-made held number old marked there).1 ∙ same))

  -- an item gets new bytes
  over-at : (n number : ℕ) (bytes : List ℕ) (item : LiveItem) (b : Bool) (found : Option LiveItem) → live_at n held.items ≡ found → nat_eq number n ≡ b
      → cond b (option_map (with_bytes (held.number + 1) bytes) found) found ≡ Some item
      → of n (held.replaced ++ version_of (live_at number held.items)) ++ version_in item item.bytes
      ≡ of n (versions ++ record { item = number; content = held.number + 1; bytes = bytes } ∷ [])
  over-at n number bytes item true None there at is = absurd (cc is)
  over-at n number bytes item true (Some old) there at is =
      let new : Version = record { item = number; content = held.number + 1; bytes = bytes } in
      let same : number ≡ n = eqb-true number n at in
      let own : old.number ≡ n = (living-made held n old marked there).1 in
      let becomes : with_bytes (held.number + 1) bytes old ≡ item = cc is in
      let version : version_in item item.bytes ≡ new ∷ [] =
      ap (λ (x : LiveItem). version_in x x.bytes) (sym becomes) ∙ ap (λ m. let v : Version = record { item = m; content = held.number + 1; bytes = bytes } in v ∷ []) (own ∙ sym same) in
      ap (λ vs. of n (held.replaced ++ version_of vs) ++ version_in item item.bytes) (ap (λ m. live_at m held.items) same ∙ there)
      ∙ ap (λ vs. vs ++ version_in item item.bytes)
      (filter-append (is_version_of n) held.replaced (version_in old old.bytes)
      ∙ ap (λ vs. of n held.replaced ++ vs)
      (all-of n (version_in old old.bytes) (each-so (λ (v : Version). v.item ≡ old.number) (λ (v : Version). v.item ≡ n) (λ v is. is ∙ own) (version_in old old.bytes) (in-item old old.bytes)))
      ∙ is_whole.whole n old there)
      ∙ ap (λ vs. of n versions ++ vs) version
      ∙ sym (filter-append (is_version_of n) versions (new ∷ []) ∙ ap (λ vs. of n versions ++ vs) (all-of n (new ∷ []) (same, tt)))
  over-at n number bytes item false found there off is =
      let new : Version = record { item = number; content = held.number + 1; bytes = bytes } in
      let apart : number ≡ n → ⊥ = eqb-false number n off in
      ap (λ vs. vs ++ version_in item item.bytes)
      (filter-append (is_version_of n) held.replaced (version_of (live_at number held.items))
      ∙ ap (λ vs. of n held.replaced ++ vs) (other-of n number (live_at number held.items) refl apart) ∙ append-nil (of n held.replaced))
      ∙ is_whole.whole n item (there ∙ is)
      ∙ sym (append-nil (of n versions))
      ∙ sym (filter-append (is_version_of n) versions (new ∷ []) ∙ ap (λ vs. of n versions ++ vs) (none-of-other n number (new ∷ []) (refl, tt) apart))

  replaced-made : (number : ℕ) (found : Option LiveItem) → live_at number held.items ≡ found → AreMade held.next (version_of found)
  replaced-made number None there = tt
  replaced-made number (Some old) there =
      let parts = living-made held number old marked there in
      let low : number < held.next = parts.0 in
      each-so (λ (v : Version). v.item ≡ old.number) (λ (v : Version). v.item < held.next) (λ v own. omega (arith, own, low, parts.1)) (version_in old old.bytes) (in-item old old.bytes)

  living-low : (number : ℕ) (found : Option LiveItem) → live_at number held.items ≡ found → is_some found ≡ true → number < held.next
  living-low number None there is = absurd (cc is)
  living-low number (Some old) there is = (living-made held number old marked there).0

  with-over : (number : ℕ) (bytes : List ℕ) → Lives number held.items → IsWhole (after held (PutOver number bytes)) (versions ++ put_by held (PutOver number bytes))
  with-over number bytes lives = record {
    made = each-append (λ (v : Version). v.item < held.next) versions (put_by held (PutOver number bytes)) is_whole.made
        (living-low number (live_at number held.items) refl lives, tt);
    replaced = each-append (λ (v : Version). v.item < held.next) held.replaced (version_of (live_at number held.items)) is_whole.replaced
        (replaced-made number (live_at number held.items) refl);
    whole = λ n item is.
        over-at n number bytes item (nat_eq number n) (live_at n held.items) refl refl
        (sym (live-changed n number (with_bytes (held.number + 1) bytes) held.items (λ x. refl)) ∙ is);
  }

  -- an item is moved, and one is removed
  moved-at : (n : ℕ) (f : LiveItem → LiveItem) (item : LiveItem) (b : Bool) (found : Option LiveItem) → ((x : LiveItem) → version_in (f x) (f x).bytes ≡ version_in x x.bytes)
      → live_at n held.items ≡ found → cond b (option_map f found) found ≡ Some item
      → (old : LiveItem) × (live_at n held.items ≡ Some old) × (version_in item item.bytes ≡ version_in old old.bytes)
  moved-at n f item true None keeps there is = absurd (cc is)
  moved-at n f item true (Some old) keeps there is =
      let same : f old ≡ item = cc is in (old, there, ap (λ (x : LiveItem). version_in x x.bytes) (sym same) ∙ keeps old)
  moved-at n f item false found keeps there is = (item, there ∙ is, refl)

  left-at : (n : ℕ) (item : LiveItem) (b : Bool) → cond b None (live_at n held.items) ≡ Some item
      → (old : LiveItem) × (live_at n held.items ≡ Some old) × (version_in item item.bytes ≡ version_in old old.bytes)
  left-at n item true is = absurd (cc is)
  left-at n item false is = (item, is, refl)

  pub whole-after : (effect : Effect) → OnLiving held effect → IsWhole (after held effect) (versions ++ put_by held effect)
  whole-after (MadeFolder parent name) on = with-new (after held (MadeFolder parent name)) (made_folder (held.number + 1) held.next parent name) refl refl refl refl
  whole-after (PutNew parent name bytes) on = with-new (after held (PutNew parent name bytes)) (made_file (held.number + 1) held.next parent name bytes) refl refl refl refl
  whole-after (PutOver number bytes) on = with-over number bytes on
  whole-after (Moved number parent name) on =
      let f : LiveItem → LiveItem = with_place (held.number + 1) parent name in
      same-versions (after held (Moved number parent name)) refl refl
      (λ n item is. moved-at n f item (nat_eq number n) (live_at n held.items) (λ x. placed-version (held.number + 1) parent name x x.bytes) refl (sym (live-changed n number f held.items (λ x. refl)) ∙ is))
  whole-after (Removed number) on =
      same-versions (after held (Removed number)) refl refl (λ n item is. left-at n item (nat_eq number n) (sym (live-lacking n number held.items) ∙ is))

whole-all : (held : Inventory) (effects : List Effect) (versions : List Version) → IsMarked held → IsWhole held versions → AllOnLiving held effects
    → IsWhole (after_all held effects) (versions ++ accepted_after held effects)
whole-all held [] versions marked whole on = subst (IsWhole held) (sym (append-nil versions)) whole
whole-all held (effect ∷ effects) versions marked whole on =
    subst (IsWhole (after_all (after held effect) effects)) (append_assoc versions (put_by held effect) (accepted_after (after held effect) effects))
    (whole-all (after held effect) effects (versions ++ put_by held effect) (marked-after held effect marked) (whole-after held versions marked whole effect on.0) on.1)

abbrev WholeState : State → Type 0
WholeState state = IsWhole (held state) (accepted state.effects)

whole-request : (state : State) (request : Request) → WholeState state → None ≡ refusal state request
    → IsWhole (inventory (state.effects ++ effects_of state request)) (accepted (state.effects ++ effects_of state request))
whole-request state request whole allowed =
    subst (IsWhole (inventory (state.effects ++ effects_of state request))) (sym (accepted-append new_drive state.effects (effects_of state request)))
    (subst (λ (now : Inventory). IsWhole now (accepted state.effects ++ accepted_after (held state) (effects_of state request))) (sym (inventory-append state.effects (effects_of state request)))
    (whole-all (held state) (effects_of state request) (accepted state.effects) (is-marked state.effects) whole (request-on state request allowed)))

whole-step : (state : State) (step : Step) → WholeState state → WholeState (after_step state step)
whole-step state (Ask who request served heard) whole =
    (elim (is_accepted state request served) as (λ b. is_accepted state request served ≡ b → WholeState (cond b (after_request state who request) state)) [
      | true ↦ λ h. whole-request state request whole (none-from (refusal state request) (and_parts served (is_none (refusal state request)) h).1)
      | false ↦ λ h. whole
    ]) refl
whole-step state (Event (Expire number)) whole = whole
whole-step state (Event Restore) whole = whole
whole-step state (Event (EndSession session)) whole = whole
whole-step state (Event Plain) whole = whole

whole-steps : (state : State) (steps : List Step) → WholeState state → WholeState (after_steps state steps)
whole-steps state [] whole = whole
whole-steps state (step ∷ steps) whole = whole-steps (after_step state step) steps (whole-step state step whole)

whole-new : WholeState new_state
whole-new = record { made = tt; replaced = tt; whole = λ n item is. absurd (cc is) }

pub given-log : (log : List Step) (number : ℕ) (item : LiveItem) → live_at number (held_by log).items ≡ Some item
    → given_versions number (held_by log) ≡ of number (accepted_by log)
given-log log number item is =
    ap (λ found. of number (held_by log).replaced ++ version_of found) is ∙ (whole-steps new_state log whole-new).whole number item is

-- ---- each version has a content number of its own
abbrev Rises : List Version → Type 0
Rises [] = Unit {0}
Rises (version ∷ versions) = AllByRecursion (λ (later : Version). version.content < later.content) versions × Rises versions

abbrev ArePast : ℕ → List Version → Type 0
ArePast number versions = AllByRecursion (λ (version : Version). number < version.content) versions

past-later : (number later : ℕ) (versions : List Version) → number ≤ later → ArePast later versions → ArePast number versions
past-later number later versions le all = each-so (λ (v : Version). later < v.content) (λ (v : Version). number < v.content) (λ v low. omega (arith, low, le)) versions all

-- one effect brings at most one version, at its own number
rises-put : (held : Inventory) (effect : Effect) (versions : List Version) → ArePast (after held effect).number versions → Rises versions
    → ArePast held.number (put_by held effect ++ versions) × Rises (put_by held effect ++ versions)
rises-put held (MadeFolder parent name) versions past rises = (past-later held.number (held.number + 1) versions (omega arith) past, rises)
rises-put held (PutNew parent name bytes) versions past rises = ((omega arith, past-later held.number (held.number + 1) versions (omega arith) past), (past, rises))
rises-put held (PutOver number bytes) versions past rises = ((omega arith, past-later held.number (held.number + 1) versions (omega arith) past), (past, rises))
rises-put held (Moved number parent name) versions past rises = (past-later held.number (held.number + 1) versions (omega arith) past, rises)
rises-put held (Removed number) versions past rises = (past-later held.number (held.number + 1) versions (omega arith) past, rises)

rises-after : (held : Inventory) (effects : List Effect) → ArePast held.number (accepted_after held effects) × Rises (accepted_after held effects)
rises-after held [] = (tt, tt)
rises-after held (effect ∷ effects) =
    let rest = rises-after (after held effect) effects in rises-put held effect (accepted_after (after held effect) effects) rest.0 rest.1

each-of : (P : Version → Type 0) (number : ℕ) (versions : List Version) → AllByRecursion P versions → AllByRecursion P (of number versions)
each-of P number [] all = tt
each-of P number (version ∷ versions) all =
    elim (nat_eq version.item number) as (λ b. AllByRecursion P (cond b (version ∷ of number versions) (of number versions)))
    [ true ↦ (all.0, each-of P number versions all.1) | false ↦ each-of P number versions all.1 ]

rises-of : (number : ℕ) (versions : List Version) → Rises versions → Rises (of number versions)
rises-of number [] rises = tt
rises-of number (version ∷ versions) rises =
    elim (nat_eq version.item number) as (λ b. Rises (cond b (version ∷ of number versions) (of number versions))) [
      | true ↦ (each-of (λ (later : Version). version.content < later.content) number versions rises.0, rises-of number versions rises.1)
      | false ↦ rises-of number versions rises.1
    ]

-- ---- an accepted version is found
-- the bytes of the version with this content number
abbrev bytes_at : ℕ → List Version → Option (List ℕ)
bytes_at content [] = None
bytes_at content (version ∷ versions) = cond (nat_eq version.content content) (Some version.bytes) (bytes_at content versions)

replaced-if : (b c : Bool) (content : ℕ) (version : Version) (rest versions : List Version) (found : Option (List ℕ)) → nat_eq version.content content ≡ c → found ≡ bytes_at content versions
    → cond (b && c) (Some version.bytes) found ≡ bytes_at content (cond b (version ∷ versions) versions)
replaced-if true true content version rest versions found at is = sym (ap (λ d. cond d (Some version.bytes) (bytes_at content versions)) at)
replaced-if true false content version rest versions found off is = is ∙ sym (ap (λ d. cond d (Some version.bytes) (bytes_at content versions)) off)
replaced-if false c content version rest versions found at is = is

replaced-of : (number content : ℕ) (versions : List Version) → replaced_bytes number content versions ≡ bytes_at content (of number versions)
replaced-of number content [] = refl
replaced-of number content (version ∷ versions) =
    replaced-if (nat_eq version.item number) (nat_eq version.content content) content version versions (of number versions) (replaced_bytes number content versions) refl (replaced-of number content versions)

found-if : (b : Bool) (version first : Version) (versions : List Version) → Rises (first ∷ versions) → nat_eq first.content version.content ≡ b → Has version (first ∷ versions)
    → (Has version versions → bytes_at version.content versions ≡ Some version.bytes) → cond b (Some first.bytes) (bytes_at version.content versions) ≡ Some version.bytes
found-if true version first versions rises at (inl same) later = ap (λ (v : Version). Some v.bytes) (sym same)
found-if true version first versions rises at (inr more) later =
    absurd
    (let low : first.content < version.content = each-has (λ (w : Version). first.content < w.content) version versions rises.0 more in
    let same : first.content ≡ version.content = eqb-true first.content version.content at in omega (arith, low, same))
found-if false version first versions rises off (inl same) later =
    absurd (eqb-false first.content version.content off (ap (λ (v : Version). v.content) (sym same)))
found-if false version first versions rises off (inr more) later = later more

found-bytes : (version : Version) (versions : List Version) → Rises versions → Has version versions → bytes_at version.content versions ≡ Some version.bytes
found-bytes version [] rises has = absurd has
found-bytes version (first ∷ versions) rises has =
    found-if (nat_eq first.content version.content) version first versions rises refl has (λ more. found-bytes version versions rises.1 more)

last-above : (version : Version) (versions : List Version) (last : Version) → AllByRecursion (λ (later : Version). version.content < later.content) (versions ++ last ∷ []) → version.content < last.content
last-above version [] last all = all.0
last-above version (next ∷ versions) last all = last-above version versions last all.1

-- the last of several versions comes after the others
rises-last : (versions : List Version) (last : Version) → Rises (versions ++ last ∷ []) → AllByRecursion (λ (v : Version). v.content < last.content) versions
rises-last [] last rises = tt
rises-last (version ∷ versions) last rises = (last-above version versions last rises.0, rises-last versions last rises.1)

each-front : (version : Version) (versions : List Version) (last : Version) → AllByRecursion (λ (later : Version). version.content < later.content) (versions ++ last ∷ [])
    → AllByRecursion (λ (later : Version). version.content < later.content) versions
each-front version [] last all = tt
each-front version (next ∷ versions) last all = (all.0, each-front version versions last all.1)

rises-front : (versions : List Version) (last : Version) → Rises (versions ++ last ∷ []) → Rises versions
rises-front [] last rises = tt
rises-front (version ∷ versions) last rises = (each-front version versions last rises.0, rises-front versions last rises.1)

-- the version that stands in a file, and those before it
given-bytes : (version standing : Version) (replaced : List Version) → Rises (replaced ++ standing ∷ []) → Has version replaced ⊎ Has version (standing ∷ [])
    → cond (nat_eq standing.content version.content) (Some standing.bytes) (bytes_at version.content replaced) ≡ Some version.bytes
given-bytes version standing replaced rises (inl before) =
    let low : version.content < standing.content = each-has (λ (v : Version). v.content < standing.content) version replaced (rises-last replaced standing rises) before in
    ap (λ b. cond b (Some standing.bytes) (bytes_at version.content replaced)) (ne_eqb standing.content version.content (λ same. absurd (omega (arith, low, same))))
    ∙ found-bytes version replaced (rises-front replaced standing rises) before
given-bytes version standing replaced rises (inr (inl same)) =
    ap (λ b. cond b (Some standing.bytes) (bytes_at version.content replaced)) (eq-eqb standing.content version.content (ap (λ (v : Version). v.content) (sym same)))
    ∙ ap (λ (v : Version). Some v.bytes) (sym same)
given-bytes version standing replaced rises (inr (inr none)) = absurd none

module _ (log : List Step) (number content : ℕ) (item : LiveItem) (now bytes : List ℕ) (is : live_at number (held_by log).items ≡ Some item) (file : item.bytes ≡ Some now) where
  abbrev wanted : Version
  wanted = record { item = number; content = content; bytes = bytes }

  abbrev standing : Version
  standing = record { item = item.number; content = item.content; bytes = now }

  -- what can be given is what was accepted for this item
  given-is : of number (held_by log).replaced ++ standing ∷ [] ≡ of number (accepted_by log)
  given-is =
      ap (λ found. of number (held_by log).replaced ++ version_in item found) (sym file)
      ∙ (whole-steps new_state log whole-new).whole number item is

  in-given : Contains (accepted_by log) wanted → Has wanted (of number (held_by log).replaced) ⊎ Has wanted (standing ∷ [])
  in-given there =
      some-cases (λ (v : Version). wanted ≡ v) (of number (held_by log).replaced) (standing ∷ [])
      (subst (Has wanted) (sym given-is) (has-filter (is_version_of number) wanted (accepted_by log) (eq-eqb number number refl) (has-from-contains wanted (accepted_by log) there)))

  given-rises : Rises (of number (held_by log).replaced ++ standing ∷ [])
  given-rises = subst Rises (sym given-is) (rises-of number (accepted_by log) (rises-after new_drive (state_of log).effects).1)

  own-number : item.number ≡ number
  own-number = (living-made (held_by log) number item (is-marked (state_of log).effects) is).1

  to-given : Contains (accepted_by log) wanted → version_at number content (held_by log) ≡ Some bytes
  to-given there =
      ap (item_version content (held_by log).replaced) is
      ∙ ap (file_version content (held_by log).replaced item) file
      ∙ ap (λ m. cond (nat_eq item.content content) (Some now) (replaced_bytes m content (held_by log).replaced)) own-number
      ∙ ap (λ found. cond (nat_eq item.content content) (Some now) found) (replaced-of number content (held_by log).replaced)
      ∙ given-bytes wanted standing (of number (held_by log).replaced) given-rises (in-given there)

  pub version-given : (version_at number content (held_by log) ≡ Some bytes) ↔ Contains (accepted_by log) (record { item = number; content = content; bytes = bytes })
  version-given = (
    λ given. contains-from-has wanted (accepted_by log)
        (some-so (λ (v : Version). v ≡ wanted) (λ (v : Version). wanted ≡ v) (λ v same. sym same) (accepted_by log)
        (some-from-any (λ (v : Version). v ≡ wanted) (accepted_by log) (version-log log number content bytes given))),
    λ there. to-given there,
  )
