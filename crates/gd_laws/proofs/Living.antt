-- What lives at a number after one more effect, and what then holds of each item.
use Rattle.std.proofs.Common.{◌≡◌, ℕ, ◌<◌, Bool, true, false, not, cond, nat_eq, List, [], ◌∷◌, ◌++◌, filter, Option, Some, None, refl, ap, sym, subst, ◌∙◌, arith}
use Rattle.std.proofs.lemmas.Bool.{eqb-true, eq-eqb, ne_eqb}
use Rattle.std.specs.List.{AllByRecursion}
use Rattle.std.specs.Option.{option_map}
use Rattle.gd_item.specs.Inventory.{live_at, changed}
use Rattle.gd_item.specs.declared.live.LiveItem.{LiveItem}
use Rattle.gd_names.proofs.Each.{each-append}

-- one choice after another
module _ {Y : Type 0} where
  pub crossed : (b c : Bool) (v w d : Y) → (b ≡ true → c ≡ true → ⊥) → cond b v (cond c w d) ≡ cond c w (cond b v d)
  crossed true true v w d apart = absurd (apart refl refl)
  crossed true false v w d apart = refl
  crossed false true v w d apart = refl
  crossed false false v w d apart = refl

  pub either-way : (b : Bool) (d : Y) → cond b d d ≡ d
  either-way true d = refl
  either-way false d = refl

-- the items without that of a number
abbrev pub lacking : ℕ → List LiveItem → List LiveItem
lacking number items = filter (λ (item : LiveItem). not (nat_eq item.number number)) items

-- ---- what holds of each
pub each-changed : (P : LiveItem → Type 0) (number : ℕ) (f : LiveItem → LiveItem) (items : List LiveItem) → ((x : LiveItem) → P x → P (f x)) → AllByRecursion P items → AllByRecursion P (changed number f items)
each-changed P number f [] also all = tt
each-changed P number f (item ∷ items) also all =
    elim (nat_eq item.number number) as (λ b. AllByRecursion P (cond b (f item ∷ items) (item ∷ changed number f items))) [
      | true ↦ (also item all.0, all.1)
      | false ↦ (all.0, each-changed P number f items also all.1)
    ]

pub each-lacking : (P : LiveItem → Type 0) (number : ℕ) (items : List LiveItem) → AllByRecursion P items → AllByRecursion P (lacking number items)
each-lacking P number [] all = tt
each-lacking P number (item ∷ items) all =
    elim (nat_eq item.number number) as (λ b. AllByRecursion P (cond (not b) (item ∷ lacking number items) (lacking number items))) [
      | true ↦ each-lacking P number items all.1
      | false ↦ (all.0, each-lacking P number items all.1)
    ]

-- ---- numbers that rise
abbrev pub Rising : List LiveItem → Type 0
Rising [] = Unit {0}
Rising (item ∷ items) = AllByRecursion (λ (y : LiveItem). item.number < y.number) items × Rising items

pub rising-append : (items : List LiveItem) (new : LiveItem) → Rising items → AllByRecursion (λ (x : LiveItem). x.number < new.number) items → Rising (items ++ new ∷ [])
rising-append [] new rising below = (tt, tt)
rising-append (item ∷ items) new rising below =
    (each-append (λ (y : LiveItem). item.number < y.number) items (new ∷ []) rising.0 (below.0, tt), rising-append items new rising.1 below.1)

pub rising-changed : (number : ℕ) (f : LiveItem → LiveItem) (items : List LiveItem) → ((x : LiveItem) → (f x).number ≡ x.number) → Rising items → Rising (changed number f items)
rising-changed number f [] keeps rising = tt
rising-changed number f (item ∷ items) keeps rising =
    elim (nat_eq item.number number) as (λ b. Rising (cond b (f item ∷ items) (item ∷ changed number f items))) [
      | true ↦ (subst (λ n. AllByRecursion (λ (y : LiveItem). n < y.number) items) (sym (keeps item)) rising.0, rising.1)
      | false ↦ (
        each-changed (λ (y : LiveItem). item.number < y.number) number f items (λ x above. omega (arith, above, keeps x)) rising.0,
        rising-changed number f items keeps rising.1,
      )
    ]

pub rising-lacking : (number : ℕ) (items : List LiveItem) → Rising items → Rising (lacking number items)
rising-lacking number [] rising = tt
rising-lacking number (item ∷ items) rising =
    elim (nat_eq item.number number) as (λ b. Rising (cond (not b) (item ∷ lacking number items) (lacking number items))) [
      | true ↦ rising-lacking number items rising.1
      | false ↦ (each-lacking (λ (y : LiveItem). item.number < y.number) number items rising.0, rising-lacking number items rising.1)
    ]

-- no item that comes later has this number, or a lower one
pub none-later : (n : ℕ) (items : List LiveItem) → AllByRecursion (λ (x : LiveItem). n < x.number) items → live_at n items ≡ None
none-later n [] above = refl
none-later n (item ∷ items) above =
    let other : nat_eq item.number n ≡ false = ne_eqb item.number n (λ is. absurd (omega (arith, is, above.0))) in
    rw (other) (none-later n items above.1)

-- ---- what lives at a number
-- what holds of each item holds of the one that lives there
found-at : (b : Bool) (P : LiveItem → Type 0) (n : ℕ) (item x : LiveItem) (rest : Option LiveItem) → nat_eq item.number n ≡ b → P item
    → (rest ≡ Some x → P x × (x.number ≡ n)) → cond b (Some item) rest ≡ Some x → P x × (x.number ≡ n)
found-at true P n item x rest at here later is =
    let same : item ≡ x = cc is in
    subst (λ (y : LiveItem). P y × (y.number ≡ n)) same (here, eqb-true item.number n at)
found-at false P n item x rest off here later is = later is

pub of-living : (P : LiveItem → Type 0) (n : ℕ) (items : List LiveItem) (x : LiveItem) → AllByRecursion P items → live_at n items ≡ Some x → P x × (x.number ≡ n)
of-living P n [] x all is = absurd (cc is)
of-living P n (item ∷ items) x all is = found-at (nat_eq item.number n) P n item x (live_at n items) refl all.0 (of-living P n items x all.1) is

-- where nothing lives at a number, no item has it
off-at : (b : Bool) (n : ℕ) (item : LiveItem) (rest : Option LiveItem) → nat_eq item.number n ≡ b → cond b (Some item) rest ≡ None → (item.number ≡ n → ⊥) × (rest ≡ None)
off-at true n item rest at none = absurd (cc none)
off-at false n item rest off none = (λ is. absurd (let at : nat_eq item.number n ≡ true = eq-eqb item.number n is in cc), none)

pub none-has : (n : ℕ) (items : List LiveItem) → live_at n items ≡ None → AllByRecursion (λ (x : LiveItem). x.number ≡ n → ⊥) items
none-has n [] none = tt
none-has n (item ∷ items) none =
    let parts = off-at (nat_eq item.number n) n item (live_at n items) refl none in (parts.0, none-has n items parts.1)

-- one more item
abbrev pub or_live : Option LiveItem → Option LiveItem → Option LiveItem
or_live None other = other
or_live (Some x) other = Some x

or-at : (b : Bool) (item : LiveItem) (rest other : Option LiveItem) → cond b (Some item) (or_live rest other) ≡ or_live (cond b (Some item) rest) other
or-at true item rest other = refl
or-at false item rest other = refl

pub live-append : (n : ℕ) (items : List LiveItem) (new : LiveItem) → live_at n (items ++ new ∷ []) ≡ or_live (live_at n items) (cond (nat_eq new.number n) (Some new) None)
live-append n [] new = refl
live-append n (item ∷ items) new =
    ap (λ rest. cond (nat_eq item.number n) (Some item) rest) (live-append n items new)
    ∙ or-at (nat_eq item.number n) item (live_at n items) (cond (nat_eq new.number n) (Some new) None)

-- a changed item
kept-off : (a c : Bool) (item : LiveItem) (f : LiveItem → LiveItem) (rest : Option LiveItem) → (a ≡ true → c ≡ true → ⊥)
    → cond a (Some item) (cond c (option_map f rest) rest) ≡ cond c (option_map f (cond a (Some item) rest)) (cond a (Some item) rest)
kept-off true true item f rest apart = absurd (apart refl refl)
kept-off true false item f rest apart = refl
kept-off false true item f rest apart = refl
kept-off false false item f rest apart = refl

here-at : (c : Bool) (item : LiveItem) (f : LiveItem → LiveItem) (rest : Option LiveItem)
    → cond c (Some (f item)) rest ≡ cond c (option_map f (cond c (Some item) rest)) (cond c (Some item) rest)
here-at true item f rest = refl
here-at false item f rest = refl

changed-at : (b : Bool) (n number : ℕ) (f : LiveItem → LiveItem) (item : LiveItem) (items : List LiveItem) → nat_eq item.number number ≡ b → (f item).number ≡ item.number
    → live_at n (changed number f items) ≡ cond (nat_eq number n) (option_map f (live_at n items)) (live_at n items)
    → live_at n (cond b (f item ∷ items) (item ∷ changed number f items)) ≡ cond (nat_eq number n) (option_map f (live_at n (item ∷ items))) (live_at n (item ∷ items))
changed-at true n number f item items at keeps rest =
    let here : item.number ≡ number = eqb-true item.number number at in
    ap (λ m. cond (nat_eq m n) (Some (f item)) (live_at n items)) (keeps ∙ here) ∙ here-at (nat_eq number n) item f (live_at n items)
    ∙ ap (λ m. cond (nat_eq number n) (option_map f (cond (nat_eq m n) (Some item) (live_at n items))) (cond (nat_eq m n) (Some item) (live_at n items))) (sym here)
changed-at false n number f item items off keeps rest =
    ap (λ d. cond (nat_eq item.number n) (Some item) d) rest
    ∙ kept-off (nat_eq item.number n) (nat_eq number n) item f (live_at n items)
    (λ first second. absurd (let at : nat_eq item.number number ≡ true = eq-eqb item.number number (eqb-true item.number n first ∙ sym (eqb-true number n second)) in cc))

pub live-changed : (n number : ℕ) (f : LiveItem → LiveItem) (items : List LiveItem) → ((x : LiveItem) → (f x).number ≡ x.number)
    → live_at n (changed number f items) ≡ cond (nat_eq number n) (option_map f (live_at n items)) (live_at n items)
live-changed n number f [] keeps = sym (either-way (nat_eq number n) None)
live-changed n number f (item ∷ items) keeps =
    changed-at (nat_eq item.number number) n number f item items refl (keeps item) (live-changed n number f items keeps)

-- an item less
lacking-here : (c : Bool) (item : LiveItem) (rest : Option LiveItem) → cond c None rest ≡ cond c None (cond c (Some item) rest)
lacking-here true item rest = refl
lacking-here false item rest = refl

lacking-at : (b : Bool) (n number : ℕ) (item : LiveItem) (items : List LiveItem) → nat_eq item.number number ≡ b
    → live_at n (lacking number items) ≡ cond (nat_eq number n) None (live_at n items)
    → live_at n (cond (not b) (item ∷ lacking number items) (lacking number items)) ≡ cond (nat_eq number n) None (live_at n (item ∷ items))
lacking-at true n number item items at rest =
    rest ∙ lacking-here (nat_eq number n) item (live_at n items)
    ∙ ap (λ m. cond (nat_eq number n) None (cond (nat_eq m n) (Some item) (live_at n items))) (sym (eqb-true item.number number at))
lacking-at false n number item items off rest =
    ap (λ d. cond (nat_eq item.number n) (Some item) d) rest
    ∙ crossed (nat_eq item.number n) (nat_eq number n) (Some item) None (live_at n items)
    (λ first second. absurd (let at : nat_eq item.number number ≡ true = eq-eqb item.number number (eqb-true item.number n first ∙ sym (eqb-true number n second)) in cc))

pub live-lacking : (n number : ℕ) (items : List LiveItem) → live_at n (lacking number items) ≡ cond (nat_eq number n) None (live_at n items)
live-lacking n number [] = sym (either-way (nat_eq number n) None)
live-lacking n number (item ∷ items) = lacking-at (nat_eq item.number number) n number item items refl (live-lacking n number items)

-- nothing lives where nothing lived
pub none-changed : (n number : ℕ) (f : LiveItem → LiveItem) (items : List LiveItem) → ((x : LiveItem) → (f x).number ≡ x.number) → live_at n items ≡ None → live_at n (changed number f items) ≡ None
none-changed n number f items keeps none =
    live-changed n number f items keeps ∙ ap (λ d. cond (nat_eq number n) (option_map f d) d) none ∙ either-way (nat_eq number n) None

pub none-lacking : (n number : ℕ) (items : List LiveItem) → live_at n items ≡ None → live_at n (lacking number items) ≡ None
none-lacking n number items none = live-lacking n number items ∙ ap (λ d. cond (nat_eq number n) None d) none ∙ either-way (nat_eq number n) None

pub gone-lacking : (number : ℕ) (items : List LiveItem) → live_at number (lacking number items) ≡ None
gone-lacking number items =
    live-lacking number number items ∙ ap (λ b. cond b None (live_at number items)) (eq-eqb number number refl)

pub none-append : (n : ℕ) (items : List LiveItem) (new : LiveItem) → (new.number ≡ n → ⊥) → live_at n items ≡ None → live_at n (items ++ new ∷ []) ≡ None
none-append n items new other none =
    live-append n items new ∙ ap (λ d. or_live d (cond (nat_eq new.number n) (Some new) None)) none ∙ ap (λ b. cond b (Some new) None) (ne_eqb new.number n other)
