-- What records tell of a number: the last of them counts. Where no two are of one item, it is the one of this number.
use Rattle.std.proofs.Common.{◌≡◌, ℕ, ◌⊎◌, inl, inr, Bool, true, false, cond, nat_eq, List, [], ◌∷◌, map, Option, Some, None, refl, ap, sym, subst, ◌∙◌, arith}
use Rattle.std.proofs.lemmas.Bool.{cases_order, eqb-true, eq-eqb, ne_eqb}
use Rattle.std.specs.List.{AllByRecursion}
use Rattle.gd_names.proofs.Maps.{look, Up, looked-up, look-put, up-put, look-without, up-without}
use Rattle.gd_item.specs.declared.item.Item.{Item}
use Rattle.gd_item.specs.declared.item.Kind.{Kind}
use Rattle.gd_item.specs.declared.item.Kind.TheVariants.{Folder, File, Bare, Deleted}
use Rattle.gd_laws.proofs.Members.{Has, Paired, each-has}
use Rattle.od_mirror.specs.Pulled.{known_kind, known_item, with_kind, with_record, with_records}

-- the item of a record after another one, if it is not that of a removed one
abbrev pub standing : Kind → Option Item → Item → Option Item
standing (Folder child_count) before item = Some item
standing (File digest) before item = Some item
standing Bare before item = Some (record item { kind = known_kind item.etag before })
standing Deleted before item = None

abbrev pub told_one : ℕ → Option Item → Item → Option Item
told_one n before item = cond (nat_eq item.id.0 n) (standing item.kind before item) before

abbrev pub told : ℕ → Option Item → List Item → Option Item
told n before [] = before
told n before (item ∷ items) = told n (told_one n before item) items

-- ---- the map after records
bare-at : (b : Bool) (n : ℕ) (es : List (ℕ × Item)) (item : Item) → nat_eq item.id.0 n ≡ b → cond b (Some (known_item es item)) (look n es) ≡ cond b (standing Bare (look n es) item) (look n es)
bare-at true n es item at =
    ap (λ before. let known : Item = record item { kind = known_kind item.etag before } in Some known) (looked-up item.id.0 es ∙ ap (λ m. look m es) (eqb-true item.id.0 n at))
bare-at false n es item off = refl

look-kind : (n : ℕ) (kind : Kind) (es : List (ℕ × Item)) (item : Item) → Up es → look n (with_kind kind es item.id.0 item) ≡ cond (nat_eq item.id.0 n) (standing kind (look n es) item) (look n es)
look-kind n (Folder child_count) es item up = look-put n item.id.0 item es
look-kind n (File digest) es item up = look-put n item.id.0 item es
look-kind n Bare es item up = look-put n item.id.0 (known_item es item) es ∙ bare-at (nat_eq item.id.0 n) n es item refl
look-kind n Deleted es item up = look-without n item.id.0 es up

up-kind : (kind : Kind) (es : List (ℕ × Item)) (item : Item) → Up es → Up (with_kind kind es item.id.0 item)
up-kind (Folder child_count) es item up = up-put item.id.0 item es up
up-kind (File digest) es item up = up-put item.id.0 item es up
up-kind Bare es item up = up-put item.id.0 (known_item es item) es up
up-kind Deleted es item up = up-without item.id.0 es up

pub up-records : (es : List (ℕ × Item)) (items : List Item) → Up es → Up (with_records es items)
up-records es [] up = up
up-records es (item ∷ items) up = up-records (with_record es item) items (up-kind item.kind es item up)

pub look-records : (n : ℕ) (es : List (ℕ × Item)) (items : List Item) → Up es → look n (with_records es items) ≡ told n (look n es) items
look-records n es [] up = refl
look-records n es (item ∷ items) up =
    look-records n (with_record es item) items (up-kind item.kind es item up) ∙ ap (λ before. told n before items) (look-kind n item.kind es item up)

-- ---- records of which no two are of one item
abbrev pub IsNot : ℕ → Item → Type 0
IsNot n item = item.id.0 ≡ n → ⊥

pub told-none : (n : ℕ) (before : Option Item) (items : List Item) → AllByRecursion (IsNot n) items → told n before items ≡ before
told-none n before [] none = refl
told-none n before (item ∷ items) none =
    ap (λ b. told n (cond b (standing item.kind before item) before) items) (ne_eqb item.id.0 n none.0) ∙ told-none n before items none.1

module _ {E : Type 0} (f : E → Item) where
  abbrev pub Differ : E → E → Type 0
  Differ x y = (f x).id.0 ≡ (f y).id.0 → ⊥

  pub each-not : (n : ℕ) (es : List E) → AllByRecursion (λ (e : E). IsNot n (f e)) es → AllByRecursion (IsNot n) (map f es)
  each-not n [] none = tt
  each-not n (e ∷ es) none = (none.0, each-not n es none.1)

  differ-not : (n : ℕ) (e : E) (es : List E) → (f e).id.0 ≡ n → AllByRecursion (Differ e) es → AllByRecursion (IsNot n) (map f es)
  differ-not n e [] at differ = tt
  differ-not n e (x ∷ es) at differ = ((λ is. differ.0 (at ∙ sym is)), differ-not n e es at differ.1)

  told-first : (n : ℕ) (before : Option Item) (e : E) (es : List E) → AllByRecursion (Differ e) es → (f e).id.0 ≡ n → told n before (map f (e ∷ es)) ≡ standing (f e).kind before (f e)
  told-first n before e es differ at =
      ap (λ b. told n (cond b (standing (f e).kind before (f e)) before) (map f es)) (eq-eqb (f e).id.0 n at)
      ∙ told-none n (standing (f e).kind before (f e)) (map f es) (differ-not n e es at differ)

  pub told-there : (n : ℕ) (before : Option Item) (e : E) (es : List E) → Paired Differ es → Has e es → (f e).id.0 ≡ n → told n before (map f es) ≡ standing (f e).kind before (f e)
  told-there n before e [] differ has at = absurd has
  told-there n before e (first ∷ es) differ (inl same) at =
      subst (λ (x : E). told n before (map f (first ∷ es)) ≡ standing (f x).kind before (f x)) (sym same)
      (told-first n before first es differ.0 (ap (λ (x : E). (f x).id.0) (sym same) ∙ at))
  told-there n before e (first ∷ es) differ (inr later) at =
      let other : IsNot n (f first) = λ is. each-has (Differ first) e es differ.0 later (is ∙ sym at) in
      ap (λ b. told n (cond b (standing (f first).kind before (f first)) before) (map f es)) (ne_eqb (f first).id.0 n other) ∙ told-there n before e es differ.1 later at

  -- a record of this number is there, or none is
  pub record IsFound (n : ℕ) (es : List E) : Type 0 where
    pub entry : E
    pub has : Has entry es
    pub at : (f entry).id.0 ≡ n

  later-found : (n : ℕ) (first : E) (es : List E) → IsNot n (f first) → IsFound n es ⊎ AllByRecursion (λ (e : E). IsNot n (f e)) es
      → IsFound n (first ∷ es) ⊎ AllByRecursion (λ (e : E). IsNot n (f e)) (first ∷ es)
  later-found n first es other (inl found) = inl (record { entry = found.entry; has = inr found.has; at = found.at })
  later-found n first es other (inr none) = inr (other, none)

  pub by-number : (n : ℕ) (es : List E) → IsFound n es ⊎ AllByRecursion (λ (e : E). IsNot n (f e)) es
  by-number n [] = inr tt
  by-number n (e ∷ es) =
      elim (cases_order (f e).id.0 n) as (λ c. IsFound n (e ∷ es) ⊎ AllByRecursion (λ (x : E). IsNot n (f x)) (e ∷ es)) [
        | inl at ↦ inl (record { entry = e; has = inl refl; at = at })
        | inr apart ↦ later-found n e es (λ is. elim apart [ inl less ↦ absurd (omega (arith, is, less)) | inr more ↦ absurd (omega (arith, is, more)) ]) (by-number n es)
      ]
