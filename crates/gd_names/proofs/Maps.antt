-- Maps in order of number: what stands at a number, also where an entry was put or removed. Where two maps have what belongs
-- together at each number, so do their values, place by place.
use Rattle.std.proofs.Common.{◌≡◌, ℕ, ◌<◌, inl, inr, Bool, true, false, cond, nat_eq, List, [], ◌∷◌, Option, Some, None, refl, ap, sym, subst, ◌∙◌, arith}
use Rattle.std.proofs.lemmas.Bool.{cases_order, eqb-true, eq-eqb, ne_eqb}
use Rattle.std.specs.BTreeMap.{is_at}
use Rattle.std.specs.Cmp.{nat_cmp_is}
use Rattle.std.specs.List.{AllByRecursion, AllZip}
use Rattle.std.specs.Map.{values_of, lookup, remove_entry}
use Rattle.std.specs.Ordering.{nat_cmp, is_eq}
use Rattle.std.specs.declared.cmp.Ordering.TheVariants.{Less, Equal, Greater}
use Rattle.gd_names.proofs.Each.{each-so}
use Rattle.gd_names.proofs.Inserted.{put, put-less, put-equal, put-greater, all-put}

pub same-number : (n : ℕ) → nat_eq n n ≡ true
same-number n = eq-eqb n n refl

-- ---- one choice after another
module _ {Y : Type 0} where
  twice : (b : Bool) (v w d : Y) → cond b v (cond b w d) ≡ cond b v d
  twice true v w d = refl
  twice false v w d = refl

  crossed : (b c : Bool) (v w d : Y) → (b ≡ true → c ≡ true → ⊥) → cond b v (cond c w d) ≡ cond c w (cond b v d)
  crossed true true v w d apart = absurd (apart refl refl)
  crossed true false v w d apart = refl
  crossed false true v w d apart = refl
  crossed false false v w d apart = refl

  either-way : (b : Bool) (d : Y) → cond b d d ≡ d
  either-way true d = refl
  either-way false d = refl

two-numbers : (a b n : ℕ) → (a ≡ b → ⊥) → nat_eq a n ≡ true → nat_eq b n ≡ true → ⊥
two-numbers a b n apart first second = apart (eqb-true a n first ∙ sym (eqb-true b n second))

-- a query of the map for a number
test-at : (k j : ℕ) → is_at (nat_cmp k) j ≡ nat_eq j k
test-at k j =
    elim (cases_order k j) [
      | inl same ↦ ap is_eq (sym (nat_cmp_is k j Equal same)) ∙ sym (eq-eqb j k (sym same))
      | inr apart ↦ elim apart [
        | inl less ↦ ap is_eq (sym (nat_cmp_is k j Less less)) ∙ sym (ne_eqb j k (λ is. absurd (omega (arith, is, less))))
        | inr more ↦ ap is_eq (sym (nat_cmp_is k j Greater more)) ∙ sym (ne_eqb j k (λ is. absurd (omega (arith, is, more))))
      ]
    ]

module _ {X : Type 0} where
  -- what stands at a number
  abbrev pub look : ℕ → List (ℕ × X) → Option X
  look n [] = None
  look n (e ∷ es) = cond (nat_eq e.0 n) (Some e.1) (look n es)

  pub looked-up : (n : ℕ) (es : List (ℕ × X)) → lookup (is_at (nat_cmp n)) es ≡ look n es
  looked-up n [] = refl
  looked-up n (e ∷ es) = ap (λ b. cond b (Some e.1) (lookup (is_at (nat_cmp n)) es)) (test-at n e.0) ∙ ap (λ d. cond (nat_eq e.0 n) (Some e.1) d) (looked-up n es)

  -- the numbers rise
  abbrev pub Up : List (ℕ × X) → Type 0
  Up [] = Unit {0}
  Up (e ∷ es) = AllByRecursion (λ (f : ℕ × X). e.0 < f.0) es × Up es

  above-too : (k j : ℕ) (es : List (ℕ × X)) → k < j → AllByRecursion (λ (f : ℕ × X). j < f.0) es → AllByRecursion (λ (f : ℕ × X). k < f.0) es
  above-too k j es less all = each-so (λ (f : ℕ × X). j < f.0) (λ (f : ℕ × X). k < f.0) (λ f h. omega (arith, less, h)) es all

  pub none-above : (n : ℕ) (es : List (ℕ × X)) → AllByRecursion (λ (e : ℕ × X). n < e.0) es → look n es ≡ None
  none-above n [] above = refl
  none-above n (e ∷ es) above =
      let other : nat_eq e.0 n ≡ false = ne_eqb e.0 n (λ is. absurd (omega (arith, is, above.0))) in
      rw (other) (none-above n es above.1)

  pub look-first : (e : ℕ × X) (es : List (ℕ × X)) → look e.0 (e ∷ es) ≡ Some e.1
  look-first e es = ap (λ b. cond b (Some e.1) (look e.0 es)) (same-number e.0)

  -- ---- one more entry
  pub look-put : (n k : ℕ) (v : X) (es : List (ℕ × X)) → look n (put es k v) ≡ cond (nat_eq k n) (Some v) (look n es)
  look-put n k v [] = refl
  look-put n k v (e ∷ es) =
      elim (cases_order k e.0) [
        | inl same ↦
            ap (look n) (put-equal k v e es same) ∙ ap (λ j. cond (nat_eq j n) (Some v) (look n es)) (sym same)
            ∙ sym (twice (nat_eq k n) (Some v) (Some e.1) (look n es))
            ∙ ap (λ j. cond (nat_eq k n) (Some v) (cond (nat_eq j n) (Some e.1) (look n es))) same
        | inr apart ↦ elim apart [
          | inl less ↦ ap (look n) (put-less k v e es less)
          | inr more ↦
              ap (look n) (put-greater k v e es more) ∙ ap (λ d. cond (nat_eq e.0 n) (Some e.1) d) (look-put n k v es)
              ∙ crossed (nat_eq e.0 n) (nat_eq k n) (Some e.1) (Some v) (look n es) (two-numbers e.0 k n (λ is. absurd (omega (arith, is, more))))
        ]
      ]

  pub up-put : (k : ℕ) (v : X) (es : List (ℕ × X)) → Up es → Up (put es k v)
  up-put k v [] up = (tt, tt)
  up-put k v (e ∷ es) up =
      elim (cases_order k e.0) [
        | inl same ↦ rw (put-equal k v e es same) up
        | inr apart ↦ elim apart [
          | inl less ↦ rw (put-less k v e es less) ((less, above-too k e.0 es less up.0), up)
          | inr more ↦ rw (put-greater k v e es more) (all-put (λ (f : ℕ × X). e.0 < f.0) k v es up.0 more, up-put k v es up.1)
        ]
      ]

  -- ---- one entry less
  abbrev pub without : ℕ → List (ℕ × X) → List (ℕ × X)
  without k es = remove_entry (is_at (nat_cmp k)) es

  gone-at : (c : Bool) (w : X) (d : Option X) → (c ≡ true → d ≡ None) → d ≡ cond c None (cond c (Some w) d)
  gone-at true w d none = none refl
  gone-at false w d none = refl

  without-at : (n k : ℕ) (e : ℕ × X) (es : List (ℕ × X)) (b : Bool) → nat_eq e.0 k ≡ b → Up (e ∷ es) → look n (without k es) ≡ cond (nat_eq k n) None (look n es)
      → look n (cond b es (e ∷ without k es)) ≡ cond (nat_eq k n) None (look n (e ∷ es))
  without-at n k e es true at up rest =
      let same : e.0 ≡ k = eqb-true e.0 k at in
      gone-at (nat_eq k n) e.1 (look n es) (λ is. subst (λ m. look m es ≡ None) (same ∙ eqb-true k n is) (none-above e.0 es up.0))
      ∙ ap (λ j. cond (nat_eq k n) None (cond (nat_eq j n) (Some e.1) (look n es))) (sym same)
  without-at n k e es false off up rest =
      ap (λ d. cond (nat_eq e.0 n) (Some e.1) d) rest
      ∙ crossed (nat_eq e.0 n) (nat_eq k n) (Some e.1) None (look n es)
      (two-numbers e.0 k n (λ is. absurd (let at : nat_eq e.0 k ≡ true = eq-eqb e.0 k is in cc)))

  pub look-without : (n k : ℕ) (es : List (ℕ × X)) → Up es → look n (without k es) ≡ cond (nat_eq k n) None (look n es)
  look-without n k [] up = sym (either-way (nat_eq k n) None)
  look-without n k (e ∷ es) up =
      ap (λ b. look n (cond b es (e ∷ without k es))) (test-at k e.0) ∙ without-at n k e es (nat_eq e.0 k) refl up (look-without n k es up.1)

  all-without : (P : ℕ × X → Type 0) (k : ℕ) (es : List (ℕ × X)) → AllByRecursion P es → AllByRecursion P (without k es)
  all-without P k [] all = tt
  all-without P k (e ∷ es) all =
      elim (is_at (nat_cmp k) e.0) as (λ b. AllByRecursion P (cond b es (e ∷ without k es))) [ true ↦ all.1 | false ↦ (all.0, all-without P k es all.1) ]

  pub up-without : (k : ℕ) (es : List (ℕ × X)) → Up es → Up (without k es)
  up-without k [] up = tt
  up-without k (e ∷ es) up =
      elim (is_at (nat_cmp k) e.0) as (λ b. Up (cond b es (e ∷ without k es))) [
        | true ↦ up.1
        | false ↦ (all-without (λ (f : ℕ × X). e.0 < f.0) k es up.0, up-without k es up.1)
      ]

-- ---- two maps
-- two things that belong together, or none
abbrev pub Both : {X Y : Type 0} → (X → Y → Type 0) → Option X → Option Y → Type 0
Both R None None = Unit {0}
Both R None (Some y) = ⊥
Both R (Some x) None = ⊥
Both R (Some x) (Some y) = R x y

module _ {X Y : Type 0} (R : X → Y → Type 0) where
  nothing-there : (e : ℕ × X) (es : List (ℕ × X)) (found : Option Y) → found ≡ None → Both R (look e.0 (e ∷ es)) found → ⊥
  nothing-there e es found none both =
      let at : Both R (Some e.1) found = subst (λ here. Both R here found) (look-first e es) both in
      let alone : Both R (Some e.1) None = subst (λ there. Both R (Some e.1) there) none at in
      alone

  nothing-here : (f : ℕ × Y) (fs : List (ℕ × Y)) (found : Option X) → found ≡ None → Both R found (look f.0 (f ∷ fs)) → ⊥
  nothing-here f fs found none both =
      let at : Both R found (Some f.1) = subst (λ there. Both R found there) (look-first f fs) both in
      let alone : Both R None (Some f.1) = subst (λ here. Both R here (Some f.1)) none at in
      alone

  rest-at : (b c : Bool) (v : X) (w : Y) (d : Option X) (g : Option Y) → (b ≡ true → d ≡ None) → (b ≡ true → g ≡ None) → b ≡ c → Both R (cond b (Some v) d) (cond c (Some w) g) → Both R d g
  rest-at true c v w d g first second is both = subst (λ here. Both R here g) (sym (first refl)) (subst (λ there. Both R None there) (sym (second refl)) tt)
  rest-at false true v w d g first second is both = absurd (cc is)
  rest-at false false v w d g first second is both = both

  none-at : {Z : Type 0} (k n : ℕ) (es : List (ℕ × Z)) → AllByRecursion (λ (e : ℕ × Z). k < e.0) es → nat_eq k n ≡ true → look n es ≡ None
  none-at {Z} k n es above at = subst (λ m. look m es ≡ None) (eqb-true k n at) (none-above k es above)

  firsts-at : (e : ℕ × X) (f : ℕ × Y) (es : List (ℕ × X)) (fs : List (ℕ × Y)) → e.0 ≡ f.0 → Both R (look e.0 (e ∷ es)) (look e.0 (f ∷ fs)) → R e.1 f.1
  firsts-at e f es fs at both =
      let there : look e.0 (f ∷ fs) ≡ Some f.1 = ap (λ k. look k (f ∷ fs)) at ∙ look-first f fs in
      let here : Both R (Some e.1) (look e.0 (f ∷ fs)) = subst (λ found. Both R found (look e.0 (f ∷ fs))) (look-first e es) both in
      let joined : Both R (Some e.1) (Some f.1) = subst (λ found. Both R (Some e.1) found) there here in
      joined

  pub zip-looks : (es : List (ℕ × X)) (fs : List (ℕ × Y)) → Up es → Up fs → ((n : ℕ) → Both R (look n es) (look n fs)) → AllZip R (values_of es) (values_of fs)
  zip-looks [] [] up other both = tt
  zip-looks [] (f ∷ fs) up other both = absurd (nothing-here f fs None refl (both f.0))
  zip-looks (e ∷ es) [] up other both = absurd (nothing-there e es None refl (both e.0))
  zip-looks (e ∷ es) (f ∷ fs) up other both =
      elim (cases_order e.0 f.0) [
        | inl at ↦ (
          firsts-at e f es fs at (both e.0),
          zip-looks es fs up.1 other.1
              (λ n. rest-at (nat_eq e.0 n) (nat_eq f.0 n) e.1 f.1 (look n es) (look n fs) (none-at e.0 n es up.0)
              (λ is. none-at f.0 n fs other.0 (subst (λ k. nat_eq k n ≡ true) at is)) (ap (λ k. nat_eq k n) at) (both n)),
        )
        | inr apart ↦ elim apart [
          | inl less ↦ absurd (nothing-there e es (look e.0 (f ∷ fs)) (none-above e.0 (f ∷ fs) (less, above-too e.0 f.0 fs less other.0)) (both e.0))
          | inr more ↦ absurd (nothing-here f fs (look f.0 (e ∷ es)) (none-above f.0 (e ∷ es) (more, above-too f.0 e.0 es more up.0)) (both f.0))
        ]
      ]
