-- Entries that are inserted one after another: two whose keys differ may change places, and rising keys stand as they
-- came.
use Rattle.std.proofs.Common.{◌≡◌, ℕ, ◌<◌, List, [], ◌∷◌, ◌++◌, ◌⊎◌, inl, inr, refl, ap, sym, ◌∙◌, arith}
use Rattle.std.proofs.lemmas.Bool.{cases_order}
use Rattle.std.specs.BTreeMap.{insert_entry}
use Rattle.std.specs.Cmp.{nat_cmp_is}
use Rattle.std.specs.List.{AllByRecursion}
use Rattle.std.specs.Ordering.{nat_cmp, match_ordering}
use Rattle.std.specs.declared.cmp.Ordering.TheVariants.{Less, Equal, Greater}

module _ {X : Type 0} where
  abbrev pub put : List (ℕ × X) → ℕ → X → List (ℕ × X)
  put es k v = insert_entry nat_cmp es k v

  -- where a key goes
  pub put-less : (k : ℕ) (v : X) (e : ℕ × X) (es : List (ℕ × X)) → k < e.0 → put (e ∷ es) k v ≡ (k, v) ∷ e ∷ es
  put-less k v e es low = ap (λ o. match_ordering o ((k, v) ∷ e ∷ es) ((e.0, v) ∷ es) (e ∷ put es k v)) (sym (nat_cmp_is k e.0 Less low))

  pub put-equal : (k : ℕ) (v : X) (e : ℕ × X) (es : List (ℕ × X)) → k ≡ e.0 → put (e ∷ es) k v ≡ (e.0, v) ∷ es
  put-equal k v e es same = ap (λ o. match_ordering o ((k, v) ∷ e ∷ es) ((e.0, v) ∷ es) (e ∷ put es k v)) (sym (nat_cmp_is k e.0 Equal same))

  pub put-greater : (k : ℕ) (v : X) (e : ℕ × X) (es : List (ℕ × X)) → e.0 < k → put (e ∷ es) k v ≡ e ∷ put es k v
  put-greater k v e es high = ap (λ o. match_ordering o ((k, v) ∷ e ∷ es) ((e.0, v) ∷ es) (e ∷ put es k v)) (sym (nat_cmp_is k e.0 Greater high))

  -- the lesser key goes before what the greater one gives
  first-below : (k j : ℕ) (v w : X) (e : ℕ × X) (es : List (ℕ × X)) → k < j → k < e.0 → put (put (e ∷ es) j w) k v ≡ (k, v) ∷ put (e ∷ es) j w
  first-below k j v w e es low under =
      elim (cases_order j e.0) [
        | inl same ↦ rw (put-equal j w e es same) (put-less k v (e.0, w) es under)
        | inr apart ↦ elim apart [
          | inl less ↦ rw (put-less j w e es less) (put-less k v (j, w) (e ∷ es) low)
          | inr more ↦ rw (put-greater j w e es more) (put-less k v e (put es j w) under)
        ]
      ]

  commute-below : (k j : ℕ) (v w : X) → k < j → (es : List (ℕ × X)) → put (put es k v) j w ≡ put (put es j w) k v
  commute-below k j v w low [] = put-greater j w (k, v) [] low ∙ sym (put-less k v (j, w) [] low)
  commute-below k j v w low (e ∷ es) =
      elim (cases_order k e.0) [
        | inl same ↦
            let past : e.0 < j = omega arith in
            rw (put-equal k v e es same, put-greater j w (e.0, v) es past, put-greater j w e es past) (sym (put-equal k v e (put es j w) same))
        | inr apart ↦ elim apart [
          | inl under ↦ rw (put-less k v e es under, put-greater j w (k, v) (e ∷ es) low) (sym (first-below k j v w e es low under))
          | inr above ↦
              let past : e.0 < j = omega arith in
              rw (put-greater k v e es above, put-greater j w e es past, put-greater j w e (put es k v) past, put-greater k v e (put es j w) above)
              (ap (λ rest. e ∷ rest) (commute-below k j v w low es))
        ]
      ]

  pub put-commutes : (k j : ℕ) (v w : X) → (k ≡ j → ⊥) → (es : List (ℕ × X)) → put (put es k v) j w ≡ put (put es j w) k v
  put-commutes k j v w apart es =
      elim (cases_order k j) [
        | inl same ↦ absurd (apart same)
        | inr differ ↦ elim differ [ inl low ↦ commute-below k j v w low es | inr high ↦ sym (commute-below j k w v high es) ]
      ]

  -- a key above all goes to the end
  pub put-last : (k : ℕ) (v : X) (es : List (ℕ × X)) → AllByRecursion (λ (e : ℕ × X). e.0 < k) es → put es k v ≡ es ++ (k, v) ∷ []
  put-last k v [] above = refl
  put-last k v (e ∷ es) above = put-greater k v e es above.0 ∙ ap (λ rest. e ∷ rest) (put-last k v es above.1)

  -- what holds of the entries holds of them with one more
  all-put-at : (P : ℕ × X → Type 0) (k : ℕ) (v : X) (e : ℕ × X) (es : List (ℕ × X)) → AllByRecursion P (e ∷ es) → P (k, v) → AllByRecursion P (put es k v)
      → (k ≡ e.0) ⊎ ((k < e.0) ⊎ (e.0 < k)) → AllByRecursion P (put (e ∷ es) k v)
  all-put-at P k v e es all here rest (inl same) =
      let at : P (e.0, v) = rw (← same) here in rw (put-equal k v e es same) (at, all.1)
  all-put-at P k v e es all here rest (inr (inl low)) = rw (put-less k v e es low) (here, all)
  all-put-at P k v e es all here rest (inr (inr high)) = rw (put-greater k v e es high) (all.0, rest)

  pub all-put : (P : ℕ × X → Type 0) (k : ℕ) (v : X) (es : List (ℕ × X)) → AllByRecursion P es → P (k, v) → AllByRecursion P (put es k v)
  all-put P k v [] all here = (here, tt)
  all-put P k v (e ∷ es) all here = all-put-at P k v e es all here (all-put P k v es all.1 here) (cases_order k e.0)
