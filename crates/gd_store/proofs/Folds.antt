-- Entries that are put among others, and what holds of each of them.
use Rattle.std.proofs.Common.{◌≡◌, ◌≤◌, suc, Bool, true, false, ◌||◌, List, [], ◌∷◌, length, refl, sym, ap, ◌∙◌, arith}
use Rattle.std.specs.List.{AllByRecursion, list_any}
use Rattle.std.specs.Ordering.{is_eq, match_ordering}
use Rattle.std.specs.declared.cmp.Ordering.{Ordering}
use Rattle.std.specs.declared.cmp.Ordering.TheVariants.{Less, Equal, Greater}
use Rattle.std.specs.BTreeMap.{insert_entry}
use Rattle.std.specs.Map.{values_of}

swap-or : (a b c : Bool) → (a || (b || c)) ≡ (b || (a || c))
swap-or true true c = refl
swap-or true false c = refl
swap-or false true c = refl
swap-or false false c = refl

module _ {K X : Type 0} where
  pub by-order : (P : List (K × X) → Type 0) (o : Ordering) (a b c : List (K × X)) → (o ≡ Less → P a) → (o ≡ Equal → P b) → (o ≡ Greater → P c) → P (match_ordering o a b c)
  by-order P Less a b c x y z = x refl
  by-order P Equal a b c x y z = y refl
  by-order P Greater a b c x y z = z refl

  -- the values of entries
  pub each-values : (P : X → Type 0) (es : List (K × X)) → AllByRecursion (λ (e : K × X). P e.1) es → AllByRecursion P (values_of es)
  each-values P [] all = tt
  each-values P (e ∷ es) all = (all.0, each-values P es all.1)

  pub values-long : (es : List (K × X)) → length (values_of es) ≡ length es
  values-long [] = refl
  values-long (e ∷ es) = ap suc (values-long es)

  module _ (cmp : K → K → Ordering) where
    -- what holds of each value, and of each key
    pub each-value : (P : X → Type 0) (es : List (K × X)) (k : K) (v : X) → P v → AllByRecursion (λ (e : K × X). P e.1) es → AllByRecursion (λ (e : K × X). P e.1) (insert_entry cmp es k v)
    each-value P [] k v one all = (one, tt)
    each-value P (e ∷ es) k v one all =
        by-order (AllByRecursion (λ (f : K × X). P f.1)) (cmp k e.0) ((k, v) ∷ e ∷ es) ((e.0, v) ∷ es) (e ∷ insert_entry cmp es k v)
        (λ is. (one, all)) (λ is. (one, all.1)) (λ is. (all.0, each-value P es k v one all.1))

    pub each-key : (P : K → Type 0) (es : List (K × X)) (k : K) (v : X) → P k → AllByRecursion (λ (e : K × X). P e.0) es → AllByRecursion (λ (e : K × X). P e.0) (insert_entry cmp es k v)
    each-key P [] k v one all = (one, tt)
    each-key P (e ∷ es) k v one all =
        by-order (AllByRecursion (λ (f : K × X). P f.0)) (cmp k e.0) ((k, v) ∷ e ∷ es) ((e.0, v) ∷ es) (e ∷ insert_entry cmp es k v)
        (λ is. (one, all)) (λ is. (all.0, all.1)) (λ is. (all.0, each-key P es k v one all.1))

    -- at most one more entry
    pub at-most-one : (es : List (K × X)) (k : K) (v : X) → length (insert_entry cmp es k v) ≤ suc (length es)
    at-most-one [] k v = omega arith
    at-most-one (e ∷ es) k v =
        let rest : length (insert_entry cmp es k v) ≤ suc (length es) = at-most-one es k v in
        by-order (λ (fs : List (K × X)). length fs ≤ suc (suc (length es))) (cmp k e.0) ((k, v) ∷ e ∷ es) ((e.0, v) ∷ es) (e ∷ insert_entry cmp es k v)
        (λ is. omega arith) (λ is. omega arith) (λ is. omega arith)

    -- whether one of the values passes a test, where the key is new
    pub any-value : (P : X → Bool) (es : List (K × X)) (k : K) (v : X) → AllByRecursion (λ (e : K × X). is_eq (cmp k e.0) ≡ false) es
        → list_any P (values_of (insert_entry cmp es k v)) ≡ (P v || list_any P (values_of es))
    any-value P [] k v away = refl
    any-value P (e ∷ es) k v away =
        by-order (λ (fs : List (K × X)). list_any P (values_of fs) ≡ (P v || (P e.1 || list_any P (values_of es)))) (cmp k e.0) ((k, v) ∷ e ∷ es) ((e.0, v) ∷ es) (e ∷ insert_entry cmp es k v)
        (λ is. refl)
        (λ is. let bad : true ≡ false = sym (ap is_eq is) ∙ away.0 in absurd cc)
        (λ is. ap (λ b. P e.1 || b) (any-value P es k v away.1) ∙ swap-or (P e.1) (P v) (list_any P (values_of es)))
