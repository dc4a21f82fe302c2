-- Changes in order that are put among others in order, and the first of them.
use Rattle.std.proofs.Common.{◌≡◌, ℕ, ◌<◌, ◌≤◌, ◌⊎◌, zero, suc, inl, inr, nat_lt, List, [], ◌∷◌, take, refl, sym, ap, ◌∙◌, subst, arith}
use Rattle.std.specs.Cmp.{nat_cmp_is}
use Rattle.std.specs.List.{AllByRecursion}
use Rattle.std.specs.Ordering.{nat_cmp, match_ordering}
use Rattle.std.specs.BTreeMap.{insert_entry}
use Rattle.std.specs.declared.cmp.Ordering.TheVariants.{Less, Equal, Greater}
use Rattle.std.proofs.lemmas.Bool.{cases_Bool}
use Rattle.std.proofs.lemmas.Bool.Decides.{nat_tests}
use Rattle.std.proofs.lemmas.List.{take-take}
use Rattle.std.proofs.lemmas.Map.Lookups.{exact_unsigned}
use Rattle.gd_names.proofs.Each.{each-so}
use Rattle.gd_names.proofs.Small.{not-below}
use Rattle.gd_item.specs.Records.{in_change_order_from}
use Rattle.gd_item.specs.declared.item.Item.{Item}
use Rattle.gd_store.proofs.Folds.{each-key}

-- each change is past a number, and changes rise
abbrev pub Above : ℕ → List (ℕ × Item) → Type 0
Above k es = AllByRecursion (λ (e : ℕ × Item). k < e.0) es

abbrev pub Up : List (ℕ × Item) → Type 0
Up [] = Unit {0}
Up (e ∷ es) = Above e.0 es × Up es

tri : (a b : ℕ) → (a < b) ⊎ ((a ≡ b) ⊎ (b < a))
tri a b =
    elim (cases_Bool (nat_lt a b)) [
      | inl lt ↦ inl (grind (arith, nat_tests))
      | inr ge ↦
          let le : b ≤ a = not-below a b ge in
          elim (cases_Bool (nat_lt b a)) [
            | inl gt ↦ inr (inr (grind (arith, nat_tests)))
            | inr other ↦ let ge_too : a ≤ b = not-below b a other in inr (inl (omega arith))
          ]
    ]

less : (a b : ℕ) → a < b → nat_cmp a b ≡ Less
less a b lt = sym (nat_cmp_is a b Less lt)

equal : (a b : ℕ) → a ≡ b → nat_cmp a b ≡ Equal
equal a b same = sym (nat_cmp_is a b Equal same)

greater : (a b : ℕ) → b < a → nat_cmp a b ≡ Greater
greater a b gt = sym (nat_cmp_is a b Greater gt)

above-more : (a b : ℕ) (es : List (ℕ × Item)) → a < b → Above b es → Above a es
above-more a b es lt above = each-so (λ (e : ℕ × Item). b < e.0) (λ (e : ℕ × Item). a < e.0) (λ e more. omega arith) es above

pub each-take : {X : Type 0} (P : X → Type 0) (n : ℕ) (xs : List X) → AllByRecursion P xs → AllByRecursion P (take n xs)
each-take P zero xs all = tt
each-take P (suc n) [] all = tt
each-take P (suc n) (x ∷ xs) all = (all.0, each-take P n xs all.1)

pub up-take : (n : ℕ) (es : List (ℕ × Item)) → Up es → Up (take n es)
up-take zero es up = tt
up-take (suc n) [] up = tt
up-take (suc n) (e ∷ es) up = (each-take (λ (f : ℕ × Item). e.0 < f.0) n es up.0, up-take n es up.1)

-- ---- one change put among those that rise
from-equal : (a b : ℕ) → nat_cmp a b ≡ Equal → a ≡ b
from-equal a b is = exact_unsigned a b is

up-insert : (es : List (ℕ × Item)) (k : ℕ) (v : Item) → Up es → Up (insert_entry nat_cmp es k v)
up-insert [] k v up = (tt, tt)
up-insert (e ∷ es) k v up =
    let front : List (ℕ × Item) = (k, v) ∷ e ∷ es in
    let same : List (ℕ × Item) = (e.0, v) ∷ es in
    let later : List (ℕ × Item) = e ∷ insert_entry nat_cmp es k v in
    elim (tri k e.0) [
      | inl lt ↦
          subst (λ o. Up (match_ordering o front same later)) (sym (less k e.0 lt)) ((lt, above-more k e.0 es lt up.0), up)
      | inr rest ↦ elim rest [
        | inl is ↦ subst (λ o. Up (match_ordering o front same later)) (sym (equal k e.0 is)) (up.0, up.1)
        | inr gt ↦
            subst (λ o. Up (match_ordering o front same later)) (sym (greater k e.0 gt)) (each-key nat_cmp (λ (q : ℕ). e.0 < q) es k v gt up.0, up-insert es k v up.1)
      ]
    ]

pub up-put : (placed es : List (ℕ × Item)) → Up placed → Up (in_change_order_from placed es)
up-put placed [] up = up
up-put placed (e ∷ es) up = up-put (insert_entry nat_cmp placed e.0 e.1) es (up-insert placed e.0 e.1 up)

-- ---- changes that are all past the first one go behind it
pub behind : (a : ℕ × Item) (placed es : List (ℕ × Item)) → Above a.0 es → in_change_order_from (a ∷ placed) es ≡ a ∷ in_change_order_from placed es
behind a placed [] above = refl
behind a placed (b ∷ es) above =
    let more : List (ℕ × Item) = insert_entry nat_cmp placed b.0 b.1 in
    ap (λ o. in_change_order_from (match_ordering o (b ∷ a ∷ placed) ((a.0, b.1) ∷ placed) (a ∷ more)) es) (greater b.0 a.0 above.0) ∙ behind a more es above.1

before : (a b : ℕ × Item) (placed es : List (ℕ × Item)) → b.0 < a.0 → Above b.0 es → in_change_order_from (a ∷ placed) (b ∷ es) ≡ b ∷ in_change_order_from (a ∷ placed) es
before a b placed es lt above =
    ap (λ o. in_change_order_from (match_ordering o (b ∷ a ∷ placed) ((a.0, b.1) ∷ placed) (a ∷ insert_entry nat_cmp placed b.0 b.1)) es) (less b.0 a.0 lt) ∙ behind b (a ∷ placed) es above

at-same : (a b : ℕ × Item) (placed es : List (ℕ × Item)) → b.0 ≡ a.0 → Above b.0 es → in_change_order_from (a ∷ placed) (b ∷ es) ≡ (a.0, b.1) ∷ in_change_order_from placed es
at-same a b placed es is above =
    ap (λ o. in_change_order_from (match_ordering o (b ∷ a ∷ placed) ((a.0, b.1) ∷ placed) (a ∷ insert_entry nat_cmp placed b.0 b.1)) es) (equal b.0 a.0 is)
    ∙ behind (a.0, b.1) placed es (subst (λ (k : ℕ). Above k es) is above)

pub by-themselves : (es : List (ℕ × Item)) → Up es → in_change_order_from [] es ≡ es
by-themselves [] up = refl
by-themselves (e ∷ es) up = behind e [] es up.0 ∙ ap (λ fs. e ∷ fs) (by-themselves es up.1)

-- ---- the first of both are those of the first of each
pub first-merged : (n i j : ℕ) (a b : List (ℕ × Item)) → n ≤ i → n ≤ j → Up a → Up b → take n (in_change_order_from (take i a) (take j b)) ≡ take n (in_change_order_from a b)
first-merged zero i j a b le also up up2 = refl
first-merged (suc n) zero j a b le also up up2 = absurd (omega arith)
first-merged (suc n) (suc i) zero a b le also up up2 = absurd (omega arith)
first-merged (suc n) (suc i) (suc j) [] b le also up up2 =
    ap (take (suc n)) (by-themselves (take (suc j) b) (up-take (suc j) b up2)) ∙ take-take (suc n) (suc j) b also ∙ ap (take (suc n)) (sym (by-themselves b up2))
first-merged (suc n) (suc i) (suc j) (x ∷ a) [] le also up up2 = take-take (suc n) (suc i) (x ∷ a) le
first-merged (suc n) (suc i) (suc j) (x ∷ a) (y ∷ b) le also up up2 =
    let less_i : n ≤ i = omega arith in
    let less_j : n ≤ j = omega arith in
    let up_i : n ≤ suc i = omega arith in
    let up_j : n ≤ suc j = omega arith in
    elim (tri x.0 y.0) [
      | inl lt ↦
          let above : Above x.0 (y ∷ b) = (lt, above-more x.0 y.0 b lt up2.0) in
          ap (take (suc n)) (behind x (take i a) (y ∷ take j b) (lt, each-take (λ (e : ℕ × Item). x.0 < e.0) j b above.1))
          ∙ ap (λ es. x ∷ es) (first-merged n i (suc j) a (y ∷ b) less_i up_j up.1 up2)
          ∙ ap (take (suc n)) (sym (behind x a (y ∷ b) above))
      | inr rest ↦ elim rest [
        | inl is ↦
            ap (take (suc n)) (at-same x y (take i a) (take j b) (sym is) (each-take (λ (e : ℕ × Item). y.0 < e.0) j b up2.0))
            ∙ ap (λ es. (x.0, y.1) ∷ es) (first-merged n i j a b less_i less_j up.1 up2.1)
            ∙ ap (take (suc n)) (sym (at-same x y a b (sym is) up2.0))
        | inr gt ↦
            ap (take (suc n)) (before x y (take i a) (take j b) gt (each-take (λ (e : ℕ × Item). y.0 < e.0) j b up2.0))
            ∙ ap (λ es. y ∷ es) (first-merged n (suc i) j (x ∷ a) b up_i less_j up up2.1)
            ∙ ap (take (suc n)) (sym (before x y a b gt up2.0))
      ]
    ]
