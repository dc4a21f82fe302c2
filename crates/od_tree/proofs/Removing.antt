-- One thing removed from a list.
use Rattle.std.proofs.Common.{◌≡◌, ℕ, suc, zero, ◌+◌, ◌<◌, Bool, true, List, [], ◌∷◌, ◌++◌, find, Option, Some, length, get_or, take, drop, refl, ap, sym, ◌∙◌, subst, add-one, arith}
use Rattle.std.specs.Prelude.{slice_get}
use Rattle.std.specs.List.{remove}
use Rattle.std.proofs.lemmas.Option.{slice_get_read}
use Rattle.std.proofs.lemmas.Bool.{cond-true}
use Rattle.std.proofs.lemmas.List.{map-append}
use Rattle.od_tree.specs.Local.{without_spot, moved_from}
use Rattle.od_tree.specs.declared.local.Spot.{Spot}

pub remove-last : {X : Type 0} (xs : List X) (x : X) (i : ℕ) → i < length xs → remove (xs ++ x ∷ []) i ≡ remove xs i ++ x ∷ []
remove-last [] x i inside = absurd (omega arith)
remove-last (y ∷ xs) x zero inside = refl
remove-last (y ∷ xs) x (suc i) inside = ap (λ zs. y ∷ zs) (remove-last xs x i (omega arith))

pub moved-parts : (from to : List (List ℕ)) (spots : List Spot) (i : ℕ) (moved : List Spot) → moved ≡ moved_from from to (take i spots) ++ moved_from from to (drop (i + 1) spots)
    → moved ≡ moved_from from to (remove spots i)
moved-parts from to spots i moved is =
    is ∙ ap (λ j. moved_from from to (take i spots) ++ moved_from from to (drop j spots)) (add-one i) ∙ sym (map-append _ (take i spots) (drop (suc i) spots))

-- a thing put last in place of another one; `slice` is the same list
pub put-over : (slice spots pushed now : List Spot) (spot : Spot) (at : List (List ℕ)) (i : ℕ) → slice ≡ spots → (i < length slice) × (without_spot at slice ≡ remove slice i) → pushed ≡ spots ++ spot ∷ []
    → now ≡ remove pushed i → now ≡ without_spot at spots ++ spot ∷ []
put-over slice spots pushed now spot at i same found is_pushed is =
    let inside : i < length spots = subst (λ (xs : List Spot). i < length xs) same found.0 in
    let without : without_spot at spots ≡ remove spots i = subst (λ xs. without_spot at xs ≡ remove xs i) same found.1 in
    is ∙ (ap (λ xs. remove xs i) is_pushed ∙ (remove-last spots spot i inside ∙ ap (λ xs. xs ++ spot ∷ []) (sym without)))

-- the thing that is taken out is the one that was found; `slice` is the same list
pub taken : {X : Type 0} (found : List X → Option X) (slice xs : List X) (i : ℕ) (x : X) → slice ≡ xs → i < length slice → x ≡ get_or xs i x → found slice ≡ slice_get slice i → Some x ≡ found xs
taken found slice xs i x same inside is at =
    sym (at ∙ slice_get_read slice (length slice) i x refl inside (subst (λ ys. x ≡ get_or ys i x) (sym same) is)) ∙ ap found same

-- the first thing that passes a test is the one at its place, where none before it does
pub first_at : {X : Type 0} (test : X → Bool) (xs : List X) (i : ℕ) (x : X) → i < length xs → x ≡ get_or xs i x → test x ≡ true → find test (drop i xs) ≡ slice_get xs i
first_at test [] i x inside is pass = absurd (omega arith)
first_at test (y ∷ xs) zero x inside is pass = cond-true (test y) (Some y) (find test xs) (ap test (sym is) ∙ pass)
first_at test (y ∷ xs) (suc i) x inside is pass = first_at test xs i x (omega arith) is pass
