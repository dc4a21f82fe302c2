-- The names above the last one are all but one, and the last one.
use Rattle.std.proofs.Common.{◌≡◌, ℕ, suc, ◌-◌, ◌≤◌, List, [], ◌∷◌, length, take, get_or, refl, ap, ◌∙◌, arith}
use Rattle.gd_item.specs.Places.{names_above, last_name}

pub take-above : (path : List (List ℕ)) → take (length path - 1) path ≡ names_above path
take-above [] = refl
take-above (name ∷ []) = refl
take-above (name ∷ next ∷ path) =
    let e : length (name ∷ next ∷ path) - 1 ≡ suc (length (next ∷ path) - 1) = omega arith in
    rw e (ap (λ xs. name ∷ xs) (take-above (next ∷ path)))

pub last-at : (path : List (List ℕ)) (name : List ℕ) → 1 ≤ length path → name ≡ get_or path (length path - 1) name → name ≡ last_name path
last-at [] name some is = absurd (omega arith)
last-at (first ∷ []) name some is = is
last-at (first ∷ next ∷ path) name some is =
    let e : length (first ∷ next ∷ path) - 1 ≡ suc (length (next ∷ path) - 1) = omega arith in
    last-at (next ∷ path) name (omega arith) (is ∙ ap (λ i. get_or (first ∷ next ∷ path) i name) e)
