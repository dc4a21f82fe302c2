-- Without rules all of a tree is kept.
use Rattle.std.proofs.Common.{◌≡◌, ℕ, List, [], ◌∷◌, filter, Option, refl, ap}
use Rattle.od_synclist.specs.Kept.{is_kept, kept}

keeps : (tree whole : List (List (List ℕ) × Option (List ℕ))) → filter (is_kept [] whole) tree ≡ tree
keeps [] whole = refl
keeps (entry ∷ tree) whole = ap (λ (xs : List (List (List ℕ) × Option (List ℕ))). entry ∷ xs) (keeps tree whole)

pub keeps_all : (tree : List (List (List ℕ) × Option (List ℕ))) → kept [] tree ≡ tree
keeps_all tree = keeps tree tree
