-- Items lose their digests and content tags, one after the other.
use Rattle.std.proofs.Common.{◌≡◌, ℕ, ◌+◌, ◌<◌, zero, suc, List, [], ◌∷◌, ◌++◌, length, map, take, drop, set, get_or, refl, sym, ap, ◌∙◌, add-one, arith}
use Rattle.gd_item.specs.Answers.{bare_item}
use Rattle.gd_item.specs.declared.item.Item.{Item}

-- the first ones have lost them
abbrev stripped_to : ℕ → List Item → List Item
stripped_to i items = map bare_item (take i items) ++ drop i items

one-more : (items : List Item) (i : ℕ) (d : Item) → i < length items → set (stripped_to i items) i (bare_item (get_or (stripped_to i items) i d)) ≡ stripped_to (suc i) items
one-more [] i d lt = absurd (omega arith)
one-more (item ∷ items) zero d lt = refl
one-more (item ∷ items) (suc i) d lt = ap (λ rest. bare_item item ∷ rest) (one-more items i d (omega arith))

pub stripped : (whole items : List Item) (i : ℕ) (d : Item) → items ≡ map bare_item (take i whole) ++ drop i whole → i < length whole
    → set items i (bare_item (get_or items i d)) ≡ map bare_item (take (i + 1) whole) ++ drop (i + 1) whole
stripped whole items i d is lt =
    ap (λ xs. set xs i (bare_item (get_or xs i d))) is ∙ one-more whole i d lt ∙ ap (λ n. map bare_item (take n whole) ++ drop n whole) (sym (add-one i))
