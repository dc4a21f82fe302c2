-- What one more effect, and a list of effects, do to the numbers of a drive.
use Rattle.std.proofs.Common.{◌≡◌, ◌+◌, ◌<◌, ◌≤◌, List, [], ◌∷◌, ◌++◌, length, refl, arith}
use Rattle.gd_item.specs.Inventory.{Effect, MadeFolder, PutNew, PutOver, Moved, Removed, Inventory, new_drive, after, after_all, inventory}

after_all-snoc : (held : Inventory) (effects : List Effect) (effect : Effect) → after_all held (effects ++ effect ∷ []) ≡ after (after_all held effects) effect
after_all-snoc held [] effect = refl
after_all-snoc held (first ∷ effects) effect = after_all-snoc (after held first) effects effect

-- one more effect is one more step
pub inventory-snoc : (effects : List Effect) (effect : Effect) → inventory (effects ++ effect ∷ []) ≡ after (inventory effects) effect
inventory-snoc effects effect = after_all-snoc new_drive effects effect

after_all-append : (held : Inventory) (effects more : List Effect) → after_all held (effects ++ more) ≡ after_all (after_all held effects) more
after_all-append held [] more = refl
after_all-append held (first ∷ effects) more = after_all-append (after held first) effects more

-- more effects are more steps
pub inventory-append : (effects more : List Effect) → inventory (effects ++ more) ≡ after_all (inventory effects) more
inventory-append effects more = after_all-append new_drive effects more

-- each effect raises the change number by one
pub number-after : (held : Inventory) (effect : Effect) → (after held effect).number ≡ held.number + 1
number-after held (MadeFolder parent name) = refl
number-after held (PutNew parent name bytes) = refl
number-after held (PutOver number bytes) = refl
number-after held (Moved number parent name) = refl
number-after held (Removed number) = refl

-- no effect lowers the next number
pub next-after : (held : Inventory) (effect : Effect) → held.next ≤ (after held effect).next
next-after held (MadeFolder parent name) = omega arith
next-after held (PutNew parent name bytes) = omega arith
next-after held (PutOver number bytes) = omega arith
next-after held (Moved number parent name) = omega arith
next-after held (Removed number) = omega arith

number-after_all : (held : Inventory) (effects : List Effect) → (after_all held effects).number ≡ held.number + length effects
number-after_all held [] = omega arith
number-after_all held (effect ∷ effects) = omega (arith, number-after_all (after held effect) effects, number-after held effect)

next-after_all : (held : Inventory) (effects : List Effect) → held.next ≤ (after_all held effects).next
next-after_all held [] = omega arith
next-after_all held (effect ∷ effects) = omega (arith, next-after_all (after held effect) effects, next-after held effect)

-- the change number counts the effects
pub number-inventory : (effects : List Effect) → (inventory effects).number ≡ length effects + 1
number-inventory effects = omega (arith, number-after_all new_drive effects)

pub number-positive : (effects : List Effect) → 0 < (inventory effects).number
number-positive effects = omega (arith, number-inventory effects)

-- the next number is above the root's
pub next-inventory : (effects : List Effect) → 1 < (inventory effects).next
next-inventory effects = omega (arith, next-after_all new_drive effects)
