-- The data that is written, in few words.
use Rattle.std.specs.Prelude.{ℕ, List, [], ◌∷◌, Option, Some, None}
use Rattle.serde_json.specs.Data.{Data, Items, item, Members, no_members, put, object}

-- the members, with one more where there is one
abbrev pub put_optional : List ℕ → Option Data → Members → Members
put_optional name None ms = ms
put_optional name (Some d) ms = put name d ms

-- an object with one member
abbrev pub only : List ℕ → Data → Data
only name d = object (put name d no_members)

-- the values, before more of them
abbrev pub listed : {A : Type 0} → (A → Data) → List A → Items → Items
listed f [] more = more
listed f (x ∷ xs) more = item (f x) (listed f xs more)
