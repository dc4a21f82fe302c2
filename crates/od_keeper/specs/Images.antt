-- What the client keeps, and how a change is applied to it: whole, its parts in their order.
use Rattle.std.specs.Prelude.{ℕ, Bool, not, cond, List, [], ◌∷◌, filter, nat_eq, Option, Some, None}
use Rattle.std.specs.List.{list_any}
use Rattle.std.specs.Cmp.Lexicographic.{pointwise}
use Rattle.std.specs.declared.cmp.Ordering.{Ordering}
use Rattle.std.specs.declared.cmp.Ordering.TheVariants.{Less, Equal, Greater}
use Rattle.std.specs.Ordering.{nat_cmp}
use Rattle.gd_names.specs.Ordered.{path_cmp}
use Rattle.gd_item.specs.declared.id.ItemId.{ItemId}
use Rattle.gd_item.specs.declared.item.Item.{Item}
use Rattle.od_keeper.specs.declared.image.BaseRow.{BaseRow}
use Rattle.od_keeper.specs.declared.image.Change.{Change}
use Rattle.od_keeper.specs.declared.image.Image.{Image}

abbrev pub empty_image : Image
empty_image = record { token = None; items = []; rows = []; rules = None }

-- the image that a reset leaves
abbrev pub reset_image : Bool → Image → Image
reset_image reset image = cond reset empty_image image

-- a new value, where one is given
abbrev pub replaced : {X : Type 0} → Option X → Option X → Option X
replaced None old = old
replaced (Some new) old = Some new

-- a thing put among others in their order, in place of one that has the same key
abbrev pub put_by : {X : Type 0} → Ordering → X → X → List X → List X → List X
put_by Less x first rest placed = x ∷ first ∷ rest
put_by Equal x first rest placed = x ∷ rest
put_by Greater x first rest placed = first ∷ placed

abbrev pub put_in_order : {X : Type 0} → (X → X → Ordering) → X → List X → List X
put_in_order compare x [] = x ∷ []
put_in_order compare x (first ∷ rest) = put_by (compare x first) x first rest (put_in_order compare x rest)

abbrev pub put_all : {X : Type 0} → (X → X → Ordering) → List X → List X → List X
put_all compare [] placed = placed
put_all compare (x ∷ xs) placed = put_all compare xs (put_in_order compare x placed)

-- items are in order of id, and agreements in order of path
abbrev pub by_id : Item → Item → Ordering
by_id a b = nat_cmp a.id.0 b.id.0

abbrev pub by_path : BaseRow → BaseRow → Ordering
by_path a b = path_cmp a.path b.path

-- the items without those of some ids, and the agreements without those on some paths
abbrev pub without_ids : List ItemId → List Item → List Item
without_ids ids items = filter (λ (item : Item). not (list_any (λ (id : ItemId). nat_eq id.0 item.id.0) ids)) items

abbrev pub without_paths : List (List (List ℕ)) → List BaseRow → List BaseRow
without_paths paths rows = filter (λ (row : BaseRow). not (list_any (λ path. pointwise (pointwise nat_eq) path row.path) paths)) rows

-- the image after a change
abbrev pub applied : Change → Image → Image
applied change image =
    let old = reset_image change.reset image in
    record {
      token = replaced change.token old.token;
      items = put_all by_id change.put (without_ids change.gone old.items);
      rows = put_all by_path change.rows (without_paths change.dropped old.rows);
      rules = replaced change.rules old.rules;
    }
