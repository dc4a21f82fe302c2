-- The files of which a client has no digest, and what it learns of them.
use Rattle.std.specs.Prelude.{ℕ, Bool, true, false, ◌&&◌, cond, List, [], ◌∷◌, nat_eq}
use Rattle.std.specs.Cmp.Lexicographic.{pointwise}
use Rattle.gd_item.specs.declared.digest.Digest.{Digest}
use Rattle.gd_item.specs.declared.id.ItemId.{ItemId}
use Rattle.gd_item.specs.declared.item.Item.{Item}
use Rattle.gd_item.specs.declared.item.Kind.{Kind}
use Rattle.gd_item.specs.declared.item.Kind.TheVariants.{Folder, File, Bare, Deleted}
use Rattle.gd_item.specs.declared.item.Tag.{Tag}

-- whether it is that of a file without a digest
abbrev pub is_bare_kind : Kind → Bool
is_bare_kind (Folder child_count) = false
is_bare_kind (File digest) = false
is_bare_kind Bare = true
is_bare_kind Deleted = false

-- the id and the eTag of each file without a digest
abbrev pub bare_of : List Item → List (ItemId × Tag)
bare_of [] = []
bare_of (item ∷ items) = cond (is_bare_kind item.kind) ((item.id, item.etag) ∷ bare_of items) (bare_of items)

-- whether an item is a file without a digest and has this id and this eTag
abbrev pub is_unknown : ItemId → Tag → Item → Bool
is_unknown id etag item = is_bare_kind item.kind && (nat_eq item.id.0 id.0 && pointwise nat_eq item.etag.0 etag.0)

-- an item, which has this digest if it is that file
abbrev pub learned : ItemId → Tag → Digest → Item → Item
learned id etag digest item = cond (is_unknown id etag item) (record item { kind = File digest }) item
