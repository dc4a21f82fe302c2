-- An item is read as it was written.
use Rattle.std.proofs.Common.{◌≡◌, ℕ, ◌<◌, ◌^◌, Bool, true, false, List, [], length, Option, Some, None, Ok, refl, sym, subst}
use Rattle.std.specs.Prelude.{nat_eq, option_map}
use Rattle.std.proofs.lemmas.Bool.{eq-eqb}
use Rattle.hex.specs.Hex.{IsBytes}
use Rattle.serde_json.specs.Find.{as_str}
use Rattle.gd_item.specs.declared.id.ItemId.{ItemId}
use Rattle.gd_item.specs.declared.digest.Digest.{Digest}
use Rattle.gd_item.specs.declared.item.Tag.{Tag}
use Rattle.gd_item.specs.declared.item.Item.{Item}
use Rattle.gd_item.specs.declared.item.Kind.{Kind}
use Rattle.gd_item.specs.declared.item.Kind.TheVariants.{Folder, File, Bare, Deleted}
use Rattle.gd_item.specs.Tags.{tag_of}
use Rattle.gd_json.specs.declared.fault.Member.TheVariants as of
use Rattle.gd_json.specs.declared.item.Reference.{Reference}
use Rattle.gd_json.specs.Values.{object_of}
use Rattle.gd_json.specs.Members.{optional}
use Rattle.gd_json.specs.Numbers.{item_id_of, id_written}
use Rattle.gd_json.specs.Items.{reference_at, parent_at, digest_at, file_at, folder_at, deleted_at, living_at, item_at, id_in, path_in, parent_data, reference_data, kind_data, root_data, tag_data, item_data, IsPlaced, IsLiving, IsKnownKind, IsKnown, IsWritableAs, IsWritable}
use Rattle.gd_json.proofs.Found.{get_put, get_put_optional, or_nothing}
use Rattle.gd_json.proofs.Ids.{id_again, digest_again}

reference_again : (id : ItemId) (path : Option (List ℕ)) → item_id_of (id_written id) ≡ Some id → reference_at (parent_data id path) ≡ Ok (record { id = id; path = path })
unfolding reference_at
reference_again id None known = rw known refl
reference_again id (Some path) known = rw known refl

abbrev both : Option ItemId → Option (List ℕ) → Option Reference
both None path = None
both (Some id) path = Some (record { id = id; path = path })

parent_again : (may_lack : Bool) (parent : Option ItemId) (path : Option (List ℕ)) → (parent ≡ None → may_lack ≡ true) → IsPlaced parent path → ((p : ItemId) → parent ≡ Some p → p.0 < 2 ^ 64)
    → parent_at may_lack (reference_data parent path) ≡ Ok (both parent path)
parent_again may_lack None path lacks placed small = rw (lacks refl) refl
parent_again may_lack (Some id) path lacks placed small = rw (reference_again id path (id_again id placed (small id refl))) refl

id_again_in : (parent : Option ItemId) (path : Option (List ℕ)) → id_in (both parent path) ≡ parent
id_again_in None path = refl
id_again_in (Some id) path = refl

path_again_in : (parent : Option ItemId) (path : Option (List ℕ)) → IsPlaced parent path → path_in (both parent path) ≡ path
path_again_in None path placed = sym placed
path_again_in (Some id) path placed = refl

tag_again : (tag : Option Tag) → optional of.CTag as_str (option_map tag_data tag) ≡ Ok (option_map (λ t. t.0) tag)
tag_again None = refl
tag_again (Some tag) = refl

same_tag : (tag : Option Tag) → option_map tag_of (option_map (λ t. t.0) tag) ≡ tag
same_tag None = refl
same_tag (Some tag) = refl

root_by : (b : Bool) (id : ItemId) → nat_eq id.0 1 ≡ b → optional of.Root object_of (root_data id) ≡ Ok (root_data id)
root_by true id e = rw e refl
root_by false id e = rw e refl

root_again : (id : ItemId) → optional of.Root object_of (root_data id) ≡ Ok (root_data id)
root_again id = root_by (nat_eq id.0 1) id refl

file_again : (digest : Digest) → length digest.0 ≡ 32 → IsBytes digest.0 → file_at (kind_data (File digest)) ≡ Ok (File digest)
unfolding file_at digest_at
file_again digest len bytes = rw (digest_again digest len bytes) refl

folder_again : (count : ℕ) → folder_at (kind_data (Folder count)) ≡ Ok (Folder count)
unfolding folder_at
folder_again count = refl

bare_again : file_at (kind_data Bare) ≡ Ok Bare
unfolding file_at digest_at
bare_again = refl

-- the parts that every item has
pub record IsKept (v : Item) : Type 0 where
  pub id : item_id_of (id_written v.id) ≡ Some v.id
  pub in_ids : id_in (both v.parent v.parent_path) ≡ v.parent
  pub in_paths : path_in (both v.parent v.parent_path) ≡ v.parent_path
  pub parent : (may_lack : Bool) → (v.parent ≡ None → may_lack ≡ true) → parent_at may_lack (reference_data v.parent v.parent_path) ≡ Ok (both v.parent v.parent_path)

living_again : (v : Item) (kind : Kind) → IsKept v → IsLiving v → IsKnownKind kind → (kind ≡ Deleted → ⊥) → item_at (item_data (record v { kind = kind })) ≡ Ok (record v { kind = kind })
unfolding item_at living_at item_data
living_again v (Folder count) kept living known other =
    let parent = kept.parent (nat_eq v.id.0 1) (λ e. eq-eqb v.id.0 1 (living.parent e)) in
    simp (get_put, get_put_optional, or_nothing)
    (rw (kept.id, living.name, tag_again v.ctag, parent, folder_again count, root_again v.id, kept.in_ids, kept.in_paths, same_tag v.ctag) refl)
living_again v (File digest) kept living known other =
    let parent = kept.parent (nat_eq v.id.0 1) (λ e. eq-eqb v.id.0 1 (living.parent e)) in
    simp (get_put, get_put_optional, or_nothing)
    (rw (kept.id, living.name, tag_again v.ctag, parent, file_again digest known.0 known.1, root_again v.id, kept.in_ids, kept.in_paths, same_tag v.ctag) refl)
living_again v Bare kept living known other =
    let parent = kept.parent (nat_eq v.id.0 1) (λ e. eq-eqb v.id.0 1 (living.parent e)) in
    simp (get_put, get_put_optional, or_nothing)
    (rw (kept.id, living.name, tag_again v.ctag, parent, bare_again, root_again v.id, kept.in_ids, kept.in_paths, same_tag v.ctag) refl)
living_again v Deleted kept living known other = absurd (other refl)

deleted_again : (v : Item) (name : List ℕ) (size : ℕ) (ctag : Option Tag) → IsKept v → name ≡ [] → size ≡ 0 → ctag ≡ None
    → item_at (item_data (record v { name = name; size = size; ctag = ctag; kind = Deleted })) ≡ Ok (record v { name = name; size = size; ctag = ctag; kind = Deleted })
unfolding item_at deleted_at item_data
deleted_again v name size ctag kept no_name no_size no_ctag =
    let parent = kept.parent true (λ _. refl) in
    simp (get_put, get_put_optional, or_nothing) (rw (kept.id, parent, kept.in_ids, kept.in_paths, no_name, no_size, no_ctag) refl)

kept : (v : Item) → IsWritable v → IsKnown v → IsKept v
kept v writable known = record {
  id = id_again v.id writable.id known.id;
  in_ids = id_again_in v.parent v.parent_path;
  in_paths = path_again_in v.parent v.parent_path writable.placed;
  parent = λ may_lack lacks. parent_again may_lack v.parent v.parent_path lacks writable.placed known.parent;
}

again_as : (v : Item) (kind : Kind) → v.kind ≡ kind → IsKept v → IsKnownKind kind → IsWritableAs kind v → item_at (item_data v) ≡ Ok v
again_as v (Folder count) is kept known living = subst (λ (k : Kind). item_at (item_data (record v { kind = k })) ≡ Ok (record v { kind = k })) (sym is) (living_again v (Folder count) kept living known (λ e. cc))
again_as v (File digest) is kept known living = subst (λ (k : Kind). item_at (item_data (record v { kind = k })) ≡ Ok (record v { kind = k })) (sym is) (living_again v (File digest) kept living known (λ e. cc))
again_as v Bare is kept known living = subst (λ (k : Kind). item_at (item_data (record v { kind = k })) ≡ Ok (record v { kind = k })) (sym is) (living_again v Bare kept living known (λ e. cc))
again_as v Deleted is kept known little =
    subst (λ (k : Kind). item_at (item_data (record v { kind = k })) ≡ Ok (record v { kind = k })) (sym is) (deleted_again v v.name v.size v.ctag kept little.0 little.1 little.2)

pub item_again : (v : Item) → IsWritable v → IsKnown v → item_at (item_data v) ≡ Ok v
item_again v writable known = again_as v v.kind refl (kept v writable known) known.kind writable.kind
