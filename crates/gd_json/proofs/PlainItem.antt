-- What is written of an item nests little.
use Rattle.std.proofs.Common.{◌≡◌, ℕ, suc, ◌≤◌, Bool, true, false, List, Option, Some, None, refl, arith, lit≤}
use Rattle.std.specs.Prelude.{codes, IfSome, nat_eq, option_map}
use Rattle.serde_json.specs.Data.{Data, put, string, number, unsigned, object, no_members}
use Rattle.gd_item.specs.declared.id.ItemId.{ItemId}
use Rattle.gd_item.specs.declared.item.Tag.{Tag}
use Rattle.gd_item.specs.declared.item.Item.{Item}
use Rattle.gd_item.specs.declared.item.Kind.{Kind}
use Rattle.gd_item.specs.declared.item.Kind.TheVariants.{Folder, File, Bare, Deleted}
use Rattle.gd_json.specs.Numbers.{id_written}
use Rattle.gd_json.specs.Items.{parent_data, reference_data, kind_data, kind_name, root_data, tag_data, common_members, living_members, members_of_kind, item_data}
use Rattle.gd_json.proofs.Plain.{IsPlain, ArePlain, string_plain, none_plain, put_plain, put_optional_plain, object_plain, only_plain}

number_plain : (n m : ℕ) → IsPlain n (number (unsigned m))
number_plain n m = record { shallow = omega arith; exact = refl }

empty_plain : (n : ℕ) → IsPlain (suc n) (object no_members)
empty_plain n = object_plain n no_members (none_plain n)

parent_plain : (id : ItemId) (path : Option (List ℕ)) → IsPlain 1 (parent_data id path)
parent_plain id None = record { shallow = lit≤ tt; exact = refl }
parent_plain id (Some path) = record { shallow = lit≤ tt; exact = refl }

deeper : (n m : ℕ) (d : Data) → n ≤ m → IsPlain n d → IsPlain m d
deeper n m d more plain = record { shallow = omega (arith, plain.shallow); exact = plain.exact }

reference_plain : (parent : Option ItemId) (path : Option (List ℕ)) → IfSome (reference_data parent path) (IsPlain 2)
reference_plain None path = tt
reference_plain (Some id) path = deeper 1 2 _ (lit≤ tt) (parent_plain id path)

kind_plain : (kind : Kind) → IsPlain 2 (kind_data kind)
kind_plain (Folder count) = only_plain 1 _ _ (number_plain 1 count)
kind_plain (File digest) = only_plain 1 _ _ (only_plain 0 _ _ (string_plain 0 _))
kind_plain Bare = empty_plain 1
kind_plain Deleted = only_plain 1 _ _ (string_plain 1 _)

common_plain : (v : Item) → ArePlain 2 (common_members v)
common_plain v =
    let few : ArePlain 2 (put (codes "id") (string (id_written v.id)) (put (codes "eTag") (string v.etag.0) no_members)) = record { shallow = lit≤ tt; exact = refl } in
    put_optional_plain 2 (codes "parentReference") (reference_data v.parent v.parent_path) _ (reference_plain v.parent v.parent_path)
    (put_plain 2 (kind_name v.kind) (kind_data v.kind) _ (kind_plain v.kind) few)

ctag_plain : (n : ℕ) (tag : Option Tag) → IfSome (option_map tag_data tag) (IsPlain n)
ctag_plain n None = tt
ctag_plain n (Some tag) = string_plain n tag.0

root_by : (b : Bool) (id : ItemId) → nat_eq id.0 1 ≡ b → IfSome (root_data id) (IsPlain 2)
root_by true id e = rw e (empty_plain 1)
root_by false id e = rw e tt

living_plain : (v : Item) → ArePlain 2 (living_members v)
living_plain v =
    put_optional_plain 2 (codes "root") (root_data v.id) _ (root_by (nat_eq v.id.0 1) v.id refl)
    (put_plain 2 (codes "size") (number (unsigned v.size)) _ (number_plain 2 v.size)
    (put_plain 2 (codes "name") (string v.name) _ (string_plain 2 v.name)
    (put_optional_plain 2 (codes "cTag") (option_map tag_data v.ctag) (common_members v) (ctag_plain 2 v.ctag) (common_plain v))))

kind_members : (kind : Kind) (v : Item) → ArePlain 2 (members_of_kind kind v)
kind_members (Folder count) v = living_plain v
kind_members (File digest) v = living_plain v
kind_members Bare v = living_plain v
kind_members Deleted v = common_plain v

pub item_plain : (v : Item) → IsPlain 3 (item_data v)
unfolding item_data
item_plain v = object_plain 2 _ (kind_members v.kind v)
