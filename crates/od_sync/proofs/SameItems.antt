-- Items that compare as the same are the same.
use Rattle.std.proofs.Common.{◌≡◌, ℕ, Bool, true, nat_eq, List, Option, Some, None, refl, ap, sym}
use Rattle.std.specs.Cmp.Lexicographic.{pointwise, same_text}
use Rattle.std.specs.Option.{option_eq}
use Rattle.std.proofs.lemmas.Bool.{and_parts, eqb-true}
use Rattle.gd_item.specs.contracts.item.KindPartialEq.TheImpl as kinds
use Rattle.gd_item.specs.declared.digest.Digest.{Digest}
use Rattle.gd_item.specs.declared.id.ItemId.{ItemId}
use Rattle.gd_item.specs.declared.item.Item.{Item}
use Rattle.gd_item.specs.declared.item.Kind.{Kind}
use Rattle.gd_item.specs.declared.item.Kind.TheVariants.{Folder, File, Bare, Deleted}
use Rattle.gd_item.specs.declared.item.Tag.{Tag}
use Rattle.od_sync.specs.PullChanges.{is_same_kind, is_same_item}

-- the derived comparison of kinds
pub kinds-compared : (a b : Kind) → kinds.ghosts.eq a b ≡ is_same_kind a b
kinds-compared (Folder m) (Folder n) = refl
kinds-compared (Folder m) (File d) = refl
kinds-compared (Folder m) Bare = refl
kinds-compared (Folder m) Deleted = refl
kinds-compared (File c) (Folder n) = refl
kinds-compared (File c) (File d) = refl
kinds-compared (File c) Bare = refl
kinds-compared (File c) Deleted = refl
kinds-compared Bare (Folder n) = refl
kinds-compared Bare (File d) = refl
kinds-compared Bare Bare = refl
kinds-compared Bare Deleted = refl
kinds-compared Deleted (Folder n) = refl
kinds-compared Deleted (File d) = refl
kinds-compared Deleted Bare = refl
kinds-compared Deleted Deleted = refl

options-same : {X : Type 0} (same : X → X → Bool) → ((x y : X) → same x y ≡ true → x ≡ y) → (a b : Option X) → option_eq same a b ≡ true → a ≡ b
options-same same each None None is = refl
options-same same each None (Some y) is = absurd (cc is)
options-same same each (Some x) None is = absurd (cc is)
options-same same each (Some x) (Some y) is = ap (λ z. Some z) (each x y is)

texts-same : (a b : List ℕ) → pointwise nat_eq a b ≡ true → a ≡ b
texts-same a b is = same_text a b (sym is)

ids-same : (a b : ItemId) → nat_eq a.0 b.0 ≡ true → a ≡ b
ids-same a b is = ap (λ (n : ℕ). record { 0 = n }) (eqb-true a.0 b.0 is)

tags-same : (a b : Tag) → pointwise nat_eq a.0 b.0 ≡ true → a ≡ b
tags-same a b is = ap (λ (text : List ℕ). record { 0 = text }) (texts-same a.0 b.0 is)

digests-same : (a b : Digest) → pointwise nat_eq a.0 b.0 ≡ true → a ≡ b
digests-same a b is = ap (λ (bytes : List ℕ). record { 0 = bytes }) (texts-same a.0 b.0 is)

kinds-same : (a b : Kind) → is_same_kind a b ≡ true → a ≡ b
kinds-same (Folder m) (Folder n) is = ap (λ k. Folder k) (eqb-true m n is)
kinds-same (Folder m) (File d) is = absurd (cc is)
kinds-same (Folder m) Bare is = absurd (cc is)
kinds-same (Folder m) Deleted is = absurd (cc is)
kinds-same (File c) (Folder n) is = absurd (cc is)
kinds-same (File c) (File d) is = ap (λ x. File x) (digests-same c d is)
kinds-same (File c) Bare is = absurd (cc is)
kinds-same (File c) Deleted is = absurd (cc is)
kinds-same Bare (Folder n) is = absurd (cc is)
kinds-same Bare (File d) is = absurd (cc is)
kinds-same Bare Bare is = refl
kinds-same Bare Deleted is = absurd (cc is)
kinds-same Deleted (Folder n) is = absurd (cc is)
kinds-same Deleted (File d) is = absurd (cc is)
kinds-same Deleted Bare is = absurd (cc is)
kinds-same Deleted Deleted is = refl

-- an item of its parts
item_of : ItemId → Option ItemId → Option (List ℕ) → List ℕ → ℕ → Tag → Option Tag → Kind → Item
item_of id parent parent_path name size etag ctag kind =
    record { id = id; parent = parent; parent_path = parent_path; name = name; size = size; etag = etag; ctag = ctag; kind = kind }

item-is : (a : Item) → a ≡ item_of a.id a.parent a.parent_path a.name a.size a.etag a.ctag a.kind
unfolding item_of
item-is a = refl

pub items-same : (a b : Item) → is_same_item a b ≡ true → a ≡ b
items-same a b is =
    let first = and_parts _ _ is in
    let second = and_parts _ _ first.1 in
    let third = and_parts _ _ second.1 in
    let fourth = and_parts _ _ third.1 in
    let fifth = and_parts _ _ fourth.1 in
    let sixth = and_parts _ _ fifth.1 in
    let seventh = and_parts _ _ sixth.1 in
    let id : a.id ≡ b.id = ids-same a.id b.id first.0 in
    let parent : a.parent ≡ b.parent = options-same (λ (x y : ItemId). nat_eq x.0 y.0) ids-same a.parent b.parent second.0 in
    let parent_path : a.parent_path ≡ b.parent_path = options-same (pointwise nat_eq) texts-same a.parent_path b.parent_path third.0 in
    let name : a.name ≡ b.name = texts-same a.name b.name fourth.0 in
    let size : a.size ≡ b.size = eqb-true a.size b.size fifth.0 in
    let etag : a.etag ≡ b.etag = tags-same a.etag b.etag sixth.0 in
    let ctag : a.ctag ≡ b.ctag = options-same (λ (x y : Tag). pointwise nat_eq x.0 y.0) tags-same a.ctag b.ctag seventh.0 in
    let kind : a.kind ≡ b.kind = kinds-same a.kind b.kind seventh.1 in
    cc (item-is a, item-is b)
