-- The records of a drive as it shows them, plain or not, are items of those records; and such items make the same nodes.
use Rattle.std.proofs.Common.{◌≡◌, ℕ, ◌⊎◌, inl, inr, Bool, true, false, cond, nat_eq, List, [], ◌∷◌, Option, Some, None, refl, ap, sym, subst, ◌∙◌}
use Rattle.std.specs.Cmp.Lexicographic.{pointwise, same_text}
use Rattle.gd_names.proofs.Maps.{Both}
use Rattle.gd_item.specs.Answers.{bare_kind, bare_item}
use Rattle.gd_item.specs.Inventory.{Inventory}
use Rattle.gd_item.specs.Nodes.{Node, item_node, is_folder_kind}
use Rattle.gd_item.specs.Records.{kind_at, record_of, root_record}
use Rattle.gd_item.specs.Views.{uncounted_kind, uncounted, Lacks, IsItemOf, AreItemsOf}
use Rattle.gd_item.specs.declared.item.Item.{Item}
use Rattle.gd_item.specs.declared.item.Kind.{Kind}
use Rattle.gd_item.specs.declared.item.Kind.TheVariants.{Folder, File, Bare, Deleted}
use Rattle.gd_item.specs.declared.item.Tag.{Tag}
use Rattle.gd_item.specs.declared.live.LiveItem.{LiveItem}
use Rattle.od_mirror.specs.Pulled.{known_from, known_kind, nodes}
use Rattle.od_pages.proofs.Fed.{IsOther, Shows}
use Rattle.od_pages.proofs.Told.{standing}

-- the kind of what lives and is whole
abbrev pub IsWhole : Kind → Type 0
IsWhole (Folder child_count) = Unit {0}
IsWhole (File digest) = Unit {0}
IsWhole Bare = ⊥
IsWhole Deleted = ⊥

whole-kind : (bytes : Option (List ℕ)) (number : ℕ) (all : List LiveItem) → IsWhole (kind_at bytes number all)
whole-kind None number all = tt
whole-kind (Some bytes) number all = tt

pub whole-record : (all : List LiveItem) (item : LiveItem) → IsWhole (record_of all item).kind
whole-record all item = whole-kind item.bytes item.number all

pub stands : (kind : Kind) (before : Option Item) (item : Item) → IsWhole kind → standing kind before item ≡ Some item
stands (Folder child_count) before item whole = refl
stands (File digest) before item whole = refl
stands Bare before item whole = absurd whole
stands Deleted before item whole = absurd whole

-- ---- shown as they are
pub shows-whole : (R : Item → Item → Type 0) → ((item : Item) → R item item) → (held : Inventory) → Shows R (λ (item : Item). item) held
shows-whole R same held = record {
  same_id = λ item. refl;
  same_etag = λ item. refl;
  root = λ before. same (root_record held.items);
  living = λ before item other.
      subst (λ found. Both R found (Some (record_of held.items item))) (sym (stands (record_of held.items item).kind before (record_of held.items item) (whole-record held.items item)))
      (same (record_of held.items item));
  gone = λ before stone. refl;
}

-- ---- shown bare
bare-again : (kind : Kind) → bare_kind (uncounted_kind (bare_kind kind)) ≡ bare_kind (uncounted_kind kind)
bare-again (Folder child_count) = refl
bare-again (File digest) = refl
bare-again Bare = refl
bare-again Deleted = refl

uncounted-bare : (kind : Kind) → uncounted_kind (bare_kind kind) ≡ bare_kind (uncounted_kind kind)
uncounted-bare (Folder child_count) = refl
uncounted-bare (File digest) = refl
uncounted-bare Bare = refl
uncounted-bare Deleted = refl

lacks-bare : (item : Item) → Lacks (uncounted (bare_item item)) (uncounted item)
lacks-bare item = record {
  rest = ap (λ kind. let bare : Item = record item { ctag = None; kind = kind } in bare) (bare-again item.kind);
  kind = inr (uncounted-bare item.kind);
  ctag = inr refl;
}

-- a digest is not that of another eTag
not-same : (b : Bool) (old new : Tag) → pointwise nat_eq old.0 new.0 ≡ b → (old ≡ new → ⊥) → b ≡ false
not-same true old new is other = absurd (other (ap (λ (text : List ℕ). let tag : Tag = record { 0 = text } in tag) (same_text old.0 new.0 (sym is))))
not-same false old new is other = refl

known-other : (before : Option Item) (whole : Item) → IsOther before whole → known_kind whole.etag before ≡ Bare
known-other None whole other = refl
known-other (Some item) whole other =
    ap (λ b. cond b (known_from item.kind) Bare) (not-same (pointwise nat_eq item.etag.0 whole.etag.0) item.etag whole.etag refl other)

stands-bare : (kind : Kind) (before : Option Item) (whole : Item) → whole.kind ≡ kind → IsWhole kind → IsOther before whole → standing (bare_kind kind) before (bare_item whole) ≡ Some (bare_item whole)
stands-bare (Folder child_count) before whole is live other = refl
stands-bare (File digest) before whole is live other =
    ap (λ kind. let bare : Item = record (bare_item whole) { kind = kind } in Some bare) (known-other before whole other ∙ sym (ap bare_kind is))
stands-bare Bare before whole is live other = absurd live
stands-bare Deleted before whole is live other = absurd live

pub shows-bare : (held : Inventory) → Shows (IsItemOf true) bare_item held
shows-bare held = record {
  same_id = λ item. refl;
  same_etag = λ item. refl;
  root = λ before. inl refl;
  living = λ before item other.
      subst (λ found. Both (IsItemOf true) found (Some (record_of held.items item)))
      (sym (stands-bare (record_of held.items item).kind before (record_of held.items item) refl (whole-record held.items item) other))
      (inr (refl, lacks-bare (record_of held.items item)));
  gone = λ before stone. refl;
}

-- ---- what an item of a record has in common with it
pub same-id : (plain : Bool) (item whole : Item) → IsItemOf plain item whole → item.id ≡ whole.id
same-id plain item whole (inl same) = ap (λ (i : Item). i.id) same
same-id plain item whole (inr lacks) = ap (λ (i : Item). i.id) lacks.1.rest

pub same-etag : (plain : Bool) (item whole : Item) → IsItemOf plain item whole → item.etag ≡ whole.etag
same-etag plain item whole (inl same) = ap (λ (i : Item). i.etag) same
same-etag plain item whole (inr lacks) = ap (λ (i : Item). i.etag) lacks.1.rest

-- the number of children is not compared
pub of-uncounted : (plain : Bool) (item whole other : Item) → uncounted whole ≡ uncounted other → IsItemOf plain item whole → IsItemOf plain item other
of-uncounted plain item whole other same is = subst (λ (w : Item). (uncounted item ≡ w) ⊎ ((plain ≡ true) × Lacks (uncounted item) w)) same is

-- ---- the nodes
uncounted-folder : (kind : Kind) → is_folder_kind (uncounted_kind kind) ≡ is_folder_kind kind
uncounted-folder (Folder child_count) = refl
uncounted-folder (File digest) = refl
uncounted-folder Bare = refl
uncounted-folder Deleted = refl

bare-folder : (kind : Kind) → is_folder_kind (bare_kind kind) ≡ is_folder_kind kind
bare-folder (Folder child_count) = refl
bare-folder (File digest) = refl
bare-folder Bare = refl
bare-folder Deleted = refl

pub node-uncounted : (item : Item) → item_node (uncounted item) ≡ item_node item
node-uncounted item = ap (λ folder. let node : Node = record (item_node item) { folder = folder } in node) (uncounted-folder item.kind)

node-bare : (item : Item) → item_node (bare_item item) ≡ item_node item
node-bare item = ap (λ folder. let node : Node = record (item_node item) { folder = folder } in node) (bare-folder item.kind)

same-node : (plain : Bool) (item whole : Item) → IsItemOf plain item whole → item_node item ≡ item_node whole
same-node plain item whole (inl same) = sym (node-uncounted item) ∙ ap item_node same ∙ node-uncounted whole
same-node plain item whole (inr lacks) =
    sym (node-bare (uncounted item) ∙ node-uncounted item) ∙ ap item_node lacks.1.rest ∙ (node-bare (uncounted whole) ∙ node-uncounted whole)

pub same-nodes : (plain : Bool) (items records : List Item) → AreItemsOf plain items records → nodes items ≡ nodes records
same-nodes plain [] [] are = refl
same-nodes plain [] (whole ∷ records) are = absurd are
same-nodes plain (item ∷ items) [] are = absurd are
same-nodes plain (item ∷ items) (whole ∷ records) are =
    ap (λ node. node ∷ nodes items) (same-node plain item whole are.0) ∙ ap (λ more. item_node whole ∷ more) (same-nodes plain items records are.1)
