-- The change of the kept image that a pull makes: its items become those of the view, and its token the view's.
use Rattle.std.specs.Prelude.{◌≡◌, ℕ, Bool, true, false, ◌&&◌, cond, List, [], ◌∷◌, map, nat_eq, Some, None}
use Rattle.std.specs.Cmp.Lexicographic.{pointwise}
use Rattle.std.specs.List.Sorted.{IsStrictlySortedBy}
use Rattle.std.specs.Option.{option_eq}
use Rattle.std.specs.Ordering.{nat_cmp, match_ordering}
use Rattle.gd_item.specs.declared.id.ItemId.{ItemId}
use Rattle.gd_item.specs.declared.item.Item.{Item}
use Rattle.gd_item.specs.declared.item.Kind.{Kind}
use Rattle.gd_item.specs.declared.item.Kind.TheVariants.{Folder, File, Bare, Deleted}
use Rattle.gd_item.specs.declared.item.Tag.{Tag}
use Rattle.od_keeper.specs.Images.{by_id, put_all, without_ids}
use Rattle.od_keeper.specs.declared.image.Change.{Change}

-- the numbers of items rise
abbrev pub ItemsRise : List Item → Type 0
ItemsRise items = IsStrictlySortedBy nat_cmp (map (λ (item : Item). item.id.0) items)

pub record IsPullChange (old : List Item) (items : List Item) (token : List ℕ) (change : Change) : Type 0 where
  pub no_reset : change.reset ≡ false
  pub no_rules : change.rules ≡ None
  pub token_is : change.token ≡ Some token
  pub no_dropped : change.dropped ≡ []
  pub no_rows : change.rows ≡ []
  pub items_are : ItemsRise old → ItemsRise items → put_all by_id change.put (without_ids change.gone old) ≡ items

-- whether a kind, and an item, is another one in each part
abbrev pub is_same_kind : Kind → Kind → Bool
is_same_kind (Folder a) (Folder b) = nat_eq a b
is_same_kind (Folder a) (File d) = false
is_same_kind (Folder a) Bare = false
is_same_kind (Folder a) Deleted = false
is_same_kind (File c) (Folder b) = false
is_same_kind (File c) (File d) = pointwise nat_eq c.0 d.0
is_same_kind (File c) Bare = false
is_same_kind (File c) Deleted = false
is_same_kind Bare (Folder b) = false
is_same_kind Bare (File d) = false
is_same_kind Bare Bare = true
is_same_kind Bare Deleted = false
is_same_kind Deleted (Folder b) = false
is_same_kind Deleted (File d) = false
is_same_kind Deleted Bare = false
is_same_kind Deleted Deleted = true

abbrev pub is_same_item : Item → Item → Bool
is_same_item a b =
    nat_eq a.id.0 b.id.0
    && (option_eq (λ (x y : ItemId). nat_eq x.0 y.0) a.parent b.parent
    && (option_eq (pointwise nat_eq) a.parent_path b.parent_path
    && (pointwise nat_eq a.name b.name
    && (nat_eq a.size b.size && (pointwise nat_eq a.etag.0 b.etag.0 && (option_eq (λ (x y : Tag). pointwise nat_eq x.0 y.0) a.ctag b.ctag && is_same_kind a.kind b.kind))))))

-- a new item and then others, or the others alone where it is the same as the kept one
abbrev pub put_unless : Bool → Item → List Item → List Item
put_unless same item items = cond same items (item ∷ items)

-- the ids of the kept items that others lack: both are walked over at once, in order of id. Past one kept item, the function
-- walks over those after it
abbrev pub gone_past : Item → (List Item → List ItemId) → List Item → List ItemId
gone_past old more [] = old.id ∷ more []
gone_past old more (new ∷ items) = match_ordering (nat_cmp old.id.0 new.id.0) (old.id ∷ more (new ∷ items)) (more items) (gone_past old more items)

abbrev pub pull_gone : List Item → List Item → List ItemId
pull_gone [] items = []
pull_gone (old ∷ kept) items = gone_past old (pull_gone kept) items

-- the items that are new or changed, by the same walk
abbrev pub put_past : Item → (List Item → List Item) → List Item → List Item
put_past old more [] = []
put_past old more (new ∷ items) =
    match_ordering (nat_cmp old.id.0 new.id.0) (more (new ∷ items)) (put_unless (is_same_item old new) new (more items)) (new ∷ put_past old more items)

abbrev pub pull_put : List Item → List Item → List Item
pull_put [] items = items
pull_put (old ∷ kept) items = put_past old (pull_put kept) items
