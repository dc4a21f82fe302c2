-- Lists of children and pages of the feed.
use Rattle.std.specs.Prelude.{◌≡◌, ℕ, true, List, [], ◌∷◌, Option, Some, None, option_map, option_and_then, Result, Ok, Err, codes, All, ⊤}
use Rattle.std.specs.Result.{result_ok}
use Rattle.serde_json.specs.Data.{Data, Items, no_items, item, Members, no_members, put, string, array, object}
use Rattle.serde_json.specs.Find.{get}
use Rattle.gd_names.specs.Escapes.{IsSegmentName}
use Rattle.gd_item.specs.declared.id.ItemId.{ItemId}
use Rattle.gd_item.specs.declared.item.Item.{Item}
use Rattle.gd_item.specs.declared.reply.Page.{Page}
use Rattle.gd_item.specs.declared.reply.PageLink.{PageLink}
use Rattle.gd_item.specs.declared.reply.PageLink.TheVariants.{Next, Delta}
use Rattle.gd_json.specs.declared.fault.Member.TheVariants as of
use Rattle.gd_json.specs.declared.fault.JsonFault.{JsonFault}
use Rattle.gd_json.specs.declared.fault.JsonFault.TheVariants.{Lacks, BadMember}
use Rattle.gd_json.specs.declared.children.ChildList.{ChildList}
use Rattle.gd_json.specs.Faults.{◌>>=◌}
use Rattle.gd_json.specs.Members.{text_as, optional_as, items_as}
use Rattle.gd_json.specs.Items.{item_at, item_data, IsWritable}
use Rattle.gd_json.specs.Links.{delta_link, token_of_link, is_token, children_link, name_of_link, parent_of_first}
use Rattle.gd_json.specs.Writing.{put_optional, listed}

-- ---- reading

-- every value is an item
unfoldable pub items_in : Items → Option (List Item)
items_in no_items = Some []
items_in (item d ds) = option_and_then (λ first. option_map (λ others. first ∷ others) (items_in ds)) (result_ok (item_at d))

-- the name in the link of a list, which names the folder of its first item
abbrev pub name_under : List ℕ → Option ItemId → List ℕ → Option (List ℕ)
name_under base None text = None
name_under base (Some parent) text = name_of_link base parent text

unfoldable pub children_at : List ℕ → Data → Result ChildList JsonFault
children_at base d = do
  items ← items_as of.Value items_in (get (codes "value") d)
  next ← optional_as of.NextLink (name_under base (parent_of_first items)) (get (codes "@odata.nextLink") d)
  Ok (record { items = items; next = next })

-- exactly one of the two links
abbrev pub link_at : List ℕ → Option Data → Option Data → Result PageLink JsonFault
link_at base None None = Err (Lacks of.NextLink)
link_at base (Some next) None = text_as of.NextLink (token_of_link base) (Some next) >>= λ token. Ok (Next token)
link_at base None (Some delta) = text_as of.DeltaLink (token_of_link base) (Some delta) >>= λ token. Ok (Delta token)
link_at base (Some next) (Some delta) = Err (BadMember of.DeltaLink)

unfoldable pub page_at : List ℕ → Data → Result Page JsonFault
page_at base d = do
  items ← items_as of.Value items_in (get (codes "value") d)
  link ← link_at base (get (codes "@odata.nextLink") d) (get (codes "@odata.deltaLink") d)
  Ok (record { items = items; link = link })

-- ---- writing

abbrev pub value_members : List Item → Members
value_members items = put (codes "value") (array (listed item_data items no_items)) no_members

-- the link past a name, where the list has a folder
abbrev pub next_link : List ℕ → Option ItemId → Option (List ℕ) → Option (List ℕ)
next_link base None name = None
next_link base (Some parent) None = None
next_link base (Some parent) (Some name) = Some (children_link base parent name)

unfoldable pub children_data : List ℕ → ChildList → Data
children_data base v =
    object (put_optional (codes "@odata.nextLink") (option_map string (next_link base (parent_of_first v.items) v.next)) (value_members v.items))

abbrev pub put_link : List ℕ → PageLink → Members → Members
put_link base (Next token) ms = put (codes "@odata.nextLink") (string (delta_link base token)) ms
put_link base (Delta token) ms = put (codes "@odata.deltaLink") (string (delta_link base token)) ms

unfoldable pub page_data : List ℕ → Page → Data
page_data base v = object (put_link base v.link (value_members v.items))

-- ---- the lists and pages that are read as they were written

-- a list goes on past a name where its first item has a parent
abbrev pub MayGoOn : Option ItemId → Option (List ℕ) → Type 0
MayGoOn parent None = ⊤
MayGoOn None (Some name) = ⊥
MayGoOn (Some parent) (Some name) = IsSegmentName name

pub record IsWritableList (v : ChildList) : Type 0 where
  pub items : All IsWritable v.items
  pub next : MayGoOn (parent_of_first v.items) v.next

abbrev pub token_of : PageLink → List ℕ
token_of (Next token) = token
token_of (Delta token) = token

pub record IsWritablePage (v : Page) : Type 0 where
  pub items : All IsWritable v.items
  pub token : is_token (token_of v.link) ≡ true
