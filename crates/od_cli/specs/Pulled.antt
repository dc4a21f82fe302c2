-- What items that were pulled print.
use Rattle.std.specs.Prelude.{◌≡◌, ℕ, ◌<◌, List, [], ◌++◌, codes, Option, Some, None}
use Rattle.std.specs.Fmt.{decimal}
use Rattle.std.specs.List.{All}
use Rattle.std.specs.Map.{values_of}
use Rattle.hex.specs.Hex.{encode_lower}
use Rattle.gd_names.specs.Paths.{path_text}
use Rattle.gd_item.specs.Inventory.{Effect, Inventory, inventory, live_at}
use Rattle.gd_item.specs.Records.{feed, record_of}
use Rattle.gd_item.specs.Sound.{IsItemMap}
use Rattle.gd_item.specs.Versions.{content_at, version_at}
use Rattle.gd_item.specs.declared.item.Item.{Item}
use Rattle.gd_item.specs.declared.item.Kind.{Kind}
use Rattle.gd_item.specs.declared.item.Kind.TheVariants.{Folder, File, Bare, Deleted}
use Rattle.gd_item.specs.declared.live.LiveItem.{LiveItem}
use Rattle.gd_item.specs.declared.reply.Page.{Page}
use Rattle.od_mirror.specs.Pulled.{taken_of}
use Rattle.od_mirror.specs.declared.mirror.Taken.TheVariants.{Last}
use Rattle.od_cli.specs.Played.{content_line}

abbrev pub kind_line : List (List ℕ) → ℕ → Kind → List ℕ
kind_line path size (Folder child_count) = path_text path ++ codes "/\n"
kind_line path size (File digest) = path_text path ++ codes " " ++ decimal size ++ codes " " ++ encode_lower digest.0 ++ codes "\n"
kind_line path size Bare = path_text path ++ codes " " ++ decimal size ++ codes "\n"
kind_line path size Deleted = []

abbrev pub item_line : List (List ℕ) × Item → List ℕ
item_line (path, item) = kind_line path item.size item.kind

-- the records of a fresh enumeration
abbrev pub whole_items : Inventory → List Item
whole_items held = values_of (feed held 0 held.number)

-- the page is the one page of a fresh enumeration of a drive
pub record IsWhole (page : Page) : Type 0 where
  pub effects : List Effect
  pub sound : IsItemMap (inventory effects)
  pub items : page.items ≡ whole_items (inventory effects)
  pub last : taken_of page.link ≡ Last

-- the bytes that a drive has of an item, if it is a file
abbrev pub shown_kind : Inventory → ℕ → Kind → Option (List ℕ)
shown_kind held number (Folder child_count) = None
shown_kind held number (File digest) = version_at number (content_at number held) held
shown_kind held number Bare = None
shown_kind held number Deleted = None

-- the line of a record with its content
abbrev pub shown_line : Inventory → List (List ℕ) × Item → List ℕ
shown_line held (path, item) = content_line (path, shown_kind held item.id.0 item.kind)

-- the item is the record of one that lives on the drive
pub record IsListed (held : Inventory) (item : Item) : Type 0 where
  pub live : LiveItem
  pub above : 1 < live.number
  pub there : live_at live.number held.items ≡ Some live
  pub item_is : item ≡ record_of held.items live

abbrev pub AreListed : Inventory → List (List (List ℕ) × Item) → Type 0
AreListed held entries = All (λ (entry : List (List ℕ) × Item). IsListed held entry.1) entries

-- a file of the drive has this number
pub record IsFileAt (held : Inventory) (number : ℕ) : Type 0 where
  pub live : LiveItem
  pub bytes : List ℕ
  pub above : 1 < number
  pub there : live_at number held.items ≡ Some live
  pub bytes_are : live.bytes ≡ Some bytes
