-- Links. A link is the front of its kind and what it names; it is read by what follows the front.
use Rattle.std.specs.Prelude.{ℕ, Bool, not, ◌&&◌, ◌||◌, cond, List, [], ◌∷◌, ◌++◌, length, drop, codes, nat_eq, Option, Some, None, option_and_then}
use Rattle.std.specs.Fmt.{decimal}
use Rattle.std.specs.List.{list_all, starts_with}
use Rattle.gd_names.specs.Escapes.{escaped, unescaped}
use Rattle.gd_item.specs.declared.id.ItemId.{ItemId}
use Rattle.gd_item.specs.declared.item.Item.{Item}
use Rattle.gd_json.specs.Bases.{is_letter_or_digit}
use Rattle.gd_json.specs.Numbers.{number_of_text, id_written}

-- what follows the front, where the text has it
unfoldable pub past : List ℕ → List ℕ → Option (List ℕ)
past front text = cond (starts_with nat_eq text front) (Some (drop (length front) text)) None

-- ---- the next page of the feed of changes, or the feed from now on

unfoldable pub delta_front : List ℕ → List ℕ
delta_front base = base ++ codes "/v1.0/me/drive/root/delta?token="

-- whether the text may be a token in a link: letters, digits and dots, at least one
unfoldable pub is_token_byte : ℕ → Bool
is_token_byte b = is_letter_or_digit b || nat_eq b 46

unfoldable pub is_token : List ℕ → Bool
is_token token = not (nat_eq (length token) 0) && list_all is_token_byte token

abbrev pub token_in : List ℕ → Option (List ℕ)
token_in rest = cond (is_token rest) (Some rest) None

abbrev pub delta_link : List ℕ → List ℕ → List ℕ
delta_link base token = delta_front base ++ token

unfoldable pub token_of_link : List ℕ → List ℕ → Option (List ℕ)
token_of_link base text = option_and_then token_in (past (delta_front base) text)

-- ---- the children of a folder past a name

unfoldable pub children_front : List ℕ → ItemId → List ℕ
children_front base id = ((base ++ codes "/v1.0/me/drive/items/") ++ id_written id) ++ codes "/children?$skiptoken="

abbrev pub children_link : List ℕ → ItemId → List ℕ → List ℕ
children_link base id name = children_front base id ++ escaped name

unfoldable pub name_of_link : List ℕ → ItemId → List ℕ → Option (List ℕ)
name_of_link base id text = option_and_then unescaped (past (children_front base id) text)

-- the folder of a list: the parent of its first item
abbrev pub parent_of_first : List Item → Option ItemId
parent_of_first [] = None
parent_of_first (item ∷ items) = item.parent

-- ---- an upload session

unfoldable pub upload_front : List ℕ → List ℕ
upload_front base = base ++ codes "/v1.0/upload/"

abbrev pub upload_link : List ℕ → ℕ → List ℕ
upload_link base session = upload_front base ++ decimal session

unfoldable pub session_of_link : List ℕ → List ℕ → Option ℕ
session_of_link base text = option_and_then number_of_text (past (upload_front base) text)
