-- An upload session, and its status.
use Rattle.std.specs.Prelude.{ℕ, List, ◌++◌, Option, None, option_map, option_and_then, Result, Ok, codes}
use Rattle.std.specs.Fmt.{decimal}
use Rattle.serde_json.specs.Data.{Data, Items, no_items, item, no_members, put, string, array, object}
use Rattle.serde_json.specs.Find.{get, as_str}
use Rattle.gd_json.specs.declared.fault.Member.TheVariants as of
use Rattle.gd_json.specs.declared.fault.JsonFault.{JsonFault}
use Rattle.gd_json.specs.declared.session.SessionBody.{SessionBody}
use Rattle.gd_json.specs.Faults.{◌>>=◌}
use Rattle.gd_json.specs.Members.{optional_as, items_as}
use Rattle.gd_json.specs.Numbers.{expected_of_text}
use Rattle.gd_json.specs.Links.{upload_link, session_of_link}
use Rattle.gd_json.specs.Writing.{put_optional}

-- a list of one range that has no end
abbrev pub expected_in : Items → Option ℕ
expected_in no_items = None
expected_in (item range no_items) = option_and_then expected_of_text (as_str range)
expected_in (item range (item other ranges)) = None

unfoldable pub status_at : Data → Result ℕ JsonFault
status_at d = items_as of.NextExpectedRanges expected_in (get (codes "nextExpectedRanges") d)

-- the session's body names the session, and its status does not
unfoldable pub session_at : List ℕ → Data → Result SessionBody JsonFault
session_at base d = do
  session ← optional_as of.UploadUrl (session_of_link base) (get (codes "uploadUrl") d)
  expected ← status_at d
  Ok (record { session = session; expected = expected })

abbrev pub session_data : List ℕ → SessionBody → Data
session_data base v =
    object
    (put_optional (codes "uploadUrl") (option_map (λ session. string (upload_link base session)) v.session)
    (put (codes "nextExpectedRanges") (array (item (string (decimal v.expected ++ codes "-")) no_items))
    (put (codes "expirationDateTime") (string (codes "2099-01-01T00:00:00Z")) no_members)))
