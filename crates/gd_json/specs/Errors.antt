-- An error by its code. The message is the code again.
use Rattle.std.specs.Prelude.{ℕ, List, [], ◌∷◌, Option, Result, Ok, codes}
use Rattle.serde_json.specs.Data.{Data, no_members, put, string, object}
use Rattle.serde_json.specs.Find.{get, as_str}
use Rattle.gd_item.specs.Faults.{code_text}
use Rattle.gd_item.specs.declared.fault.ErrorCode.{ErrorCode}
use Rattle.gd_item.specs.declared.fault.ErrorCode.TheVariants.{InvalidRequest, InvalidRange, ItemNotFound, NotSupported, NameAlreadyExists, ResyncChangesApplyDifferences, ResyncChangesUploadDifferences, ResourceModified, FailedDependency, GeneralException, QuotaLimitReached}
use Rattle.gd_json.specs.declared.fault.Member.TheVariants as of
use Rattle.gd_json.specs.declared.fault.JsonFault.{JsonFault}
use Rattle.gd_json.specs.Faults.{◌>>=◌}
use Rattle.gd_json.specs.Values.{object_of, one_of}
use Rattle.gd_json.specs.Members.{needed, optional, text_as}
use Rattle.gd_json.specs.Writing.{only}

abbrev pub spelt : ErrorCode → List ℕ × ErrorCode
spelt code = (code_text code, code)

unfoldable pub code_of : List ℕ → Option ErrorCode
code_of =
    one_of
    (spelt InvalidRequest ∷ spelt InvalidRange ∷ spelt ItemNotFound ∷ spelt NotSupported ∷ spelt NameAlreadyExists
    ∷ spelt ResyncChangesApplyDifferences ∷ spelt ResyncChangesUploadDifferences ∷ spelt ResourceModified
    ∷ spelt FailedDependency ∷ spelt GeneralException ∷ spelt QuotaLimitReached ∷ [])

unfoldable pub error_at : Data → Result ErrorCode JsonFault
error_at d = do
  error ← needed of.Code object_of (get (codes "error") d)
  code ← text_as of.Code code_of (get (codes "code") error)
  message ← optional of.Message as_str (get (codes "message") error)
  Ok code

abbrev pub error_data : ErrorCode → Data
error_data code =
    only (codes "error") (object (put (codes "message") (string (code_text code)) (put (codes "code") (string (code_text code)) no_members)))
