-- The status (RFC 9110) and the code of each refusal.
use Rattle.std.specs.Prelude.{ℕ, List, codes}
use Rattle.gd_item.specs.declared.fault.StoreFault.{StoreFault}
use Rattle.gd_item.specs.declared.fault.StoreFault.TheVariants.{NotFound, NotFolder, NotFile, Root, BadName, Modified, IntoItself, NameTaken, PathTooLong, Quota, Memory}
use Rattle.gd_item.specs.declared.fault.SessionFault.{SessionFault}
use Rattle.gd_item.specs.declared.fault.SessionFault.TheVariants as session
use Rattle.gd_item.specs.declared.fault.ErrorCode.{ErrorCode}
use Rattle.gd_item.specs.declared.fault.ErrorCode.TheVariants.{InvalidRequest, InvalidRange, ItemNotFound, NotSupported, NameAlreadyExists, ResyncChangesApplyDifferences, ResyncChangesUploadDifferences, ResourceModified, FailedDependency, GeneralException, QuotaLimitReached}

abbrev pub status_of : StoreFault → ℕ
status_of NotFound = 404
status_of NotFolder = 400
status_of NotFile = 400
status_of Root = 400
status_of BadName = 400
status_of Modified = 412
status_of IntoItself = 400
status_of NameTaken = 409
status_of PathTooLong = 400
status_of Quota = 507
status_of Memory = 503

abbrev pub code_of : StoreFault → ErrorCode
code_of NotFound = ItemNotFound
code_of NotFolder = InvalidRequest
code_of NotFile = InvalidRequest
code_of Root = InvalidRequest
code_of BadName = InvalidRequest
code_of Modified = ResourceModified
code_of IntoItself = InvalidRequest
code_of NameTaken = NameAlreadyExists
code_of PathTooLong = InvalidRequest
code_of Quota = QuotaLimitReached
code_of Memory = GeneralException

-- the same of what upload sessions refuse
abbrev pub session_status_of : SessionFault → ℕ
session_status_of session.NoSession = 404
session_status_of session.Total = 400
session_status_of session.Form = 400
session_status_of session.TooLarge = 413
session_status_of (session.Range expected) = 416
session_status_of session.Multiple = 400
session_status_of session.Quota = 507
session_status_of session.Many = 507
session_status_of session.Memory = 503

abbrev pub session_code_of : SessionFault → ErrorCode
session_code_of session.NoSession = ItemNotFound
session_code_of session.Total = InvalidRequest
session_code_of session.Form = InvalidRequest
session_code_of session.TooLarge = InvalidRequest
session_code_of (session.Range expected) = InvalidRange
session_code_of session.Multiple = InvalidRange
session_code_of session.Quota = QuotaLimitReached
session_code_of session.Many = QuotaLimitReached
session_code_of session.Memory = GeneralException

-- a code as it is spelt
abbrev pub code_text : ErrorCode → List ℕ
code_text InvalidRequest = codes "invalidRequest"
code_text InvalidRange = codes "invalidRange"
code_text ItemNotFound = codes "itemNotFound"
code_text NotSupported = codes "notSupported"
code_text NameAlreadyExists = codes "nameAlreadyExists"
code_text ResyncChangesApplyDifferences = codes "resyncChangesApplyDifferences"
code_text ResyncChangesUploadDifferences = codes "resyncChangesUploadDifferences"
code_text ResourceModified = codes "resourceModified"
code_text FailedDependency = codes "failedDependency"
code_text GeneralException = codes "generalException"
code_text QuotaLimitReached = codes "quotaLimitReached"
