-- The requests that have a written form: their names are those that a segment of a URL can stand for, their ids are above
-- 0, and a condition is the text of a header. How long the written head and body are is not said here.
use Rattle.std.specs.Prelude.{ℕ, ◌<◌, ◌≤◌, Bool, true, ◌||◌, ◌≡◌, List, length, nat_eq, All, Option, Some, None}
use Rattle.gd_names.specs.Escapes.{is_between, IsSegmentName}
use Rattle.gd_item.specs.declared.condition.Condition.{Condition}
use Rattle.gd_item.specs.declared.condition.Condition.TheVariants.{Free, Match}
use Rattle.gd_item.specs.declared.id.ItemId.{ItemId}
use Rattle.gd_item.specs.declared.request.Address.{Address}
use Rattle.gd_item.specs.declared.request.Address.TheVariants.{Id, ByPath, Child}
use Rattle.gd_item.specs.declared.request.Request.{Request}
use Rattle.gd_item.specs.declared.request.Request.TheVariants.{Get, Children, MakeFolder, Put, Patch, Delete, Content, Download, OpenSession, Fragment, SessionStatus, CancelSession, Finish, Delta}

-- something that holds of what may be there
abbrev pub IfGiven : {X : Type 0} → (X → Type 0) → Option X → Type 0
IfGiven Holds None = Unit {0}
IfGiven Holds (Some x) = Holds x

abbrev pub IsWrittenId : ItemId → Type 0
IsWrittenId id = 0 < id.0

-- an address by path has at least one name
abbrev pub IsWrittenAddress : Address → Type 0
IsWrittenAddress (Id id) = IsWrittenId id
IsWrittenAddress (ByPath path) = (0 < length path) × All IsSegmentName path
IsWrittenAddress (Child id name) = IsWrittenId id × IsSegmentName name

-- at least one byte, each from 33 to 126
abbrev pub IsHeaderText : List ℕ → Type 0
IsHeaderText text = (0 < length text) × All (λ b. (33 ≤ b) × (b ≤ 126)) text

abbrev pub IsWrittenCondition : Condition → Type 0
IsWrittenCondition Free = Unit {0}
IsWrittenCondition (Match text) = IsHeaderText text

-- letters, digits and dots, at least one
abbrev pub is_token_byte : ℕ → Bool
is_token_byte b = is_between 65 90 b || is_between 97 122 b || is_between 48 57 b || nat_eq b 46

abbrev pub IsWrittenToken : List ℕ → Type 0
IsWrittenToken token = (0 < length token) × All (λ b. is_token_byte b ≡ true) token

-- a body has at most 67,108,864 bytes
abbrev pub IsWrittenBody : List ℕ → Type 0
IsWrittenBody bytes = length bytes ≤ 67108864

abbrev pub IsWritten : Request → Type 0
IsWritten (Get at) = IsWrittenAddress at
IsWritten (Children at after) = IsWrittenAddress at × IfGiven IsSegmentName after
IsWritten (MakeFolder at name behaviour) = IsWrittenAddress at
IsWritten (Put at bytes behaviour condition) = IsWrittenAddress at × IsWrittenBody bytes × IsWrittenCondition condition
IsWritten (Patch at name parent condition) = IsWrittenAddress at × IfGiven IsWrittenId parent × IsWrittenCondition condition
IsWritten (Delete at condition) = IsWrittenAddress at × IsWrittenCondition condition
IsWritten (Content at) = IsWrittenAddress at
IsWritten (Download id version) = IsWrittenId id
IsWritten (OpenSession at name behaviour condition defer) = IsWrittenAddress at × IsWrittenCondition condition
IsWritten (Fragment session first last total bytes) = IsWrittenBody bytes
IsWritten (SessionStatus session) = Unit {0}
IsWritten (CancelSession session) = Unit {0}
IsWritten (Finish session) = Unit {0}
IsWritten (Delta token) = IfGiven IsWrittenToken token
