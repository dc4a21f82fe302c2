-- What the client may bring about next, by what it knows: one line a kind. Steps of others, edits of the user and events
-- of the drive may always come.
use Rattle.std.specs.Prelude.{◌≡◌, ◌⊎◌, ℕ, ◌+◌, ◌≤◌, true, false, List, [], ◌∷◌, ◌++◌, length, take, drop, Option, Some, None}
use Rattle.std.specs.List.{AllByRecursion, Contains}
use Rattle.gd_names.specs.declared.conflict.Conflict.{Conflict}
use Rattle.gd_names.specs.declared.conflict.Conflict.TheVariants.{Fail}
use Rattle.gd_item.specs.Inventory.{Inventory, live_at}
use Rattle.gd_item.specs.Places.{names_above}
use Rattle.gd_item.specs.Records.{digest_record, records_of}
use Rattle.gd_item.specs.Steps.{held_by, state_of}
use Rattle.gd_item.specs.Tags.{etag_text}
use Rattle.gd_item.specs.Trees.{tree_of}
use Rattle.gd_item.specs.Views.{AreItemsOf}
use Rattle.gd_item.specs.declared.condition.Condition.{Condition}
use Rattle.gd_item.specs.declared.condition.Condition.TheVariants.{Free, Match}
use Rattle.gd_item.specs.declared.digest.Digest.{Digest}
use Rattle.gd_item.specs.declared.id.ItemId.{ItemId}
use Rattle.gd_item.specs.declared.live.LiveItem.{LiveItem}
use Rattle.gd_item.specs.declared.request.Address.{Address}
use Rattle.gd_item.specs.declared.request.Address.TheVariants.{Id, ByPath, Child}
use Rattle.gd_item.specs.declared.request.Request.{Request}
use Rattle.gd_item.specs.declared.request.Request.TheVariants.{Get, Children, MakeFolder, Put, Patch, Delete, Content, Download, OpenSession, Fragment, SessionStatus, CancelSession, Finish, Delta}
use Rattle.gd_item.specs.declared.step.Step.{Step}
use Rattle.gd_item.specs.declared.step.Step.TheVariants as step
use Rattle.gd_item.specs.declared.step.Who.TheVariants.{Own, Other}
use Rattle.od_keeper.specs.declared.image.Agreed.{Agreed}
use Rattle.od_keeper.specs.declared.image.Agreed.TheVariants.{Nothing, Folder, File}
use Rattle.od_keeper.specs.declared.image.BaseRow.{BaseRow}
use Rattle.od_keeper.specs.declared.image.Image.{Image}
use Rattle.od_tree.specs.Local.{is_from}
use Rattle.od_tree.specs.declared.step.LocalStep.{LocalStep}
use Rattle.od_tree.specs.declared.step.LocalStep.TheVariants.{User, Op}
use Rattle.od_tree.specs.declared.step.TreeOp.{TreeOp}
use Rattle.od_tree.specs.declared.step.TreeOp.TheVariants as op
use Rattle.od_run.specs.Knowing.{Path, Known, begins, known_path, learn, reading_for, renamed_path, sent_as}
use Rattle.od_run.specs.Worlds.{World, Event, Asked, Worked, Kept, happens}

-- ---- what was so
-- what stands at a path of a drive
abbrev pub IsAt : Inventory → Path → Agreed → Type 0
IsAt held path Nothing = ⊥
IsAt held path Folder = Contains (tree_of held) (path, None)
IsAt held path (File digest) = (bytes : List ℕ) × Contains (tree_of held) (path, Some bytes) × (digest ≡ digest_record bytes)

-- something holds of the drive as it was pulled
abbrev pub AsPulled : (List Step → Type 0) → Option (List Step) → Type 0
AsPulled Holds None = ⊥
AsPulled Holds (Some drive) = Holds drive

abbrev pub HadThere : Known → Path → Agreed → Type 0
HadThere k path what = AsPulled (λ drive. IsAt (held_by drive) path what) k.feed.pulled

-- it was so on the drive: it was pulled so, or a request of the client brought it about since
abbrev pub WasThere : Known → Path → Agreed → Type 0
WasThere k path what = HadThere k path what ⊎ Contains k.there.brought (path, what)

-- an agreement of the last image, and that a file of this digest was on its way
abbrev pub HasRow : Known → Path → Agreed → Type 0
HasRow k path what = (row : BaseRow) × Contains k.image.rows row × (row.path ≡ path) × (row.what ≡ what)

abbrev pub HasFlight : Known → Path → Digest → Type 0
HasFlight k path digest = (row : BaseRow) × Contains k.image.rows row × (row.path ≡ path) × (row.flight ≡ Some digest)

-- ---- requests
-- the condition is the tag that an item had where it was pulled
abbrev pub HasTag : List Step → ℕ → Condition → Type 0
HasTag drive number condition =
    (item : LiveItem) × (live_at number (held_by drive).items ≡ Some item) × (condition ≡ Match (etag_text item.change))

abbrev pub IsTagged : Known → Address → Condition → Type 0
IsTagged k (Id id) condition = AsPulled (λ drive. HasTag drive id.0 condition) k.feed.pulled
IsTagged k (Child id name) condition = ⊥
IsTagged k (ByPath path) condition = ⊥

-- a file is sent over an item with its tag, or to a free name in a folder
abbrev pub IsSentTo : Known → Address → Conflict → Condition → Type 0
IsSentTo k (Id id) behaviour condition = IsTagged k (Id id) condition
IsSentTo k (Child id name) behaviour condition = (behaviour ≡ Fail) × (condition ≡ Free)
IsSentTo k (ByPath path) behaviour condition = ⊥

-- so it is sent once, of what was read last at its path
pub record MaySend (k : Known) (at : Address) (behaviour : Conflict) (condition : Condition) (bytes : List ℕ) : Type 0 where
  pub to : IsSentTo k at behaviour condition
  pub reading : reading_for k at ≡ Some bytes
  pub once : Contains k.there.put at → ⊥

-- an item is moved with its tag, and to a known folder if it gets another one
abbrev pub IsKnownFolder : Known → Option ItemId → Type 0
IsKnownFolder k None = Unit {0}
IsKnownFolder k (Some id) = (path : Path) × (known_path k id.0 ≡ Some path)

-- the client saw a folder at a path, or at one from which it renamed it to this path
abbrev pub SawFolder : Known → Path → Type 0
SawFolder k path =
    Contains k.here.stood (path, Folder) ⊎ ((from : Path) × Contains k.here.stood (from, Folder) × (renamed_path k.here.renamed from ≡ path))

-- a folder is made in a known folder, at a path where the client saw one
abbrev pub MayMakeFolder : Known → Address → List ℕ → Conflict → Type 0
MayMakeFolder k (Id id) name behaviour =
    (behaviour ≡ Fail) × (path : Path) × (known_path k id.0 ≡ Some path) × SawFolder k (path ++ name ∷ [])
MayMakeFolder k (Child id spelt) name behaviour = ⊥
MayMakeFolder k (ByPath path) name behaviour = ⊥

-- a session of this client, and the part of its bytes that a fragment has
abbrev pub IsSession : Known → ℕ → Type 0
IsSession k session = (bytes : List ℕ) × (sent_as k.there.sending session ≡ Some bytes)

pub record IsPart (whole : List ℕ) (first last total : ℕ) (bytes : List ℕ) : Type 0 where
  pub total_is : total ≡ length whole
  pub last_is : last + 1 ≡ first + length bytes
  pub within : first + length bytes ≤ length whole
  pub part : bytes ≡ take (length bytes) (drop first whole)

abbrev pub MaySendPart : Known → ℕ → ℕ → ℕ → ℕ → List ℕ → Type 0
MaySendPart k session first last total bytes =
    (whole : List ℕ) × (sent_as k.there.sending session ≡ Some whole) × IsPart whole first last total bytes

abbrev pub MayRequest : Known → Request → Type 0
MayRequest k (Get at) = ⊥
MayRequest k (Children at after) = ⊥
MayRequest k (MakeFolder at name behaviour) = MayMakeFolder k at name behaviour
MayRequest k (Put at bytes behaviour condition) = MaySend k at behaviour condition bytes
MayRequest k (Patch at name parent condition) = IsTagged k at condition × IsKnownFolder k parent
MayRequest k (Delete at condition) = IsTagged k at condition
MayRequest k (Content at) = Unit {0}
MayRequest k (Download id version) = Unit {0}
MayRequest k (OpenSession at name behaviour condition defer) = (bytes : List ℕ) × MaySend k at behaviour condition bytes
MayRequest k (Fragment session first last total bytes) = MaySendPart k session first last total bytes
MayRequest k (SessionStatus session) = IsSession k session
MayRequest k (CancelSession session) = IsSession k session
MayRequest k (Finish session) = IsSession k session
MayRequest k (Delta token) = token ≡ k.feed.token

abbrev pub MayAsk : Known → ℕ → Step → Type 0
MayAsk k size (step.Ask Own request served heard) = (1 ≤ size) × (size ≤ 200) × MayRequest k request
MayAsk k size (step.Ask Other request served heard) = Unit {0}
MayAsk k size (step.Event event) = Unit {0}

-- ---- the folder
-- the bytes of a held file are those of an agreement
abbrev pub MayDiscard : Known → ℕ → Type 0
MayDiscard k aside = (bytes : List ℕ) × Contains k.here.held_read (aside, bytes) × (path : Path) × HasRow k path (File (digest_record bytes))

-- a folder is above the path at which a held file stood
abbrev pub IsAboveHeld : Known → Path → Type 0
IsAboveHeld k at = (file : ℕ × Path) × Contains k.here.held file × (is_from at (names_above file.1) ≡ true)

-- nothing is overwritten, and what goes is as it was agreed
abbrev pub MayDo : Known → TreeOp → Type 0
MayDo k (op.List at) = Unit {0}
MayDo k (op.Read at) = Unit {0}
MayDo k (op.MakeDir at) = HadThere k at Folder ⊎ IsAboveHeld k at
MayDo k (op.RemoveDir at) = HasRow k at Folder
MayDo k (op.Place at bytes) = HadThere k at (File (digest_record bytes))
MayDo k (op.Rename from to) = names_above from ≡ names_above to
MayDo k (op.SetAside at) = (digest : Digest) × HasRow k at (File digest)
MayDo k (op.ReadAside aside) = Unit {0}
MayDo k (op.PutBack aside to) = (from : Path) × Contains k.here.held (aside, from)
MayDo k (op.Discard aside) = MayDiscard k aside
MayDo k op.Asides = Unit {0}

abbrev pub MayWork : Known → LocalStep → Type 0
MayWork k (User edit) = Unit {0}
MayWork k (Op call) = MayDo k call

-- ---- images
-- the client begins anew: before it asked for changes, or where its token is no longer served
pub record BeginsAnew (k : Known) (image : Image) : Type 0 where
  pub token : image.token ≡ None
  pub items : image.items ≡ []
  pub rows : image.rows ≡ []
  pub may : (k.feed.begun ≡ false) ⊎ (k.feed.token ≡ None)

-- the items stay, or are those that were pulled, with the token to which they were
pub record StaysPulled (k : Known) (image : Image) : Type 0 where
  pub token : image.token ≡ k.image.token
  pub items : image.items ≡ k.image.items

pub record IsPulledNow (k : Known) (image : Image) : Type 0 where
  pub token : image.token ≡ k.feed.token
  pub items : AsPulled (λ drive. AreItemsOf (state_of drive).plain image.items (records_of (held_by drive))) k.feed.pulled

-- a file was on its way
abbrev pub HasFlown : Known → Path → Agreed → Type 0
HasFlown k path Nothing = ⊥
HasFlown k path Folder = ⊥
HasFlown k path (File digest) = HasFlight k path digest

-- an agreement stays, or was so here and there, or was on its way and came there; one on nothing says nothing
abbrev pub MayAgree : Known → Path → Agreed → Type 0
MayAgree k path what = (what ≡ Nothing) ⊎ (HasRow k path what ⊎ ((Contains k.here.stood (path, what) ⊎ HasFlown k path what) × WasThere k path what))

-- what is on its way stays so, or was read
abbrev pub IsOnItsWay : Known → Path → Option Digest → Type 0
IsOnItsWay k path None = Unit {0}
IsOnItsWay k path (Some digest) = HasFlight k path digest ⊎ ((bytes : List ℕ) × Contains k.here.read (path, bytes) × (digest ≡ digest_record bytes))

pub record MayKeepRow (k : Known) (row : BaseRow) : Type 0 where
  pub what : MayAgree k row.path row.what
  pub flight : IsOnItsWay k row.path row.flight

pub record MayKeep (k : Known) (image : Image) : Type 0 where
  pub items : BeginsAnew k image ⊎ (StaysPulled k image ⊎ IsPulledNow k image)
  pub rows : AllByRecursion (MayKeepRow k) image.rows

-- ---- a legal history
abbrev pub May : Known → Event → Type 0
May k (Asked size step) = MayAsk k size step
May k (Worked step) = MayWork k step
May k (Kept image) = MayKeep k image

abbrev pub LegalFrom : World → Known → List Event → Type 0
LegalFrom w k [] = Unit {0}
LegalFrom w k (event ∷ events) = May k event × LegalFrom (happens w event) (learn w k event) events

-- of a call that begins here
abbrev pub IsLegal : World → List Event → Type 0
IsLegal w events = LegalFrom w (begins w) events
