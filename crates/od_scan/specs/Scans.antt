-- A scan of the folder: what it shows, what is known then, and of which folder it is.
use Rattle.std.specs.Prelude.{◌≡◌, ℕ, Bool, true, false, ◌&&◌, cond, List, [], ◌∷◌, ◌++◌, length, map, nat_le, nat_lt, is_some, Option, Some, None, Result, Ok, Err}
use Rattle.std.specs.List.{AllByRecursion, Contains}
use Rattle.std.specs.List.Sorted.{IsStrictlySortedBy}
use Rattle.gd_names.specs.Ordered.{in_order, path_cmp}
use Rattle.gd_names.specs.Streams.{Rose}
use Rattle.gd_item.specs.Records.{digest_record}
use Rattle.gd_item.specs.declared.digest.Digest.{Digest}
use Rattle.gd_item.specs.declared.step.Step.TheVariants as step
use Rattle.gd_item.specs.declared.step.Who.TheVariants.{Own, Other}
use Rattle.od_keeper.specs.declared.image.Agreed.TheVariants as agreed
use Rattle.od_merge.specs.Sides.{at, is_below, paths_of}
use Rattle.od_merge.specs.declared.content.Content.TheVariants as content
use Rattle.od_outside.specs.Seeing.{Counts}
use Rattle.od_reconcile.specs.Entries.{local_tree}
use Rattle.od_reconcile.specs.declared.types.Node.{Node}
use Rattle.od_reconcile.specs.declared.types.Node.TheVariants.{Folder, File}
use Rattle.od_remote.specs.Counting.{Reading}
use Rattle.od_run.specs.Knowing.{Path, Known, learned}
use Rattle.od_run.specs.Worlds.{World, Event, Asked, Worked, Kept, kept_in, now}
use Rattle.od_synclist.specs.Rules.{passes}
use Rattle.od_synclist.specs.declared.rule.Rule.{Rule}
use Rattle.od_tree.specs.Local.{local_of}
use Rattle.od_tree.specs.Undisturbed.{NoUser}
use Rattle.od_tree.specs.declared.local.LocalFile.{LocalFile}
use Rattle.od_tree.specs.declared.local.Spot.{Spot}
use Rattle.od_tree.specs.declared.step.LocalStep.{LocalStep}
use Rattle.od_tree.specs.declared.step.LocalStep.TheVariants.{User, Op}
use Rattle.od_tree.specs.declared.step.TreeOp.{TreeOp}
use Rattle.od_tree.specs.declared.step.TreeOp.TheVariants as op
use Rattle.od_scan.specs.declared.stop.ScanStop.{ScanStop}
use Rattle.od_scan.specs.declared.stop.ScanStop.TheVariants as stop

-- whether a file is read: it passes, and has at most 67,108,864 bytes
abbrev pub is_read : List Rule → Path → ℕ → Bool
is_read rules at size = passes rules at false && nat_le size 67108864

-- what a scan shows of an entry of the folder, and of all, in order of path
abbrev pub scanned_node : List Rule → Path → Option LocalFile → Node
scanned_node rules at None = Folder
scanned_node rules at (Some file) = File (length file.bytes) (cond (is_read rules at (length file.bytes)) (Some (digest_record file.bytes)) None)

abbrev pub scanned_spot : List Rule → Spot → Path × Node
scanned_spot rules spot = (spot.path, scanned_node rules spot.path spot.file)

abbrev pub scanned : List Rule → List Spot → List (Path × Node)
scanned rules spots = in_order (map (λ (spot : Spot). scanned_spot rules spot) spots)

-- ---- what is known then
-- a file that was read has the digest and the size of bytes that were read there
pub record WasRead (k : Known) (path : Path) (size : ℕ) (digest : Digest) : Type 0 where
  pub stood : Contains k.here.stood (path, agreed.File digest)
  pub bytes : List ℕ
  pub read : Contains k.here.read (path, bytes)
  pub digest_is : digest ≡ digest_record bytes
  pub size_is : size ≡ length bytes

-- what an entry that was found shows is known: a folder was listed there, or a file was read there
abbrev pub SawNode : Known → Path → Node → Type 0
SawNode k path Folder = Contains k.here.stood (path, agreed.Folder)
SawNode k path (File size None) = Unit {0}
SawNode k path (File size (Some digest)) = WasRead k path size digest

abbrev pub SawEntry : Known → Path × Node → Type 0
SawEntry k entry = SawNode k entry.0 entry.1

pub record IsScanned (found : List (Path × Node)) (k next : Known) : Type 0 where
  pub local : List LocalStep
  pub local_is : next.here.scanned ≡ Some local
  pub saw : AllByRecursion (SawEntry next) found
  pub renamed : next.here.renamed ≡ []
  pub held : next.here.held ≡ k.here.held
  pub held_read : next.here.held_read ≡ k.here.held_read
  pub image : next.image ≡ k.image
  pub feed : next.feed ≡ k.feed
  pub there : next.there ≡ k.there

-- where it stops, what is known of the drive and of the image stays
pub record StaysBut (k next : Known) : Type 0 where
  pub image : next.image ≡ k.image
  pub feed : next.feed ≡ k.feed
  pub there : next.there ≡ k.there

-- nothing has to be known before
abbrev pub Always : Known → Type 0
Always k = Unit {0}

abbrev pub ScannedBy : Result (List (Path × Node)) ScanStop → Known → Known → Type 0
ScannedBy (Ok found) k next = IsScanned found k next
ScannedBy (Err stop) k next = StaysBut k next

-- ---- what is done
-- steps of others, and looks at the folder: nothing is asked of the drive, nothing is changed in the folder, and no image is kept
abbrev pub IsLookStep : LocalStep → Type 0
IsLookStep (User edit) = Unit {0}
IsLookStep (Op (op.List at)) = Unit {0}
IsLookStep (Op (op.Read at)) = Unit {0}
IsLookStep (Op call) = ⊥

abbrev pub IsLook : Event → Type 0
IsLook (Asked size (step.Ask Own request served heard)) = ⊥
IsLook (Asked size (step.Ask Other request served heard)) = Unit {0}
IsLook (Asked size (step.Event event)) = Unit {0}
IsLook (Worked step) = IsLookStep step
IsLook (Kept image) = ⊥

abbrev pub OnlyLooks : World → Known → List Event → Type 0
OnlyLooks w k more = AllByRecursion IsLook more

-- the operations in the folder
abbrev pub ops_in : List Event → List TreeOp
ops_in [] = []
ops_in (Asked size step ∷ events) = ops_in events
ops_in (Worked (User edit) ∷ events) = ops_in events
ops_in (Worked (Op call) ∷ events) = call ∷ ops_in events
ops_in (Kept image ∷ events) = ops_in events

-- those by which entries are found: a folder is listed, and a file of which the digest is shown is read
abbrev pub looks_at : Path → Node → List TreeOp
looks_at path Folder = op.List path ∷ []
looks_at path (File size None) = []
looks_at path (File size (Some digest)) = op.Read path ∷ []

abbrev pub looks_for : List (Path × Node) → List TreeOp
looks_for [] = []
looks_for (entry ∷ found) = looks_at entry.0 entry.1 ++ looks_for found

-- ---- of which folder it is
-- a file of which the digest is shown passes the rules
abbrev pub IsChosen : List Rule → Path → Node → Type 0
IsChosen rules path Folder = Unit {0}
IsChosen rules path (File size None) = Unit {0}
IsChosen rules path (File size (Some digest)) = passes rules path false ≡ true

abbrev pub AreChosen : List Rule → List (Path × Node) → Type 0
AreChosen rules found = AllByRecursion (λ (entry : Path × Node). IsChosen rules entry.0 entry.1) found

-- the entries in order of path, each once: a tree, in which what is above something is a folder
pub record IsFoundTree (found : List (Path × Node)) : Type 0 where
  pub in_order : IsStrictlySortedBy path_cmp (paths_of (local_tree found))
  pub root : at (local_tree found) [] ≡ None
  pub here : (top path : Path) → nat_lt 0 (length top) ≡ true → is_below top path ≡ true → is_some (at (local_tree found) path) ≡ true → at (local_tree found) top ≡ Some content.Folder

-- the root is listed first, and then is looked at what was found, once and in this order; it is a tree, and where the user left
-- the folder alone since the root was listed, it is the folder's
pub record IsFolder (rules : List Rule) (found : List (Path × Node)) (w : World) (k : Known) (more : List Event) : Type 0 where
  pub local : List LocalStep
  pub local_is : (learned w k more).here.scanned ≡ Some local
  pub rest : List LocalStep
  pub grown : (now w more).local ≡ local ++ Op (op.List []) ∷ rest
  pub all : NoUser rest → found ≡ scanned rules (local_of local).spots
  pub tree : IsFoundTree found
  pub chosen : AreChosen rules found
  pub looks : ops_in more ≡ op.List [] ∷ looks_for found
  pub only : OnlyLooks w k more
  pub kept : kept_in more ≡ []

abbrev pub ScanFact : List Rule → Result (List (Path × Node)) ScanStop → World → Known → List Event → Type 0
ScanFact rules (Ok found) w k more = IsFolder rules found w k more
ScanFact rules (Err stop) w k more = OnlyLooks w k more

-- ---- what is counted
abbrev pub StopCause : ScanStop → Reading → Counts → Counts → Type 0
StopCause stop.Failed reads before now = Rose before.tree now.tree
StopCause stop.Memory reads before now = Unit {0}

abbrev pub ScanCause : {T : Type 0} → Result T ScanStop → Reading → Counts → Counts → Type 0
ScanCause {T} (Ok value) reads before now = Unit {0}
ScanCause {T} (Err stop) reads before now = StopCause stop reads before now
