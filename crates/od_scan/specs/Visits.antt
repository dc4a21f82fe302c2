-- The parts of a scan: one look, one visit, and what waits.
use Rattle.std.specs.Prelude.{◌≡◌, ℕ, Bool, true, false, cond, List, [], ◌∷◌, ◌++◌, length, map, Option, Some, None, Result, Ok, Err}
use Rattle.std.specs.List.{AllByRecursion, Contains}
use Rattle.gd_item.specs.Records.{digest_record}
use Rattle.od_keeper.specs.declared.image.Agreed.{Agreed}
use Rattle.od_keeper.specs.declared.image.Agreed.TheVariants as agreed
use Rattle.od_reconcile.specs.declared.types.Node.{Node}
use Rattle.od_reconcile.specs.declared.types.Node.TheVariants.{Folder, File}
use Rattle.od_run.specs.Knowing.{Path, Known, learned}
use Rattle.od_run.specs.Worlds.{World, Event, Asked, Worked, Kept, now}
use Rattle.od_synclist.specs.declared.rule.Rule.{Rule}
use Rattle.od_tree.specs.Listing.{entries_in}
use Rattle.od_tree.specs.Local.{bytes_in, file_at, is_folder_at, local_of}
use Rattle.od_tree.specs.Undisturbed.{NoUser}
use Rattle.od_tree.specs.declared.entry.Entry.{Entry}
use Rattle.od_tree.specs.declared.local.Spot.{Spot}
use Rattle.od_tree.specs.declared.step.LocalStep.{LocalStep}
use Rattle.od_tree.specs.declared.step.LocalStep.TheVariants.{Op}
use Rattle.od_tree.specs.declared.step.TreeOp.TheVariants as op
use Rattle.od_scan.specs.Scans.{OnlyLooks, SawEntry, StaysBut, is_read, looks_for, ops_in}
use Rattle.od_scan.specs.declared.stop.ScanStop.{ScanStop}
use Rattle.od_scan.specs.declared.waiting.Waiting.{Waiting}

-- ---- what stands at a path
abbrev pub read_node : Option (List ℕ) → Option Node
read_node None = None
read_node (Some bytes) = Some (File (length bytes) (Some (digest_record bytes)))

-- a file as it is read, and one that was listed with a size
abbrev pub read_at : Path → List Spot → Option Node
read_at at spots = read_node (bytes_in (file_at at spots))

abbrev pub file_at_turn : List Rule → Path → ℕ → List Spot → Option Node
file_at_turn rules at size spots = cond (is_read rules at size) (read_at at spots) (Some (File size None))

abbrev pub listing_at : Path → List Spot → Option (List Entry)
listing_at at spots = cond (is_folder_at at spots) (Some (entries_in at spots)) None

-- and what is found there
abbrev pub file_found : Path → Option Node → List (Path × Node)
file_found at None = []
file_found at (Some node) = (at, node) ∷ []

abbrev pub folder_found : Path → Option (List Entry) → List (Path × Node)
folder_found at None = []
folder_found at (Some entries) = (at, Folder) ∷ []

-- ---- what waits
-- a path, whether it was listed as a folder, and the size with which it was listed
pub record Turn : Type 0 where
  pub path : Path
  pub folder : Bool
  pub size : ℕ

abbrev pub turn_of : Waiting → Turn
turn_of waiting = record { path = waiting.path; folder = waiting.folder; size = waiting.size }

abbrev pub turns : List Waiting → List Turn
turns waiting = map (λ (w : Waiting). turn_of w) waiting

-- the entries of a folder wait above the others, the first of them last, which is on top
abbrev pub entry_turn : Path → Entry → Turn
entry_turn folder entry = record { path = folder ++ entry.name ∷ []; folder = entry.folder; size = entry.size }

abbrev pub pushed : Path → List Entry → List Turn → List Turn
pushed folder [] stack = stack
pushed folder (entry ∷ entries) stack = pushed folder entries stack ++ entry_turn folder entry ∷ []

abbrev pub pushed_if : Path → Option (List Entry) → List Turn → List Turn
pushed_if folder None stack = stack
pushed_if folder (Some entries) stack = pushed folder entries stack

-- ---- what is seen
-- the steps in the folder
abbrev pub worked_in : List Event → List LocalStep
worked_in [] = []
worked_in (Asked size step ∷ events) = worked_in events
worked_in (Worked step ∷ events) = step ∷ worked_in events
worked_in (Kept image ∷ events) = worked_in events

-- the looks are those by which what is added to what was found is found. This held of the entries at a moment, and without
-- edits of the user it holds of them as they were before
pub record Sees (found found_now : List (Path × Node)) (Holds : List Spot → Type 0) (w : World) (k : Known) (more : List Event) : Type 0 where
  pub looks : OnlyLooks w k more
  pub ops : looks_for found_now ≡ looks_for found ++ ops_in more
  pub scanned : (learned w k more).here.scanned ≡ k.here.scanned
  pub moment : List LocalStep
  pub held : Holds (local_of moment).spots
  pub holds : NoUser (worked_in more) → Holds (local_of w.local).spots

abbrev pub ShowsBy : {X : Type 0} → (List Spot → Option X) → (Option X → List (Path × Node)) → Result (Option X) ScanStop → World → Known → List Event → Type 0
ShowsBy {X} value adds (Ok shown) w k more = Sees [] (adds shown) (λ spots. shown ≡ value spots) w k more
ShowsBy {X} value adds (Err stop) w k more = OnlyLooks w k more

-- ---- what is known of the folder grows
pub record Grows (k next : Known) : Type 0 where
  pub stays : StaysBut k next
  pub scanned : next.here.scanned ≡ k.here.scanned
  pub renamed : next.here.renamed ≡ k.here.renamed
  pub held : next.here.held ≡ k.here.held
  pub held_read : next.here.held_read ≡ k.here.held_read
  pub stood : (fact : Path × Agreed) → Contains k.here.stood fact → Contains next.here.stood fact
  pub read : (reading : Path × List ℕ) → Contains k.here.read reading → Contains next.here.read reading

abbrev pub SawFile : Path → Option Node → Known → Type 0
SawFile at None next = Unit {0}
SawFile at (Some node) next = SawEntry next (at, node)

pub record IsFound (at : Path) (node : Option Node) (k next : Known) : Type 0 where
  pub grows : Grows k next
  pub saw : SawFile at node next

abbrev pub FoundBy : Path → Result (Option Node) ScanStop → Known → Known → Type 0
FoundBy at (Ok node) k next = IsFound at node k next
FoundBy at (Err stop) k next = StaysBut k next

abbrev pub SawFolder : Path → Option (List Entry) → Known → Type 0
SawFolder at None next = Unit {0}
SawFolder at (Some entries) next = Contains next.here.stood (at, agreed.Folder)

pub record IsListed (at : Path) (entries : Option (List Entry)) (k next : Known) : Type 0 where
  pub grows : Grows k next
  pub saw : SawFolder at entries next

abbrev pub ListedBy : Path → Result (Option (List Entry)) ScanStop → Known → Known → Type 0
ListedBy at (Ok entries) k next = IsListed at entries k next
ListedBy at (Err stop) k next = StaysBut k next

-- ---- a visit
-- what was known of what was found is known, and so is what is found now
pub record IsVisited (found found_now : List (Path × Node)) (k next : Known) : Type 0 where
  pub grows : Grows k next
  pub saw : AllByRecursion (SawEntry k) found → AllByRecursion (SawEntry next) found_now

abbrev pub VisitedBy : List (Path × Node) → List (Path × Node) → Result (Unit {0}) ScanStop → Known → Known → Type 0
VisitedBy found found_now (Ok done) k next = IsVisited found found_now k next
VisitedBy found found_now (Err stop) k next = StaysBut k next

abbrev pub VisitFact : List (Path × Node) → List (Path × Node) → (List Spot → Type 0) → Result (Unit {0}) ScanStop → World → Known → List Event → Type 0
VisitFact found found_now Holds (Ok done) w k more = Sees found found_now Holds w k more
VisitFact found found_now Holds (Err stop) w k more = OnlyLooks w k more

-- a file, and a folder whose entries wait then
abbrev pub VisitsFile : List Rule → Path → ℕ → List (Path × Node) → List (Path × Node) → List Spot → Type 0
VisitsFile rules at size found found_now spots = found_now ≡ found ++ file_found at (file_at_turn rules at size spots)

pub record VisitsFolder (at : Path) (found found_now : List (Path × Node)) (stack stack_now : List Turn) (spots : List Spot) : Type 0 where
  pub found_is : found_now ≡ found ++ folder_found at (listing_at at spots)
  pub waiting_is : stack_now ≡ pushed_if at (listing_at at spots) stack

-- either, as it was listed
abbrev pub VisitsAs : List Rule → Path → Bool → ℕ → List (Path × Node) → List (Path × Node) → List Turn → List Turn → List Spot → Type 0
VisitsAs rules at true size found found_now stack stack_now spots = VisitsFolder at found found_now stack stack_now spots
VisitsAs rules at false size found found_now stack stack_now spots = VisitsFile rules at size found found_now spots × (stack_now ≡ stack)

pub record Visits (rules : List Rule) (turn : Turn) (found found_now : List (Path × Node)) (stack stack_now : List Turn) (spots : List Spot) : Type 0 where
  pub visits : VisitsAs rules turn.path turn.folder turn.size found found_now stack stack_now spots

-- ---- the root
-- the root is listed
pub record IsBegun (k next : Known) : Type 0 where
  pub local : List LocalStep
  pub local_is : next.here.scanned ≡ Some local
  pub renamed : next.here.renamed ≡ []
  pub held : next.here.held ≡ k.here.held
  pub held_read : next.here.held_read ≡ k.here.held_read
  pub stays : StaysBut k next

abbrev pub BeginsBy : {X : Type 0} → Result X ScanStop → Known → Known → Type 0
BeginsBy {X} (Ok value) k next = IsBegun k next
BeginsBy {X} (Err stop) k next = StaysBut k next

pub record IsRoot (entries : List Entry) (w : World) (k : Known) (more : List Event) : Type 0 where
  pub local : List LocalStep
  pub local_is : (learned w k more).here.scanned ≡ Some local
  pub grown : (now w more).local ≡ local ++ Op (op.List []) ∷ []
  pub looks : OnlyLooks w k more
  pub ops : ops_in more ≡ op.List [] ∷ []
  pub entries_are : entries ≡ entries_in [] (local_of local).spots

abbrev pub RootFact : Result (List Entry) ScanStop → World → Known → List Event → Type 0
RootFact (Ok entries) w k more = IsRoot entries w k more
RootFact (Err stop) w k more = OnlyLooks w k more

-- and its entries wait
pub record Begins (stack stack_now : List Turn) (w : World) (k : Known) (more : List Event) : Type 0 where
  pub entries : List Entry
  pub root : IsRoot entries w k more
  pub waiting_is : stack_now ≡ pushed [] entries stack

abbrev pub BeginsFact : List Turn → List Turn → Result (Unit {0}) ScanStop → World → Known → List Event → Type 0
BeginsFact stack stack_now (Ok done) w k more = Begins stack stack_now w k more
BeginsFact stack stack_now (Err stop) w k more = OnlyLooks w k more
