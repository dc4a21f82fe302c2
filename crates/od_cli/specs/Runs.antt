-- A run of a script: from a new drive, an empty folder and an empty keeper each line leads to what is after it, and prints its
-- text. A line of other clients, and what is printed of a drive or a folder, are as they are defined; a sync leads to any logs
-- and images, and to any end, that its contract allows where no one else asks the drive or edits the folder and nothing fails.
use Rattle.std.specs.Prelude.{◌≡◌, ℕ, Bool, true, false, ◌&&◌, cond, List, [], ◌∷◌, ◌++◌, length, drop, codes, count_by, nat_eq}
use Rattle.std.specs.List.{flat_map}
use Rattle.std.specs.Fmt.{decimal}
use Rattle.gd_item.specs.Ids.{id_text}
use Rattle.gd_item.specs.Requests.{kind_of}
use Rattle.gd_item.specs.declared.request.RequestKind.{RequestKind}
use Rattle.gd_item.specs.declared.request.RequestKind.TheVariants as kind
use Rattle.gd_item.specs.declared.step.Step.{Step}
use Rattle.gd_item.specs.declared.step.Step.TheVariants.{Ask, Event}
use Rattle.gd_item.specs.declared.step.Who.TheVariants.{Own, Other}
use Rattle.od_keeper.specs.declared.image.Image.{Image}
use Rattle.od_transfer.specs.Alone.{AreOwnServed, AreOwnHeard}
use Rattle.od_tree.specs.Local.{local_tree}
use Rattle.od_tree.specs.Undisturbed.{NoUser}
use Rattle.od_tree.specs.declared.step.LocalStep.{LocalStep}
use Rattle.od_sync.specs.Ends.{Counts, HasCause}
use Rattle.od_sync.specs.Syncs.{Syncs}
use Rattle.od_sync.specs.declared.ends.SyncEnd.{SyncEnd}
use Rattle.od_sync.specs.declared.ends.SyncEnd.TheVariants as ends
use Rattle.od_cli.specs.Following.{can_follow}
use Rattle.od_cli.specs.Played.{content_line, line_text, line_steps}
use Rattle.od_cli.specs.Worlds.{page_size}
use Rattle.od_cli.specs.declared.line.Line.{Line}
use Rattle.od_cli.specs.declared.line.Line.TheVariants.{Page, Sync, Local, Requests}

-- what a run has come to: the drive's log, how many items a page of it has at most, whether this client can follow what befell
-- it, the folder's log, the committed images, and how many steps of the drive's log earlier `requests` lines told
pub record Run : Type 0 where
  pub drive : List Step
  pub size : ℕ
  pub followed : Bool
  pub local : List LocalStep
  pub images : List Image
  pub counted : ℕ

abbrev pub new_run : Run
new_run = record { drive = []; size = page_size; followed = true; local = []; images = []; counted = 0 }

-- what a sync prints: its end, after the item that does not fit, if that ended it
abbrev pub sync_text : SyncEnd → List ℕ
sync_text ends.Settled = codes "sync Settled\n"
sync_text ends.Unsettled = codes "sync Unsettled\n"
sync_text ends.LinkFault = codes "sync LinkFault\n"
sync_text ends.TreeFault = codes "sync TreeFault\n"
sync_text ends.KeeperFault = codes "sync KeeperFault\n"
sync_text (ends.BadPages id) = codes "item " ++ id_text id.0 ++ codes "\nsync BadReply\n"
sync_text ends.Unserved = codes "sync Unserved\n"
sync_text ends.Memory = []

-- no failure of the drive, the folder or the keeper is counted
pub record NoFaults (counts : Counts) : Type 0 where
  pub link : counts.link_faults ≡ 0
  pub tree : counts.tree_faults ≡ 0
  pub keeper : counts.keeper_faults ≡ 0

-- a sync that no one disturbs; it does not end for want of memory, which ends the run
pub record Synced (run next : Run) (end : SyncEnd) : Type 0 where
  pub more : List Step
  pub part : List LocalStep
  pub added : List Image
  pub next_is : next ≡ record run { drive = run.drive ++ more; local = run.local ++ part; images = run.images ++ added }
  pub own : AreOwnServed more
  pub heard : AreOwnHeard more
  pub ops : NoUser part
  pub before : Counts
  pub now : Counts
  pub none_before : NoFaults before
  pub none_now : NoFaults now
  pub syncs : Syncs before now run.drive more run.local part run.images added end
  pub cause : HasCause before now end
  pub goes_on : end ≡ ends.Memory → ⊥

-- what `local` prints
abbrev pub local_text : List LocalStep → List ℕ
local_text local = codes "local\n" ++ flat_map content_line (local_tree local)

-- the name of a kind of requests, and its place among them
abbrev pub kind_name : RequestKind → List ℕ
kind_name kind.Get = codes "get"
kind_name kind.Children = codes "children"
kind_name kind.MakeFolder = codes "mkdir"
kind_name kind.Put = codes "put"
kind_name kind.Patch = codes "patch"
kind_name kind.Delete = codes "delete"
kind_name kind.Content = codes "content"
kind_name kind.Download = codes "download"
kind_name kind.OpenSession = codes "session"
kind_name kind.Fragment = codes "fragment"
kind_name kind.SessionStatus = codes "status"
kind_name kind.CancelSession = codes "cancel"
kind_name kind.Finish = codes "finish"
kind_name kind.Delta = codes "delta"

abbrev pub kind_place : RequestKind → ℕ
kind_place kind.Get = 0
kind_place kind.Children = 1
kind_place kind.MakeFolder = 2
kind_place kind.Put = 3
kind_place kind.Patch = 4
kind_place kind.Delete = 5
kind_place kind.Content = 6
kind_place kind.Download = 7
kind_place kind.OpenSession = 8
kind_place kind.Fragment = 9
kind_place kind.SessionStatus = 10
kind_place kind.CancelSession = 11
kind_place kind.Finish = 12
kind_place kind.Delta = 13

abbrev pub all_kinds : List RequestKind
all_kinds =
    kind.Get ∷ kind.Children ∷ kind.MakeFolder ∷ kind.Put ∷ kind.Patch ∷ kind.Delete ∷ kind.Content ∷ kind.Download ∷ kind.OpenSession ∷ kind.Fragment ∷ kind.SessionStatus ∷ kind.CancelSession
    ∷ kind.Finish ∷ kind.Delta ∷ []

-- whether a step is a request of this client of a kind
abbrev pub is_own_of : RequestKind → Step → Bool
is_own_of kind (Ask Own request served heard) = nat_eq (kind_place (kind_of request)) (kind_place kind)
is_own_of kind (Ask Other request served heard) = false
is_own_of kind (Event event) = false

-- a kind and how many requests of it there are, if there are some
abbrev pub count_text : RequestKind → ℕ → List ℕ
count_text kind count = cond (nat_eq count 0) [] (codes " " ++ kind_name kind ++ codes " " ++ decimal count)

-- what `requests` prints
abbrev pub requests_text : List Step → List ℕ
requests_text steps = codes "requests" ++ flat_map (λ (kind : RequestKind). count_text kind (count_by (is_own_of kind) steps)) all_kinds ++ codes "\n"

-- what a line does
abbrev pub Goes : Run → Line → Run → List ℕ → Type 0
Goes run Sync next text = (run.followed ≡ true) × ((end : SyncEnd) × Synced run next end × (text ≡ sync_text end))
Goes run Local next text = (next ≡ run) × (text ≡ local_text run.local)
Goes run Requests next text = (next ≡ record run { counted = length run.drive }) × (text ≡ requests_text (drop run.counted run.drive))
Goes run (Page size) next text = (next ≡ record run { size = size; followed = false }) × (text ≡ [])
Goes run line next text =
    (next ≡ record run { drive = run.drive ++ line_steps run.drive run.size line; followed = can_follow line && run.followed })
    × (text ≡ line_text run.drive run.size line)

-- what lines do, one after the other
abbrev pub GoThrough : Run → List Line → Run → List ℕ → Type 0
GoThrough run [] last text = (last ≡ run) × (text ≡ [])
GoThrough run (line ∷ lines) last text = (next : Run) × (first rest : List ℕ) × Goes run line next first × GoThrough next lines last rest × (text ≡ first ++ rest)

-- a text is what a run of the lines prints
pub record Played (lines : List Line) (text : List ℕ) : Type 0 where
  pub last : Run
  pub goes : GoThrough new_run lines last text
