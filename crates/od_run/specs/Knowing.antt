-- What the client may rely on, and how it learns of it.
use Rattle.std.specs.Prelude.{ℕ, ◌+◌, Bool, true, false, not, cond, List, [], ◌∷◌, ◌++◌, filter, length, map, nat_eq, is_none, Option, Some, None}
use Rattle.gd_item.specs.Answers.{answer_of}
use Rattle.gd_item.specs.Inventory.{Effect, MadeFolder, PutNew, PutOver, Moved, Removed, Inventory, live_at}
use Rattle.gd_item.specs.Nodes.{below, path_of}
use Rattle.gd_item.specs.Records.{digest_record}
use Rattle.gd_item.specs.Refused.{refusal}
use Rattle.gd_item.specs.Sessions.{State, held}
use Rattle.gd_item.specs.Steps.{effects_of, held_by, state_of}
use Rattle.gd_item.specs.Trees.{nodes_of}
use Rattle.gd_item.specs.declared.live.LiveItem.{LiveItem}
use Rattle.gd_item.specs.declared.reply.PageLink.{PageLink}
use Rattle.gd_item.specs.declared.reply.PageLink.TheVariants as link
use Rattle.gd_item.specs.declared.reply.Reply.{Reply}
use Rattle.gd_item.specs.declared.reply.Reply.TheVariants as reply
use Rattle.gd_item.specs.declared.request.Address.{Address}
use Rattle.gd_item.specs.declared.request.Address.TheVariants.{Id, ByPath, Child}
use Rattle.gd_item.specs.declared.request.Request.{Request}
use Rattle.gd_item.specs.declared.request.Request.TheVariants.{Put, OpenSession, Delta}
use Rattle.gd_item.specs.declared.step.Step.{Step}
use Rattle.gd_item.specs.declared.step.Step.TheVariants as step
use Rattle.gd_item.specs.declared.step.Who.TheVariants.{Own, Other}
use Rattle.od_keeper.specs.Keeping.{last_image}
use Rattle.od_keeper.specs.declared.image.Agreed.{Agreed}
use Rattle.od_keeper.specs.declared.image.Agreed.TheVariants.{Nothing, Folder, File}
use Rattle.od_keeper.specs.declared.image.Image.{Image}
use Rattle.od_tree.specs.Local.{Local, after_op, bytes_in, file_at, greatest_number, held_at, is_path, local_of, moved_path, spot_at}
use Rattle.od_tree.specs.Loss.{reading_at}
use Rattle.od_tree.specs.declared.local.HeldFile.{HeldFile}
use Rattle.od_tree.specs.declared.local.Spot.{Spot}
use Rattle.od_tree.specs.declared.step.LocalStep.{LocalStep}
use Rattle.od_tree.specs.declared.step.LocalStep.TheVariants.{User, Op}
use Rattle.od_tree.specs.declared.step.TreeOp.{TreeOp}
use Rattle.od_tree.specs.declared.step.TreeOp.TheVariants as op
use Rattle.od_run.specs.Worlds.{World, Event, Asked, Worked, Kept, happens}

abbrev pub Path : Type 0
Path = List (List ℕ)

-- of the feed: whether the client has asked for changes, the token with which it asks next, and the drive's log where it
-- asked last, if the answer ended the pull
pub record Feed : Type 0 where
  pub begun : Bool
  pub token : Option (List ℕ)
  pub pulled : Option (List Step)

-- an upload session of this client, and the reading that it sends
pub record Sending : Type 0 where
  pub session : ℕ
  pub bytes : List ℕ

-- of the drive since the client asked for changes last: the folders that it made, at their paths, what its requests brought
-- about at paths, where it put files, and its upload sessions
pub record There : Type 0 where
  pub made : List (ℕ × Path)
  pub brought : List (Path × Agreed)
  pub put : List Address
  pub sending : List Sending

-- of the folder: its log where the client listed the root last, if it only looked since; and since then what stood at
-- paths where it looked or made something, what it read, the last reading first, and what it renamed, in order. Of the
-- held files those that it knows of, with their former paths, and the bytes of those that it read
pub record Here : Type 0 where
  pub scanned : Option (List LocalStep)
  pub stood : List (Path × Agreed)
  pub read : List (Path × List ℕ)
  pub renamed : List (Path × Path)
  pub held : List (ℕ × Path)
  pub held_read : List (ℕ × List ℕ)

-- with the image that was committed last
pub record Known : Type 0 where
  pub image : Image
  pub feed : Feed
  pub there : There
  pub here : Here

-- what is known where a call begins
abbrev pub nothing_there : There
nothing_there = record { made = []; brought = []; put = []; sending = [] }

abbrev pub known_of : Image → Known
known_of image = record {
  image = image;
  feed = record { begun = false; token = image.token; pulled = None };
  there = nothing_there;
  here = record { scanned = None; stood = []; read = []; renamed = []; held = []; held_read = [] };
}

abbrev pub begins : World → Known
begins w = known_of (last_image w.images)

-- ---- changes
-- the token with which the client asks after a link, and after a reply
abbrev pub link_token : PageLink → List ℕ
link_token (link.Next text) = text
link_token (link.Delta text) = text

abbrev pub token_after : Option (List ℕ) → Reply → Option (List ℕ)
token_after token (reply.Page page) = Some (link_token page.link)
token_after token (reply.Gone resync) = None
token_after token other = token

-- what is pulled where a reply ends the pull: the drive as it is then
abbrev pub pulled_to : List Step → PageLink → Option (List Step)
pulled_to drive (link.Next text) = None
pulled_to drive (link.Delta text) = Some drive

abbrev pub pulled_by : List Step → Reply → Option (List Step)
pulled_by drive (reply.Page page) = pulled_to drive page.link
pulled_by drive other = None

abbrev pub feed_told : List Step → Feed → Reply → Feed
feed_told drive feed reply = record { begun = true; token = token_after feed.token reply; pulled = pulled_by drive reply }

-- the client no longer relies on what it pulled once it asks for changes
abbrev pub feed_asked : Feed → Feed
feed_asked feed = record { begun = true; token = feed.token; pulled = None }

abbrev pub feed_heard : List Step → ℕ → Feed → Request → Bool → Bool → Feed
feed_heard drive size feed request true true = feed_told drive feed (answer_of drive size request)
feed_heard drive size feed request true false = feed_asked feed
feed_heard drive size feed request false is_heard = feed_asked feed

abbrev pub feed_after : List Step → ℕ → Feed → Request → Bool → Bool → Feed
feed_after drive size feed (Delta token) served is_heard = feed_heard drive size feed (Delta token) served is_heard
feed_after drive size feed request served is_heard = feed

-- ---- paths on the drive
-- the path of an item as the client takes it: that at which it made the item, or else the one that the item had where it
-- was pulled
abbrev pub pulled_path : Option (List Step) → ℕ → Option Path
pulled_path None number = None
pulled_path (Some drive) number = path_of (nodes_of (held_by drive)) number

abbrev pub path_in : List (ℕ × Path) → Option (List Step) → ℕ → Option Path
path_in [] pulled number = pulled_path pulled number
path_in (item ∷ made) pulled number = cond (nat_eq item.0 number) (Some item.1) (path_in made pulled number)

abbrev pub known_path : Known → ℕ → Option Path
known_path k number = path_in k.there.made k.feed.pulled number

abbrev pub child_path : Known → ℕ → List ℕ → Option Path
child_path k parent name = below (known_path k parent) name

-- the path to which a file is sent; the client names no item by its path
abbrev pub address_path : Known → Address → Option Path
address_path k (Id id) = known_path k id.0
address_path k (Child id name) = child_path k id.0 name
address_path k (ByPath path) = None

-- what was read last at a path
abbrev pub last_read : List (Path × List ℕ) → Path → Option (List ℕ)
last_read [] path = None
last_read (reading ∷ readings) path = cond (is_path reading.0 path) (Some reading.1) (last_read readings path)

abbrev pub reading_at_path : List (Path × List ℕ) → Option Path → Option (List ℕ)
reading_at_path readings None = None
reading_at_path readings (Some path) = last_read readings path

abbrev pub reading_for : Known → Address → Option (List ℕ)
reading_for k at = reading_at_path k.here.read (address_path k at)

-- ---- what requests bring about
abbrev pub agreed_bytes : Option (List ℕ) → Agreed
agreed_bytes None = Folder
agreed_bytes (Some bytes) = File (digest_record bytes)

abbrev pub agreed_item : Option LiveItem → Agreed
agreed_item None = Nothing
agreed_item (Some item) = agreed_bytes item.bytes

abbrev pub at_known_path : Option Path → Agreed → List (Path × Agreed)
at_known_path None what = []
at_known_path (Some path) what = (path, what) ∷ []

abbrev pub brought_by : Known → Inventory → Effect → List (Path × Agreed)
brought_by k held (MadeFolder parent name) = at_known_path (child_path k parent name) Folder
brought_by k held (PutNew parent name bytes) = at_known_path (child_path k parent name) (File (digest_record bytes))
brought_by k held (PutOver number bytes) = at_known_path (known_path k number) (File (digest_record bytes))
brought_by k held (Moved number parent name) = at_known_path (child_path k parent name) (agreed_item (live_at number held.items))
brought_by k held (Removed number) = []

abbrev pub made_at : ℕ → Option Path → List (ℕ × Path)
made_at number None = []
made_at number (Some path) = (number, path) ∷ []

abbrev pub made_by : Known → Inventory → Effect → List (ℕ × Path)
made_by k held (MadeFolder parent name) = made_at held.next (child_path k parent name)
made_by k held effect = []

-- a request has one effect at most, unless it removes
abbrev pub after_effects : Known → Inventory → List Effect → There → There
after_effects k held [] there = there
after_effects k held (effect ∷ effects) there =
    record there { made = made_by k held effect ++ there.made; brought = brought_by k held effect ++ there.brought }

-- a session is opened for what was read last at the path to which it sends
abbrev pub sending_of : ℕ → Option (List ℕ) → List Sending
sending_of session None = []
sending_of session (Some bytes) = record { session = session; bytes = bytes } ∷ []

-- what a session of this client sends
abbrev pub sent_as : List Sending → ℕ → Option (List ℕ)
sent_as [] session = None
sent_as (sending ∷ rest) session = cond (nat_eq sending.session session) (Some sending.bytes) (sent_as rest session)

abbrev pub there_brought : State → Known → Request → There → There
there_brought state k (OpenSession at name behaviour condition defer) there =
    record there { sending = sending_of (length state.openers + 1) (reading_for k at) ++ there.sending }
there_brought state k request there = after_effects k (held state) (effects_of state request) there

-- a file is put where a request says so, whatever comes of it
abbrev pub there_asked : Request → There → There
there_asked (Put at bytes behaviour condition) there = record there { put = at ∷ there.put }
there_asked (OpenSession at name behaviour condition defer) there = record there { put = at ∷ there.put }
there_asked request there = there

abbrev pub there_heard : State → Known → Request → Bool → Bool → There → There
there_heard state k request true true there = cond (is_none (refusal state request)) (there_brought state k request there) there
there_heard state k request true false there = there
there_heard state k request false is_heard there = there

abbrev pub there_after : List Step → Known → Request → Bool → Bool → There
there_after drive k (Delta token) served is_heard = nothing_there
there_after drive k request served is_heard = there_heard (state_of drive) k request served is_heard (there_asked request k.there)

-- ---- the folder
-- what stands at a path of a folder
abbrev pub stands : Path → Option Spot → List (Path × Agreed)
stands path None = []
stands path (Some spot) = (path, agreed_bytes (bytes_in spot.file)) ∷ []

abbrev pub seen_at : Path → Local → Here → Here
seen_at path local here = record here { stood = stands path (spot_at path local.spots) ++ here.stood }

abbrev pub changed : Here → Here
changed here = record here { scanned = None }

abbrev pub without_number : {X : Type 0} → ℕ → List (ℕ × X) → List (ℕ × X)
without_number number entries = filter (λ entry. not (nat_eq entry.0 number)) entries

abbrev pub forgotten : ℕ → Here → Here
forgotten aside here = record here { held = without_number aside here.held; held_read = without_number aside here.held_read }

abbrev pub bytes_of_held : ℕ → Option HeldFile → List (ℕ × List ℕ)
bytes_of_held aside None = []
bytes_of_held aside (Some file) = (aside, file.file.bytes) ∷ []

abbrev pub after_listed : List LocalStep → Here → Path → Here
after_listed log here [] = record here { scanned = Some log; stood = []; read = []; renamed = [] }
after_listed log here (name ∷ path) = seen_at (name ∷ path) (local_of log) here

-- what is known after an operation, of the folder's log before it, and of the folder then and after it
abbrev pub here_after : List LocalStep → Local → Local → Here → TreeOp → Here
here_after log local after here (op.List at) = after_listed log here at
here_after log local after here (op.Read at) = record (seen_at at local here) { read = reading_at at (file_at at local.spots) ++ here.read }
here_after log local after here (op.MakeDir at) = changed (seen_at at after here)
here_after log local after here (op.RemoveDir at) = changed here
here_after log local after here (op.Place at bytes) = changed (seen_at at after here)
here_after log local after here (op.Rename from to) = changed (record here { renamed = here.renamed ++ (from, to) ∷ [] })
here_after log local after here (op.SetAside at) = changed (record here { held = (greatest_number local.held + 1, at) ∷ here.held })
here_after log local after here (op.ReadAside aside) = record here { held_read = bytes_of_held aside (held_at aside local.held) ++ here.held_read }
here_after log local after here (op.PutBack aside to) = changed (seen_at to after (forgotten aside here))
here_after log local after here (op.Discard aside) = forgotten aside here
here_after log local after here op.Asides = record here { held = map (λ (file : HeldFile). (file.number, file.from)) local.held }

-- the path of what stood at a path, after renames
abbrev pub renamed_path : List (Path × Path) → Path → Path
renamed_path [] path = path
renamed_path (rename ∷ renames) path = renamed_path renames (moved_path rename.0 rename.1 path)

-- ---- the fold
-- before the client asks for changes, its token is that of the image
abbrev pub feed_kept : Image → Feed → Feed
feed_kept image feed = record feed { token = cond feed.begun feed.token image.token }

-- how the client learns of an event
abbrev pub learn : World → Known → Event → Known
learn w k (Asked size (step.Ask Own request served is_heard)) =
    record k { feed = feed_after w.drive size k.feed request served is_heard; there = there_after w.drive k request served is_heard }
learn w k (Asked size (step.Ask Other request served is_heard)) = k
learn w k (Asked size (step.Event event)) = k
learn w k (Worked (User edit)) = k
learn w k (Worked (Op call)) = record k { here = here_after w.local (local_of w.local) (after_op (local_of w.local) call) k.here call }
learn w k (Kept image) = record k { image = image; feed = feed_kept image k.feed }

-- and of a history
abbrev pub learned : World → Known → List Event → Known
learned w k [] = k
learned w k (event ∷ events) = learned (happens w event) (learn w k event) events
