-- What a line of a script prints that is played on a drive: the refusals of other clients' calls, at each pull that ends the
-- drive's change number and the paths of its items with sizes and digests, and at `drive` the same with contents.
use Rattle.std.specs.Prelude.{ℕ, true, ◌&&◌, cond, List, [], ◌∷◌, ◌++◌, length, replicate, codes, nat_le, Option, Some, None}
use Rattle.std.specs.List.{flat_map, list_all}
use Rattle.std.specs.Option.{option_map}
use Rattle.std.specs.Fmt.{decimal}
use Rattle.hex.specs.Hex.{encode_lower}
use Rattle.sha2.specs.Sha256.{sha256}
use Rattle.gd_names.specs.Paths.{path_text}
use Rattle.gd_names.specs.declared.conflict.Conflict.TheVariants.{Fail, Replace}
use Rattle.gd_item.specs.Answers.{answer}
use Rattle.gd_item.specs.Faults.{code_text}
use Rattle.gd_item.specs.Ids.{item_id}
use Rattle.gd_item.specs.Inventory.{Inventory}
use Rattle.gd_item.specs.Places.{names_above, last_name, folder_above}
use Rattle.gd_item.specs.Sessions.{State, held}
use Rattle.gd_item.specs.Steps.{state_of}
use Rattle.gd_item.specs.Trees.{tree_of}
use Rattle.gd_item.specs.declared.condition.Condition.TheVariants.{Free}
use Rattle.gd_item.specs.declared.fault.ErrorCode.{ErrorCode}
use Rattle.gd_item.specs.declared.fault.ErrorCode.TheVariants.{ItemNotFound}
use Rattle.gd_item.specs.declared.reply.Reply.{Reply}
use Rattle.gd_item.specs.declared.reply.Reply.TheVariants as reply
use Rattle.gd_item.specs.declared.request.Address.TheVariants.{ByPath}
use Rattle.gd_item.specs.declared.request.Request.{Request}
use Rattle.gd_item.specs.declared.request.Request.TheVariants.{MakeFolder, Put, Patch, Delete}
use Rattle.gd_item.specs.declared.step.Step.{Step}
use Rattle.gd_item.specs.declared.step.DriveEvent.TheVariants as event
use Rattle.gd_item.specs.declared.step.Step.TheVariants.{Ask, Event}
use Rattle.gd_item.specs.declared.step.Who.TheVariants.{Other}
use Rattle.od_cli.specs.Script.{is_plain}
use Rattle.od_cli.specs.Pulling.{asks_from, ends_from, most_replies, others_steps}
use Rattle.od_cli.specs.declared.line.Content.{Content}
use Rattle.od_cli.specs.declared.line.Content.TheVariants.{Text, Fill}
use Rattle.od_cli.specs.declared.line.Line.{Line}
use Rattle.od_cli.specs.declared.line.Line.TheVariants.{OtherPut, OtherMakeFolder, OtherMove, OtherRemove, Expire, Restore, EndSession, Page, Pull, Drive, Sync, Local, Requests}

-- the bytes of a content
abbrev pub content_bytes : Content → List ℕ
content_bytes (Text bytes) = bytes
content_bytes (Fill count byte) = replicate count byte

-- what another client asks for, if anything; the folder above the new path of a move may be missing
abbrev pub request_of : Inventory → Line → Option Request
request_of held (OtherPut path content) = Some (Put (ByPath path) (content_bytes content) Replace Free)
request_of held (OtherMakeFolder path) = Some (MakeFolder (ByPath (names_above path)) (last_name path) Fail)
request_of held (OtherMove from to) =
    option_map (λ parent. Patch (ByPath from) (Some (last_name to)) (Some (item_id parent)) Free) (folder_above held to)
request_of held (OtherRemove path) = Some (Delete (ByPath path) Free)
request_of held line = None

-- the line of a refusal: `other`, the status and the code
abbrev pub refusal_line : ℕ → ErrorCode → List ℕ
refusal_line status code = codes "other " ++ decimal status ++ codes " " ++ code_text code ++ codes "\n"

-- what another client's request prints: its refusal, if it is refused
abbrev pub reply_text : Reply → List ℕ
reply_text (reply.Refused status code) = refusal_line status code
reply_text reply = []

abbrev pub request_text : State → ℕ → Option Request → List ℕ
request_text state size None = refusal_line 404 ItemNotFound
request_text state size (Some request) = reply_text (answer state size request)

-- the step that it is
abbrev pub request_steps : Option Request → List Step
request_steps None = []
request_steps (Some request) = Ask Other request true true ∷ []

-- what an entry of a tree prints: `PATH/` for a folder, and `PATH SIZE DIGEST` for a file
abbrev pub digest_text : List ℕ → List ℕ
digest_text bytes = encode_lower (sha256 bytes)

abbrev pub entry_line : List (List ℕ) × Option (List ℕ) → List ℕ
entry_line (path, None) = path_text path ++ codes "/\n"
entry_line (path, Some bytes) = path_text path ++ codes " " ++ decimal (length bytes) ++ codes " " ++ digest_text bytes ++ codes "\n"

-- what a pull prints that ends, and one that does not
abbrev pub pulled_text : Inventory → List ℕ
pulled_text held = codes "pull " ++ decimal held.number ++ codes "\n" ++ flat_map entry_line (tree_of held)

abbrev pub pull_text : State → ℕ → List ℕ
pull_text state size = cond (ends_from most_replies state size (Some None)) (pulled_text (held state)) (codes "pull Endless\n")

-- a content of at most 64 bytes that may be quoted is shown, and of another one the digest
abbrev pub content_text : List ℕ → List ℕ
content_text bytes = cond (nat_le (length bytes) 64 && list_all is_plain bytes) (codes "\"" ++ bytes ++ codes "\"") (digest_text bytes)

abbrev pub content_line : List (List ℕ) × Option (List ℕ) → List ℕ
content_line (path, None) = path_text path ++ codes "/\n"
content_line (path, Some bytes) = path_text path ++ codes " " ++ decimal (length bytes) ++ codes " " ++ content_text bytes ++ codes "\n"

-- what `drive` prints
abbrev pub drive_text : Inventory → List ℕ
drive_text held = codes "drive " ++ decimal held.number ++ codes "\n" ++ flat_map content_line (tree_of held)

-- what a line prints, and the steps that it adds, after the steps of a log of a drive with pages of some size; a sync and what
-- speaks of the folder or of requests are told elsewhere
abbrev pub line_text : List Step → ℕ → Line → List ℕ
line_text log size Sync = []
line_text log size Local = []
line_text log size Requests = []
line_text log size (Expire number) = []
line_text log size Restore = []
line_text log size (EndSession session) = []
line_text log size (Page new_size) = []
line_text log size Pull = pull_text (state_of log) size
line_text log size Drive = drive_text (held (state_of log))
line_text log size line = request_text (state_of log) size (request_of (held (state_of log)) line)

abbrev pub line_steps : List Step → ℕ → Line → List Step
line_steps log size (Expire number) = Event (event.Expire number) ∷ []
line_steps log size Restore = Event event.Restore ∷ []
line_steps log size (EndSession session) = Event (event.EndSession session) ∷ []
line_steps log size Pull = others_steps (asks_from most_replies (state_of log) size (Some None))
line_steps log size line = request_steps (request_of (held (state_of log)) line)
