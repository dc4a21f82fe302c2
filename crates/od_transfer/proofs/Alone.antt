-- Where this client alone asks the drive: requests that only read leave it as it is, and a file that is there is fetched.
use Rattle.std.proofs.Common.{◌≡◌, ℕ, ◌+◌, ◌<◌, ◌⊎◌, inl, inr, Bool, true, false, ◌||◌, not, cond, nat_eq, List, [], ◌∷◌, ◌++◌, map, is_some, is_none, Option, Some, None, refl, sym, ap, ◌∙◌, subst, arith}
use Rattle.std.specs.List.{AllByRecursion}
use Rattle.std.specs.Option.{option_map}
use Rattle.std.specs.Cmp.Lexicographic.{other_text}
use Rattle.std.proofs.lemmas.Bool.{eq-eqb, ne_eqb}
use Rattle.std.proofs.lemmas.List.{append-nil}
use Rattle.gd_names.specs.Causes.{first_cause}
use Rattle.gd_names.proofs.Each.{each, each-first, each-second}
use Rattle.gd_item.specs.Answers.{answer, answer_unless, about, found_reply, shown}
use Rattle.gd_item.specs.Ids.{item_id}
use Rattle.gd_item.specs.Inventory.{Effect, Inventory, live_at}
use Rattle.gd_item.specs.Nodes.{live_node, node_at, is_some_folder}
use Rattle.gd_item.specs.Records.{digest_record}
use Rattle.gd_item.specs.Refusals.{missing, file_refusal}
use Rattle.gd_item.specs.Refused.{by_store}
use Rattle.gd_item.specs.Sessions.{State, new_state, held}
use Rattle.gd_item.specs.Sound.{IsWithin}
use Rattle.gd_item.specs.Steps.{after_request, is_accepted, after_step, after_steps, state_of, held_by}
use Rattle.gd_item.specs.Trees.{nodes_of}
use Rattle.gd_item.specs.Versions.{replaced_bytes, file_version, item_version, version_at}
use Rattle.gd_item.specs.Written.{IsWritten}
use Rattle.gd_item.specs.declared.fault.ErrorCode.{ErrorCode}
use Rattle.gd_item.specs.declared.fault.StoreFault.TheVariants.{NotFound, NotFile}
use Rattle.gd_item.specs.declared.id.ItemId.{ItemId}
use Rattle.gd_item.specs.declared.live.LiveItem.{LiveItem}
use Rattle.gd_item.specs.declared.reply.Reply.{Reply}
use Rattle.gd_item.specs.declared.reply.Reply.TheVariants as reply
use Rattle.gd_item.specs.declared.request.Address.TheVariants.{Id}
use Rattle.gd_item.specs.declared.request.Request.{Request}
use Rattle.gd_item.specs.declared.request.Request.TheVariants.{Get, Children, Content, Download, SessionStatus, Delta}
use Rattle.gd_item.specs.declared.step.Step.{Step}
use Rattle.gd_item.specs.declared.step.Step.TheVariants.{Ask, Event}
use Rattle.gd_item.specs.declared.step.Who.TheVariants.{Own, Other}
use Rattle.gd_item.proofs.LogsGrow.{after_steps-append}
use Rattle.gd_laws.proofs.Living.{of-living}
use Rattle.gd_laws.proofs.Logs.{sound-log}
use Rattle.od_transfer.specs.Alone.{AreOwnServed, HasFile, is_own_served}
use Rattle.od_transfer.specs.Asking.{IsSuch, OwnAre, given}
use Rattle.od_transfer.specs.Explained.{WasHeard, Brought, DeniedThen, IsFetchExplained}
use Rattle.od_transfer.specs.Fits.{IsTransfer, is_lost}
use Rattle.od_transfer.specs.declared.job.Outcome.{Outcome}
use Rattle.od_transfer.specs.declared.job.Outcome.TheVariants.{Fetched, Changed, Refused, Lost}
use Rattle.od_transfer.proofs.Logs.{such-also}

-- ---- requests that only read
abbrev pub is_reading : Request → Bool
is_reading (Get at) = true
is_reading (Children at after) = true
is_reading (Content at) = true
is_reading (Download id version) = true
is_reading (SessionStatus session) = true
is_reading (Delta token) = true
is_reading request = false

abbrev pub IsReading : Request → Bool → Bool → Type 0
IsReading request served heard = is_reading request ≡ true

same-state : (state : State) → record state { effects = state.effects ++ [] } ≡ state
same-state state = ap (λ (effects : List Effect). record state { effects = effects }) (append-nil state.effects)

reading-keeps : (state : State) (request : Request) → is_reading request ≡ true → after_request state Own request ≡ state
reading-keeps state (Get at) reads = same-state state
reading-keeps state (Children at earlier) reads = same-state state
reading-keeps state (Content at) reads = same-state state
reading-keeps state (Download id version) reads = same-state state
reading-keeps state (SessionStatus session) reads = same-state state
reading-keeps state (Delta token) reads = same-state state
reading-keeps state request reads = absurd (cc reads)

either-way : (b : Bool) (x y : State) → x ≡ y → cond b x y ≡ y
either-way true x y same = same
either-way false x y same = refl

request-keeps : (state : State) (request : Request) (served heard : Bool) → is_reading request ≡ true → after_step state (Ask Own request served heard) ≡ state
request-keeps state request served heard reads =
    either-way (is_accepted state request served) (after_request state Own request) state (reading-keeps state request reads)

step-keeps : (state : State) (step : Step) → is_own_served step ≡ true → IsSuch IsReading step → after_step state step ≡ state
step-keeps state (Ask Own request served heard) own reads = request-keeps state request served heard reads
step-keeps state (Ask Other request served heard) own reads = absurd (cc own)
step-keeps state (Event event) own reads = absurd (cc own)

steps-keep : (state : State) (steps : List Step) → AreOwnServed steps → OwnAre IsReading steps → after_steps state steps ≡ state
steps-keep state [] own reads = refl
steps-keep state (step ∷ steps) own reads =
    ap (λ s. after_steps s steps) (step-keeps state step own.0 reads.0) ∙ steps-keep state steps own.1 reads.1

pub reading_keeps : (old part : List Step) → AreOwnServed part → OwnAre IsReading part → state_of (old ++ part) ≡ state_of old
reading_keeps old part own reads = after_steps-append new_state old part ∙ steps-keep (state_of old) part own reads

transfer-reads : (request : Request) (served heard : Bool) → IsTransfer request served heard → IsReading request served heard
transfer-reads (Content at) served heard such = refl
transfer-reads (Download id version) served heard such = refl
transfer-reads request served heard such = absurd (cc such)

pub transfers_keep : (old part : List Step) → AreOwnServed part → OwnAre IsTransfer part → state_of (old ++ part) ≡ state_of old
transfers_keep old part own such = reading_keeps old part own (such-also IsTransfer IsReading transfer-reads part such)

pub delta_keeps : (old : List Step) (token : Option (List ℕ)) (served heard : Bool) → state_of (old ++ Ask Own (Delta token) served heard ∷ []) ≡ state_of old
delta_keeps old token served heard =
    after_steps-append new_state old (Ask Own (Delta token) served heard ∷ []) ∙ request-keeps (state_of old) (Delta token) served heard refl

-- ---- an item that is there has its number, which is above that of the root
pub record IsFound (number : ℕ) (item : LiveItem) : Type 0 where
  pub same : item.number ≡ number
  pub above : 1 < number

pub found-item : (log : List Step) (number : ℕ) (item : LiveItem) → live_at number (held_by log).items ≡ Some item → IsFound number item
found-item log number item there =
    let held : Inventory = held_by log in
    let is = of-living (IsWithin held) number held.items item (each (IsWithin held) held.items (sound-log log).within) there in
    record { same = is.1; above = subst (λ n. 1 < n) is.1 is.0.above }

node_at-live : (number : ℕ) (items : List LiveItem) → node_at number (map live_node items) ≡ option_map live_node (live_at number items)
node_at-live number [] = refl
node_at-live number (item ∷ items) =
    elim (nat_eq item.number number) as (λ b. cond b (Some (live_node item)) (node_at number (map live_node items)) ≡ option_map live_node (cond b (Some item) (live_at number items)))
    [ true ↦ refl | false ↦ node_at-live number items ]

-- ---- what a drive answers that has the file
no-cause : (one there folder : Bool) → one ≡ false → there ≡ true → folder ≡ false → first_cause ((not (one || there), NotFound) ∷ (one || folder, NotFile) ∷ []) ≡ None
no-cause true there folder one_is there_is folder_is = absurd (cc one_is)
no-cause false false folder one_is there_is folder_is = absurd (cc there_is)
no-cause false true true one_is there_is folder_is = absurd (cc folder_is)
no-cause false true false one_is there_is folder_is = refl

is-file : (held : Inventory) (number : ℕ) (item : LiveItem) (bytes : List ℕ) → 1 < number → live_at number held.items ≡ Some item → item.bytes ≡ Some bytes → file_refusal held number ≡ None
is-file held number item bytes above there bytes_are =
    let node : node_at number (nodes_of held) ≡ Some (live_node item) = node_at-live number held.items ∙ ap (λ found. option_map live_node found) there in
    no-cause (nat_eq number 1) (is_some (node_at number (nodes_of held))) (is_some_folder (node_at number (nodes_of held)))
    (ne_eqb number 1 (λ e. omega arith)) (ap (λ found. is_some found) node)
    (ap (λ found. is_some_folder found) node ∙ ap (λ (b : Option (List ℕ)). is_none b) bytes_are)

-- a plain drive and another one say the same of where bytes are, and give the same ones
shown-found : (plain : Bool) (id : ItemId) (version : ℕ) → shown plain (reply.Found id version) ≡ reply.Found id version
shown-found true id version = refl
shown-found false id version = refl

shown-content : (plain : Bool) (bytes : List ℕ) → shown plain (reply.Content bytes) ≡ reply.Content bytes
shown-content true bytes = refl
shown-content false bytes = refl

content-answer : (state : State) (size number : ℕ) (item : LiveItem) (bytes : List ℕ) → 1 < number → item.number ≡ number → live_at number (held state).items ≡ Some item → item.bytes ≡ Some bytes
    → answer state size (Content (Id (item_id number))) ≡ reply.Found (item_id number) item.content
content-answer state size number item bytes above same there bytes_are =
    ap (λ fault. shown state.plain (answer_unless (by_store fault) state size (Content (Id (item_id number))))) (is-file (held state) number item bytes above there bytes_are)
    ∙ ap (λ found. shown state.plain (about found_reply found)) there ∙ shown-found state.plain (item_id item.number) item.content ∙ ap (λ n. reply.Found (item_id n) item.content) same

version-there : (held : Inventory) (number : ℕ) (item : LiveItem) (bytes : List ℕ) → live_at number held.items ≡ Some item → item.bytes ≡ Some bytes → version_at number item.content held ≡ Some bytes
version-there held number item bytes there bytes_are =
    ap (λ found. item_version item.content held.replaced found) there ∙ ap (λ b. file_version item.content held.replaced item b) bytes_are
    ∙ ap (λ b. cond b (Some bytes) (replaced_bytes item.number item.content held.replaced)) (eq-eqb item.content item.content refl)

download-answer : (state : State) (size number : ℕ) (item : LiveItem) (bytes : List ℕ) → live_at number (held state).items ≡ Some item → item.bytes ≡ Some bytes
    → answer state size (Download (item_id number) item.content) ≡ reply.Content bytes
download-answer state size number item bytes there bytes_are =
    let version : version_at number item.content (held state) ≡ Some bytes = version-there (held state) number item bytes there bytes_are in
    ap (λ found. shown state.plain (answer_unless (by_store (missing found)) state size (Download (item_id number) item.content))) version ∙ ap (λ found. shown state.plain (about reply.Content found)) version
    ∙ shown-content state.plain bytes

-- ---- what was heard there
heard-there : (old part : List Step) (request : Request) (r : Reply) → IsWritten request → AreOwnServed part → OwnAre IsTransfer part → (h : WasHeard request old part r)
    → r ≡ answer (state_of old) h.answers.size request
heard-there old part request r written own such h =
    let Served : Step → Type 0 = λ step. is_own_served step ≡ true in
    let last : List Step = Ask Own h.sent h.served true ∷ h.rest in
    let all : AreOwnServed (h.before ++ last) = subst AreOwnServed h.split own in
    let are : OwnAre IsTransfer (h.before ++ last) = subst (OwnAre IsTransfer) h.split such in
    let served : h.served ≡ true = (each-second Served h.before last all).0 in
    let same : state_of (old ++ h.before) ≡ state_of old = transfers_keep old h.before (each-first Served h.before last all) (each-first (IsSuch IsTransfer) h.before last are) in
    h.answers.reply_is
    ∙ ap (λ (sent : Request). given h.served (old ++ h.before) h.answers.size sent) (h.answers.sent_as written)
    ∙ ap (λ b. given b (old ++ h.before) h.answers.size request) served
    ∙ ap (λ state. answer state h.answers.size request) same

-- ---- the outcomes of a fetch there
record IsThere (old : List Step) (number : ℕ) (bytes : List ℕ) : Type 0 where
  content : ℕ
  above : 0 < number
  found : (size : ℕ) → answer (state_of old) size (Content (Id (item_id number))) ≡ reply.Found (item_id number) content
  gives : (size : ℕ) → answer (state_of old) size (Download (item_id number) content) ≡ reply.Content bytes

there-of : (old : List Step) (number : ℕ) (bytes : List ℕ) → HasFile (held_by old) number bytes → IsThere old number bytes
there-of old number bytes file =
    let is : IsFound number file.item = found-item old number file.item file.there in
    record {
      content = file.item.content;
      above = omega (arith, is.above);
      found = λ size. content-answer (state_of old) size number file.item bytes is.above is.same file.there file.bytes_are;
      gives = λ size. download-answer (state_of old) size number file.item bytes file.there file.bytes_are;
    }

record IsFoundThere (number content : ℕ) (found : ItemId) (version : ℕ) : Type 0 where
  id : found ≡ item_id number
  same : version ≡ content

module _ (old part : List Step) (number : ℕ) (bytes : List ℕ) (own : AreOwnServed part) (such : OwnAre IsTransfer part) (there : IsThere old number bytes) where
  found-there : (found : ItemId) (version : ℕ) → WasHeard (Content (Id (item_id number))) old part (reply.Found found version) → IsFoundThere number there.content found version
  found-there found version h =
      let is : reply.Found found version ≡ reply.Found (item_id number) there.content =
      heard-there old part (Content (Id (item_id number))) (reply.Found found version) there.above own such h ∙ there.found h.answers.size in
      record { id = cc is; same = cc is }

  given-there : (found : ItemId) (version : ℕ) (r : Reply) → IsFoundThere number there.content found version → WasHeard (Download found version) old part r → r ≡ reply.Content bytes
  given-there found version r is h =
      let written : IsWritten (Download found version) = subst (λ (id : ItemId). 0 < id.0) (sym is.id) there.above in
      heard-there old part (Download found version) r written own such h ∙ ap (λ (id : ItemId). answer (state_of old) h.answers.size (Download id version)) is.id
      ∙ ap (λ v. answer (state_of old) h.answers.size (Download (item_id number) v)) is.same ∙ there.gives h.answers.size

  brought-there : (brought : List ℕ) → Brought (item_id number) old part brought → brought ≡ bytes
  brought-there brought b =
      let found = found-there b.found b.version b.said in
      let is : reply.Content brought ≡ reply.Content bytes = given-there b.found b.version (reply.Content brought) found b.gave in
      cc is

  refused-there : (status : ℕ) (code : ErrorCode) → WasHeard (Content (Id (item_id number))) old part (reply.Refused status code) ⊎ DeniedThen (item_id number) old part status code → ⊥
  refused-there status code (inl h) =
      let is : reply.Refused status code ≡ reply.Found (item_id number) there.content =
      heard-there old part (Content (Id (item_id number))) (reply.Refused status code) there.above own such h ∙ there.found h.answers.size in
      cc is
  refused-there status code (inr d) =
      let found = found-there d.found d.version d.said in
      let is : reply.Refused status code ≡ reply.Content bytes = given-there d.found d.version (reply.Refused status code) found d.refused in
      cc is

pub fetched_there : (old part : List Step) (number : ℕ) (bytes : List ℕ) (outcome : Outcome) → AreOwnServed part → OwnAre IsTransfer part
    → HasFile (held_by old) number bytes → IsFetchExplained old part (item_id number) (digest_record bytes) outcome → is_lost outcome ≡ false → outcome ≡ Fetched bytes
fetched_there old part number bytes (Fetched brought) own such file explained lost =
    ap (λ b. Fetched b) (brought-there old part number bytes own such (there-of old number bytes file) brought explained)
fetched_there old part number bytes Changed own such file explained lost =
    let same = brought-there old part number bytes own such (there-of old number bytes file) explained.bytes explained.brought in
    absurd (other_text (digest_record explained.bytes).0 (digest_record bytes).0 (sym explained.others) (ap (λ b. (digest_record b).0) same))
fetched_there old part number bytes (Refused code) own such file explained lost =
    absurd (refused-there old part number bytes own such (there-of old number bytes file) explained.status code explained.denied)
fetched_there old part number bytes Lost own such file explained lost = absurd (cc lost)
