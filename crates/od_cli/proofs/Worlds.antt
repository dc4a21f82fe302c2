-- What the world's drive replies to this client.
use Rattle.std.proofs.Common.{◌≡◌, ℕ, ◌+◌, ◌^◌, ◌≤◌, min, Bool, true, false, cond, ◌-◌, List, [], ◌∷◌, ◌++◌, Option, Some, None, Result, Ok, append-nil, inl, inr, refl, sym, ap, ◌∙◌, subst}
use Rattle.gd_item.specs.Answers.{answer, about, answer_unless, content_reply, delta_reply, found_reply, shown}
use Rattle.gd_item.specs.Inventory.{Effect, Inventory, live_at}
use Rattle.gd_item.specs.Pages.{Asked, Past, Latest, Bad, Lost, asked, is_bad, latest_page, page_past}
use Rattle.gd_item.specs.Faults.{code_of, status_of}
use Rattle.gd_item.specs.Replies.{has_status}
use Rattle.gd_item.specs.Refused.{Refusal, at_target, by_store, refuse, refusal}
use Rattle.gd_item.specs.Refusals.{file_refusal, missing}
use Rattle.gd_item.specs.Sessions.{State, held, new_state}
use Rattle.gd_item.specs.Steps.{after_event, after_request, after_step, is_accepted, state_of}
use Rattle.gd_item.specs.Targets.{target_of}
use Rattle.gd_item.specs.Versions.{version_at}
use Rattle.gd_item.specs.declared.fault.ErrorCode.TheVariants.{InvalidRequest}
use Rattle.gd_item.specs.declared.fault.StoreFault.{StoreFault}
use Rattle.gd_item.specs.declared.fault.StoreFault.TheVariants as fault
use Rattle.gd_item.specs.declared.id.ItemId.{ItemId}
use Rattle.gd_item.specs.declared.request.Address.{Address}
use Rattle.gd_item.specs.declared.live.LiveItem.{LiveItem}
use Rattle.gd_item.specs.declared.reply.Page.{Page}
use Rattle.gd_item.specs.declared.reply.PageLink.{PageLink}
use Rattle.gd_item.specs.declared.reply.PageLink.TheVariants as link
use Rattle.gd_item.specs.declared.reply.Reply.{Reply}
use Rattle.gd_item.specs.declared.reply.Reply.TheVariants as reply
use Rattle.gd_item.specs.declared.request.Request.{Request}
use Rattle.gd_item.specs.declared.request.Request.TheVariants.{Content, Download, OpenSession, Fragment, SessionStatus, CancelSession, Finish, Delta}
use Rattle.gd_item.specs.declared.step.Step.{Step}
use Rattle.gd_item.specs.declared.step.DriveEvent.{DriveEvent}
use Rattle.gd_item.specs.declared.step.DriveEvent.TheVariants as event
use Rattle.gd_item.specs.declared.step.Step.TheVariants.{Ask, Event}
use Rattle.gd_item.specs.declared.step.Who.{Who}
use Rattle.gd_item.specs.declared.step.Who.TheVariants.{Own}
use Rattle.gd_api.specs.Drives as api
use Rattle.gd_api.specs.Drives.{DriveValue, Has, Stands, Handles, is_refusal}
use Rattle.gd_store.specs.Stands.{StoreValue, Stands as StandsFor}
use Rattle.gd_delta.specs.Served.{answer_to, is_last, Serves}
use Rattle.gd_delta.specs.declared.pages.DeltaFault.{DeltaFault}
use Rattle.gd_item.proofs.LogsGrow.{after_steps-append}
use Rattle.od_transfer.specs.Asking.{IsPageSize, is_last_link, may_answer, may_answer_content, may_answer_download}
use Rattle.od_transfer.specs.Undisturbed.{is_servable}
use Rattle.od_cli.specs.Worlds.{WorldValue, IsDriveOf, IsOwnReply, heard, is_about_session, is_delta, is_plain_event, is_want_of_memory, unheard}

-- an answer of a drive that is not plain
unshown : (state : State) (size : ℕ) (request : Request) → state.plain ≡ false → answer state size request ≡ answer_unless (refusal state request) state size request
unshown state size request whole = ap (λ b. shown b (answer_unless (refusal state request) state size request)) whole

-- a step of a request leaves the drive as plain as it was, and one for changes leaves all as it was
pub state-push : (log : List Step) (step : Step) → state_of (log ++ step ∷ []) ≡ after_step (state_of log) step
state-push log step = after_steps-append new_state log (step ∷ [])

plain-kept : (state : State) (who : Who) (request : Request) (heard : Bool) → (after_step state (Ask who request true heard)).plain ≡ state.plain
plain-kept state who request heard =
    elim (is_accepted state request true) as (λ b. (cond b (after_request state who request) state).plain ≡ state.plain) [ true ↦ refl | false ↦ refl ]

pub delta-rests : (state : State) (who : Who) (token : Option (List ℕ)) (heard : Bool) → after_step state (Ask who (Delta token) true heard) ≡ state
delta-rests state who token heard =
    elim (is_accepted state (Delta token) true) as (λ b. cond b (after_request state who (Delta token)) state ≡ state)
    [ true ↦ ap (λ (effects : List Effect). record state { effects = effects }) (append-nil state.effects) | false ↦ refl ]

pub after-delta : (drive : DriveValue) (log now more : List Step) (who : Who) (token sent : Option (List ℕ)) (step : Step) → IsDriveOf drive log → now ≡ log → sent ≡ token → step ≡ Ask who (Delta sent) true true
    → more ≡ now ++ step ∷ [] → IsDriveOf drive more
after-delta drive log now more who token sent step is same copied made grown =
    let at : List Step = log ++ Ask who (Delta token) true true ∷ [] in
    let rests : state_of at ≡ state_of log = state-push log (Ask who (Delta token) true true) ∙ delta-rests (state_of log) who token true in
    let all : more ≡ at = grown ∙ ap (λ (l : List Step). l ++ step ∷ []) same ∙ ap (λ s. log ++ s ∷ []) (made ∙ ap (λ t. Ask who (Delta t) true true) copied) in
    subst (IsDriveOf drive) (sym all) (record { stands = subst (Has drive) (sym rests) is.stands; plain = ap (λ (state : State). state.plain) rests ∙ is.plain })

-- a page that is given is the drive's answer
page-reply : (state : State) (size : ℕ) (asks : Asked) (page : Page) → Ok page ≡ answer_to state size asks → (reply.Page page ≡ delta_reply state size asks) × (is_bad asks ≡ false)
page-reply state size (Past position start) page is = (ap reply.Page (let same : page ≡ page_past state position start size = cc is in same), refl)
page-reply state size Latest page is = (ap reply.Page (let same : page ≡ latest_page state = cc is in same), refl)
page-reply state size Bad page is = absurd (cc is)
page-reply state size (Lost resync) page is = absurd (cc is)

given-page : (answer : Result Page DeltaFault) (page : Page) → Serves answer (Ok page) → Ok page ≡ answer
given-page answer page (inl is) = is
given-page answer page (inr memory) = absurd (cc memory)

last-link : (l : PageLink) → is_last l ≡ true → is_last_link l ≡ true
last-link (link.Next token) last = absurd cc
last-link (link.Delta token) last = refl

pub own-page : (state : State) (token : Option (List ℕ)) (size : ℕ) (page : Page) → state.plain ≡ false → 1 ≤ size → Serves (answer_to state size (asked state token)) (Ok page) → is_last page.link ≡ true
    → IsOwnReply state (Delta token) (reply.Page page)
own-page state token size page whole some serves last =
    let found = page-reply state size (asked state token) page (given-page (answer_to state size (asked state token)) page serves) in
    record {
      size = size;
      fits = some;
      plain = whole;
      reply_is =
          found.0 ∙ sym (unshown state size (Delta token) whole ∙ ap (λ b. answer_unless (cond b (Some (refuse 400 InvalidRequest)) None) state size (Delta token)) found.1);
      kind = last-link page.link last;
    }

-- the page that is given for a token
pub delta-reply : (drive : DriveValue) (log : List Step) (lent : StoreValue) (token sent : Option (List ℕ)) (size : ℕ) (page : Page) → IsDriveOf drive log → lent ≡ drive.store → sent ≡ token → 1 ≤ size
    → ((state : State) → StandsFor lent state.effects state.epoch state.floor → Serves (answer_to state size (asked state sent)) (Ok page)) → is_last page.link ≡ true → IsOwnReply (state_of log) (Delta token) (reply.Page page)
delta-reply drive log lent token sent size page is same copied some serves last =
    let state : State = state_of log in
    let stands : StandsFor lent state.effects state.epoch state.floor = subst (λ s. StandsFor s state.effects state.epoch state.floor) (sym same) is.stands.store in
    let P : Option (List ℕ) → Type 0 = λ t. Serves (answer_to state size (asked state t)) (Ok page) in
    own-page state token size page is.plain some (subst P copied (serves state stands)) last

-- the kinds of the other replies
found-kind : (found : Option LiveItem) → may_answer_content (about found_reply found) ≡ true
found-kind None = refl
found-kind (Some item) = refl

content-kind : (held : Inventory) (target : Option ℕ) → may_answer_content (about (content_reply held) target) ≡ true
content-kind held None = refl
content-kind held (Some number) = found-kind (live_at number held.items)

bytes-kind : (bytes : Option (List ℕ)) → may_answer_download (about reply.Content bytes) ≡ true
bytes-kind None = refl
bytes-kind (Some bytes) = refl

-- a refusal of the store has the status of its code
abbrev HasStatus : Option Refusal → Type 0
HasStatus None = Unit {0}
HasStatus (Some cause) = has_status cause.code cause.status ≡ true

fault-status : (f : StoreFault) → has_status (code_of f) (status_of f) ≡ true
fault-status fault.NotFound = refl
fault-status fault.NotFolder = refl
fault-status fault.NotFile = refl
fault-status fault.Root = refl
fault-status fault.BadName = refl
fault-status fault.Modified = refl
fault-status fault.IntoItself = refl
fault-status fault.NameTaken = refl
fault-status fault.PathTooLong = refl
fault-status fault.Quota = refl
fault-status fault.Memory = refl

store-status : (cause : Option StoreFault) → HasStatus (by_store cause)
store-status None = tt
store-status (Some f) = fault-status f

content-unless : (state : State) (size : ℕ) (at : Address) (cause : Option Refusal) → HasStatus cause → may_answer_content (answer_unless cause state size (Content at)) ≡ true
content-unless state size at None has = content-kind (held state) (target_of (held state) at)
content-unless state size at (Some cause) has = has

download-unless : (state : State) (size : ℕ) (id : ItemId) (version : ℕ) (cause : Option Refusal) → HasStatus cause
    → may_answer_download (answer_unless cause state size (Download id version)) ≡ true
download-unless state size id version None has = bytes-kind (version_at id.0 version (held state))
download-unless state size id version (Some cause) has = has

other-kind : (state : State) (size : ℕ) (request : Request) (given : Reply) → state.plain ≡ false → is_delta request ≡ false → given ≡ answer state size request → may_answer request given ≡ true
other-kind state size (Delta token) given whole other is = absurd (cc other)
other-kind state size (Content at) given whole other is =
    ap may_answer_content (is ∙ unshown state size (Content at) whole)
    ∙ content-unless state size at (refusal state (Content at)) (store-status (at_target (file_refusal (held state)) (target_of (held state) at)))
other-kind state size (Download id version) given whole other is =
    ap may_answer_download (is ∙ unshown state size (Download id version) whole)
    ∙ download-unless state size id version (refusal state (Download id version)) (store-status (missing (version_at id.0 version (held state))))
other-kind state size request given whole other is = refl

other-reply : (state : State) (size : ℕ) (request : Request) (given : Reply) → state.plain ≡ false → IsPageSize request size → given ≡ answer state size request → may_answer request given ≡ true → IsOwnReply state request given
other-reply state size request given whole fits is kind = record { size = size; fits = fits; plain = whole; reply_is = is; kind = kind }

fits-size : (size : ℕ) (request : Request) → api.IsPageSize size → is_delta request ≡ false → IsPageSize request size
fits-size size (Delta token) fits other = absurd (cc other)
fits-size size request fits other = (fits.some, fits.few)

own-reply : (state : State) (size : ℕ) (request : Request) (given : Reply) → state.plain ≡ false → api.IsPageSize size → is_delta request ≡ false → given ≡ answer state size request → IsOwnReply state request given
own-reply state size request given whole fits other is = other-reply state size request given whole (fits-size size request fits other) is (other-kind state size request given whole other is)

-- what the drive's call says of a reply that is no want of memory
pub record IsServed (size : ℕ) (after : DriveValue) (log : List Step) (request : Request) (given : Reply) : Type 0 where
  pub reply_is : given ≡ answer (state_of log) size request
  pub stands : (who : Who) (heard : Bool) → Stands after (log ++ Ask who request true heard ∷ [])

served-by : (before after : DriveValue) (log : List Step) (request : Request) (given : Reply) → Handles before after log request given
    → is_want_of_memory given ≡ false → IsServed before.size after log request given
served-by before after log request given handled memory = elim handled.answered [
  | inl is ↦ record { reply_is = is.0; stands = is.1 }
  | inr is ↦ absurd (let wants : is_want_of_memory given ≡ true = ap is_want_of_memory is.0 in cc)
]

module _ (before after : DriveValue) (log : List Step) (request : Request) (given : Reply) (drive : IsDriveOf before log)
    (handled : (log : List Step) → Stands before log → Handles before after log request given) (memory : is_want_of_memory given ≡ false) where
  pub served : IsServed before.size after log request given
  served = served-by before after log request given (handled log drive.stands) memory

  pub replied : is_delta request ≡ false → IsOwnReply (state_of log) request given
  replied other = own-reply (state_of log) before.size request given drive.plain drive.stands.size other served.reply_is

  pub one-more : (who : Who) → IsDriveOf after (log ++ Ask who request true true ∷ [])
  one-more who = record {
    stands = served.stands who true;
    plain =
        ap (λ (state : State). state.plain) (state-push log (Ask who request true true)) ∙ plain-kept (state_of log) who request true ∙ drive.plain;
  }

  pub logged : (who : Who) (now more : List Step) (step : Step) (sent : Request) → now ≡ log → sent ≡ request → step ≡ Ask who sent true true → more ≡ now ++ step ∷ [] → IsDriveOf after more
  logged who now more step sent same copied made grown =
      let all : more ≡ log ++ Ask who request true true ∷ [] =
      grown ∙ ap (λ (l : List Step). l ++ step ∷ []) same ∙ ap (λ s. log ++ s ∷ []) (made ∙ ap (λ r. Ask who r true true) copied) in
      subst (IsDriveOf after) (sym all) (one-more who)

-- a refusal leaves the drive as it was
wants-refusal : (given : Reply) → is_want_of_memory given ≡ true → is_refusal given ≡ true
wants-refusal (reply.Refused status code) is = refl
wants-refusal given is = absurd (cc is)

as-before : (before after : DriveValue) (log now : List Step) → IsDriveOf before log → after ≡ before → now ≡ log → IsDriveOf after now
as-before before after log now drive same is = subst (λ l. IsDriveOf after l) (sym is) (subst (λ d. IsDriveOf d log) (sym same) drive)

pub after-want : (before after : DriveValue) (log now : List Step) (given : Reply) → IsDriveOf before log → (is_refusal given ≡ true → after ≡ before) → is_want_of_memory given ≡ true → now ≡ log → IsDriveOf after now
after-want before after log now given drive kept wants same = as-before before after log now drive (kept (wants-refusal given wants)) same

-- a request about an upload session may not be served
pub session-unservable : (state : State) (request : Request) → is_about_session request ≡ true → is_servable state request ≡ false
session-unservable state (OpenSession at name behaviour condition defer) is = refl
session-unservable state (Fragment session first last total bytes) is = refl
session-unservable state (SessionStatus session) is = refl
session-unservable state (CancelSession session) is = refl
session-unservable state (Finish session) is = refl
session-unservable state request is = absurd (cc is)

-- the world after a request with a reply, and after one without
pub heard-is : (world : WorldValue) (log now more : List Step) (size size_after faults answers counted in_row : ℕ) (sent request : Request) → record { log = log; size = size; faults = faults; answers = answers; in_row = in_row } ≡ world
    → size_after ≡ size → now ≡ log → more ≡ now ++ Ask Own sent true true ∷ [] → sent ≡ request → counted ≡ min (answers + 1) (2 ^ 64 - 1)
    → record { log = more; size = size_after; faults = faults; answers = counted; in_row = 0 } ≡ heard world request
heard-is world log now more size size_after faults answers counted in_row sent request view sized same grown copied rose =
    let at : ℕ → List Step → ℕ → WorldValue = λ s l a. record { log = l; size = s; faults = faults; answers = a; in_row = 0 } in
    let grows : more ≡ log ++ Ask Own request true true ∷ [] = grown ∙ ap (λ l. l ++ Ask Own sent true true ∷ []) same ∙ ap (λ r. log ++ Ask Own r true true ∷ []) copied in
    let P : WorldValue → Type 0 = λ w. at size_after more counted ≡ heard w request in
    subst P view (λ i. at (sized i) (grows i) (rose i))

pub unheard-is : (world after : WorldValue) (log now : List Step) (size faults answers in_row : ℕ) → record { log = log; size = size; faults = faults; answers = answers; in_row = in_row } ≡ world → now ≡ log
    → after ≡ unheard (record { log = now; size = size; faults = faults; answers = answers; in_row = in_row }) → after ≡ unheard world
unheard-is world after log now size faults answers in_row view same counted =
    counted ∙ ap (λ (l : List Step). unheard (record { log = l; size = size; faults = faults; answers = answers; in_row = in_row })) same ∙ ap unheard view

-- an event that does not make the drive plain
event-whole : (state : State) (happens : DriveEvent) → state.plain ≡ false → is_plain_event happens ≡ false → (after_event state happens).plain ≡ false
event-whole state (event.Expire number) whole other = whole
event-whole state event.Restore whole other = whole
event-whole state (event.EndSession session) whole other = whole
event-whole state event.Plain whole other = absurd (cc other)

pub after-event : (before after : DriveValue) (log now more : List Step) (happens : DriveEvent) → IsDriveOf before log → is_plain_event happens ≡ false
    → ((l : List Step) → Stands before l → Stands after (l ++ Event happens ∷ [])) → now ≡ log → more ≡ now ++ Event happens ∷ [] → IsDriveOf after more
after-event before after log now more happens drive other befalls same grown =
    let at : more ≡ log ++ Event happens ∷ [] = grown ∙ ap (λ (l : List Step). l ++ Event happens ∷ []) same in
    subst (IsDriveOf after) (sym at) (record {
      stands = befalls log drive.stands;
      plain = ap (λ (state : State). state.plain) (state-push log (Event happens)) ∙ event-whole (state_of log) happens drive.plain other;
    })
