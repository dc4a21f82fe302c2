-- A fetch has no effect.
use Rattle.std.proofs.Common.{◌≡◌, ℕ, ◌+◌, Bool, true, false, cond, List, [], ◌∷◌, ◌++◌, Option, Some, None, refl, ap, sym, subst, ◌∙◌}
use Rattle.std.proofs.lemmas.Bool.{cond_both}
use Rattle.gd_item.specs.Records.{digest_record}
use Rattle.gd_item.specs.Sessions.{State}
use Rattle.gd_item.specs.Steps.{after_step, effects_of, is_accepted}
use Rattle.gd_item.specs.declared.digest.Digest.{Digest}
use Rattle.gd_item.specs.declared.id.ItemId.{ItemId}
use Rattle.gd_item.specs.declared.reply.Reply.{Reply}
use Rattle.gd_item.specs.declared.reply.Reply.TheVariants as reply
use Rattle.gd_item.specs.declared.request.Address.TheVariants.{Id}
use Rattle.gd_item.specs.declared.request.Request.{Request}
use Rattle.gd_item.specs.declared.request.Request.TheVariants.{Content, Download}
use Rattle.gd_item.specs.declared.step.Step.TheVariants as step
use Rattle.gd_item.specs.declared.step.Who.TheVariants.{Own}
use Rattle.od_job.proofs.Standing.{IfNext, begun-stands, step-stands}
use Rattle.od_job.specs.Asking.{fetch_request, is_fetch_at}
use Rattle.od_job.specs.Runs.{Exchange, Leads, Ran}
use Rattle.od_job.specs.Turns.{after_failure, after_turn, begun, content_turn, download_turn, failure_turn, fetch_turn, is_digest, is_last_failure, step_of}
use Rattle.od_job.specs.declared.job.Answered.{Answered}
use Rattle.od_job.specs.declared.job.Answered.TheVariants as heard
use Rattle.od_job.specs.declared.job.Job.TheVariants.{Fetch}
use Rattle.od_job.specs.declared.job.Outcome.{Outcome}
use Rattle.od_job.specs.declared.job.Outcome.TheVariants.{Fetched, Changed, Lost}
use Rattle.od_job.specs.declared.stage.Stage.{Stage}
use Rattle.od_job.specs.declared.stage.Stage.TheVariants.{AskContent, AskDownload, Putting, Opening, Opened, AskStatus, Finishing, AskTotal, Cancelling, Ended}
use Rattle.od_job.specs.declared.stage.Turn.{Turn}
use Rattle.od_job.specs.declared.stage.Turn.TheVariants.{To, End}
use Rattle.od_job.specs.declared.transfer.Next.{Next}
use Rattle.od_job.specs.declared.transfer.Next.TheVariants.{Goes, Ends}
use Rattle.od_job.specs.declared.transfer.Transfer.{Transfer}
use Rattle.od_sends.proofs.Fitting.{IsHeard, comes-heard}
use Rattle.od_sends.specs.Fitting.{IsTold}
use Rattle.od_sends.specs.Putting.{job_effects}
use Rattle.od_sends.specs.Told.{AreBetween, Between, Comes, Marked, Mine, Told, after_marked}

past-others : (drive : State) (others rest : List Marked) → AreBetween others → job_effects drive (others ++ rest) ≡ job_effects (after_marked drive others) rest
past-others drive [] rest between = refl
past-others drive (Mine request served heard ∷ others) rest between = absurd between.0
past-others drive (Between next ∷ others) rest between = past-others (after_step drive next) others rest between.1

none-between : (drive : State) (part : List Marked) → AreBetween part → job_effects drive part ≡ []
none-between drive [] between = refl
none-between drive (Mine request served heard ∷ part) between = absurd between.0
none-between drive (Between next ∷ part) between = none-between (after_step drive next) part between.1

-- what is asked has no effect
none-if : (b : Bool) (drive : State) (request : Request) → effects_of drive request ≡ [] → cond b (effects_of drive request) [] ≡ []
none-if true drive request none = none
none-if false drive request none = refl

none-asked : (id : ItemId) (stage : Stage) (request : Request) (drive : State) → fetch_request id stage ≡ Some request → effects_of drive request ≡ []
none-asked id AskContent request drive asks = let is : Content (Id id) ≡ request = cc asks in subst (λ r. effects_of drive r ≡ []) is refl
none-asked id (AskDownload found version) request drive asks = let is : Download found version ≡ request = cc asks in subst (λ r. effects_of drive r ≡ []) is refl
none-asked id Putting request drive asks = absurd (cc asks)
none-asked id Opening request drive asks = absurd (cc asks)
none-asked id (Opened session sent) request drive asks = absurd (cc asks)
none-asked id (AskStatus session sent) request drive asks = absurd (cc asks)
none-asked id (Finishing session) request drive asks = absurd (cc asks)
none-asked id (AskTotal session) request drive asks = absurd (cc asks)
none-asked id (Cancelling session why) request drive asks = absurd (cc asks)
none-asked id Ended request drive asks = absurd (cc asks)

past-asked : (drive : State) (request : Request) (served heard : Bool) (rest : List Marked) → effects_of drive request ≡ []
    → job_effects drive (Mine request served heard ∷ rest) ≡ job_effects (after_step drive (step.Ask Own request served heard)) rest
past-asked drive request served heard rest none =
    ap (λ effects. effects ++ job_effects (after_step drive (step.Ask Own request served heard)) rest) (none-if (is_accepted drive request served) drive request none)

past-own : (drive : State) (exchange : Exchange) (own rest : List Marked) → effects_of drive exchange.request ≡ [] → Comes drive exchange own
    → job_effects drive (own ++ rest) ≡ job_effects (after_marked drive own) rest
past-own drive exchange [] rest none comes = refl
past-own drive exchange (Mine request served true ∷ []) rest none comes =
    past-asked drive request served true rest (subst (λ r. effects_of drive r ≡ []) (sym comes.0) none)
past-own drive exchange (Mine request served false ∷ []) rest none comes =
    past-asked drive request served false rest (subst (λ r. effects_of drive r ≡ []) (sym comes.0) none)
past-own drive exchange own rest none comes = absurd comes

pub fetch-none : (id : ItemId) (digest : Digest) (size : ℕ) (from : Option Next) (exchanges : List Exchange) (next : Next) (drive : State) (part : List Marked)
    → Leads (Fetch id digest size) from exchanges next → Told drive exchanges part → job_effects drive part ≡ []
fetch-none id digest size from [] next drive part leads told = none-between drive part told
fetch-none id digest size (Some (Goes now)) (exchange ∷ exchanges) next drive part leads told =
    let first = told.0 in
    let there : State = after_marked drive first.others in
    ap (job_effects drive) first.split
    ∙ (past-others drive first.others (first.own ++ first.rest) first.between
    ∙ (past-own there exchange first.own first.rest (none-asked id now.stage exchange.request there leads.0) first.comes
    ∙ fetch-none id digest size (step_of (Fetch id digest size) now exchange.answered) exchanges next (after_marked there first.own) first.rest leads.1 told.1))
fetch-none id digest size (Some (Ends outcome)) (exchange ∷ exchanges) next drive part leads told = absurd leads
fetch-none id digest size None (exchange ∷ exchanges) next drive part leads told = absurd leads

-- ---- what comes of it
abbrev NextTold : Option Next → Type 0
NextTold None = Unit {0}
NextTold (Some (Goes now)) = Unit {0}
NextTold (Some (Ends outcome)) = IsTold outcome

abbrev TurnTold : Option Turn → Type 0
TurnTold None = Unit {0}
TurnTold (Some (To stage)) = Unit {0}
TurnTold (Some (End outcome)) = IsTold outcome

turned-told : (row failures : ℕ) (turn : Option Turn) → TurnTold turn → NextTold (after_turn row failures turn)
turned-told row failures None so = tt
turned-told row failures (Some (To stage)) so = tt
turned-told row failures (Some (End outcome)) so = so

failed-told : (row failures : ℕ) (turn : Option Turn) → TurnTold turn → NextTold (after_failure row failures turn)
failed-told row failures None so = tt
failed-told row failures (Some (To stage)) so =
    cond_both (is_last_failure row failures) (Ends Lost) (Goes (record { stage = stage; row = row; failures = failures })) (λ next. NextTold (Some next)) (λ last. tt) (λ more. tt)
failed-told row failures (Some (End outcome)) so = so

content-told : (said : Reply) → TurnTold (content_turn said)
content-told (reply.Found id version) = tt
content-told (reply.Refused status code) = tt
content-told said = tt

download-told : (digest : Digest) (said : Reply) → TurnTold (download_turn digest said)
download-told digest (reply.Content bytes) = cond_both (is_digest (digest_record bytes) digest) (Fetched bytes) Changed (λ outcome. IsTold outcome) (λ same. tt) (λ other. tt)
download-told digest (reply.Refused status code) = tt
download-told digest said = tt

reply-told : (digest : Digest) (stage : Stage) (said : Reply) → TurnTold (fetch_turn digest stage said)
reply-told digest AskContent said = content-told said
reply-told digest (AskDownload found version) said = download-told digest said
reply-told digest stage said = tt

failure-told : (stage : Stage) → is_fetch_at stage ≡ true → TurnTold (failure_turn stage)
failure-told AskContent at = tt
failure-told (AskDownload found version) at = tt
failure-told stage at = absurd (cc at)

step-told : (id : ItemId) (digest : Digest) (size : ℕ) (now : Transfer) (answered : Answered) → is_fetch_at now.stage ≡ true → IsHeard answered → NextTold (step_of (Fetch id digest size) now answered)
step-told id digest size now (heard.Got said) at is = turned-told 0 now.failures (fetch_turn digest now.stage said) (reply-told digest now.stage said)
step-told id digest size now heard.Failed at is = failed-told (now.row + 1) (now.failures + 1) (failure_turn now.stage) (failure-told now.stage at)
step-told id digest size now (heard.Bad bytes) at is = absurd is

fetch-told : (id : ItemId) (digest : Digest) (size : ℕ) (from : Option Next) (exchanges : List Exchange) (outcome : Outcome) (drive : State) (part : List Marked) → IfNext (Fetch id digest size) from → NextTold from
    → Leads (Fetch id digest size) from exchanges (Ends outcome) → Told drive exchanges part → IsTold outcome
fetch-told id digest size from [] outcome drive part stands so leads told = let Holds : Option Next → Type 0 = λ next. NextTold next in subst Holds leads so
fetch-told id digest size (Some (Goes now)) (exchange ∷ exchanges) outcome drive part stands so leads told =
    let first = told.0 in
    let there : State = after_marked drive first.others in
    fetch-told id digest size (step_of (Fetch id digest size) now exchange.answered) exchanges outcome (after_marked there first.own) first.rest
    (step-stands (Fetch id digest size) now exchange.answered stands)
    (step-told id digest size now exchange.answered stands.at (comes-heard there exchange first.own first.comes)) leads.1 told.1
fetch-told id digest size (Some (Ends end)) (exchange ∷ exchanges) outcome drive part stands so leads told = absurd leads
fetch-told id digest size None (exchange ∷ exchanges) outcome drive part stands so leads told = absurd leads

pub fetch-fits : (id : ItemId) (digest : Digest) (size : ℕ) (exchanges : List Exchange) (outcome : Outcome) (drive : State) (part : List Marked) → Ran (Fetch id digest size) exchanges outcome
    → Told drive exchanges part → IsTold outcome
fetch-fits id digest size exchanges outcome drive part ran told =
    fetch-told id digest size (Some (Goes (begun (Fetch id digest size)))) exchanges outcome drive part (begun-stands (Fetch id digest size)) tt ran told
