-- What a token asks for is answered.
use Rattle.std.proofs.Common.{◌≡◌, ℕ, List, [], ◌++◌, Option, Some, None, Ok, Err, cond, refl, sym, ap, ◌∙◌, subst, inl, inr, append-nil}
use Rattle.gd_item.specs.Answers.{delta_reply}
use Rattle.gd_item.specs.Inventory.{Effect}
use Rattle.gd_item.specs.Pages.{Asked, Past, Latest, Bad, Lost, asked, is_bad, page_past, latest_page}
use Rattle.gd_item.specs.Refused.{refuse}
use Rattle.gd_item.specs.Sessions.{State}
use Rattle.gd_item.specs.Steps.{state_of, after_request}
use Rattle.gd_item.specs.declared.fault.ErrorCode.TheVariants.{InvalidRequest}
use Rattle.gd_item.specs.declared.reply.Reply.{Reply}
use Rattle.gd_item.specs.declared.request.Request.{Request}
use Rattle.gd_item.specs.declared.request.Request.TheVariants.{Delta}
use Rattle.gd_item.specs.declared.step.Step.{Step}
use Rattle.gd_item.specs.declared.step.Who.{Who}
use Rattle.gd_item.specs.declared.reply.Page.{Page}
use Rattle.gd_item.specs.declared.reply.Reply.TheVariants as reply
use Rattle.gd_item.specs.declared.reply.Resync.{Resync}
use Rattle.gd_delta.specs.Served as served
use Rattle.gd_delta.specs.declared.pages.DeltaFault.TheVariants.{BadToken, Gone}
use Rattle.gd_api.specs.Drives.{DriveValue, Has}
use Rattle.gd_api.proofs.Handling.{Serving, accepted, refused-so}

-- a request without effects leaves what the drive has
unchanged : (drive : DriveValue) (state : State) (request : Request) (who : Who) → after_request state who request ≡ record state { effects = state.effects ++ [] } → Has drive state → Has drive (after_request state who request)
unchanged drive state request who is has =
    subst (Has drive) (sym is) (subst (λ (e : List Effect). Has drive (record state { effects = e })) (sym (append-nil state.effects)) has)

by-asked : (drive : DriveValue) (log : List Step) (token : Option (List ℕ)) (reply : Reply) (what : Asked) → asked (state_of log) token ≡ what → Has drive (state_of log)
    → reply ≡ delta_reply (state_of log) drive.size (asked (state_of log) token) → Serving drive drive log (Delta token) reply
by-asked drive log token reply (Past position start) is has same =
    accepted drive drive log (Delta token) reply (ap (λ a. cond (is_bad a) (Some (refuse 400 InvalidRequest)) None) is) same (λ who. unchanged drive (state_of log) (Delta token) who refl has)
by-asked drive log token reply Latest is has same =
    accepted drive drive log (Delta token) reply (ap (λ a. cond (is_bad a) (Some (refuse 400 InvalidRequest)) None) is) same (λ who. unchanged drive (state_of log) (Delta token) who refl has)
by-asked drive log token reply (Lost resync) is has same =
    accepted drive drive log (Delta token) reply (ap (λ a. cond (is_bad a) (Some (refuse 400 InvalidRequest)) None) is) same (λ who. unchanged drive (state_of log) (Delta token) who refl has)
by-asked drive log token reply Bad is has same =
    refused-so drive log (Delta token) reply (refuse 400 InvalidRequest) has (ap (λ a. cond (is_bad a) (Some (refuse 400 InvalidRequest)) None) is) (same ∙ ap (delta_reply (state_of log) drive.size) is)

pub delta-answered : (drive : DriveValue) (log : List Step) (token : Option (List ℕ)) (reply : Reply) → Has drive (state_of log)
    → reply ≡ delta_reply (state_of log) drive.size (asked (state_of log) token) → Serving drive drive log (Delta token) reply
delta-answered drive log token reply has same = by-asked drive log token reply (asked (state_of log) token) refl has same

-- what is answered to it
pub page-given : (state : State) (size : ℕ) (what : Asked) (page : Page) → served.Serves (served.answer_to state size what) (Ok page) → reply.Page page ≡ delta_reply state size what
page-given state size (Past position start) page (inl same) = let is : page ≡ page_past state position start size = cc in ap reply.Page is
page-given state size Latest page (inl same) = let is : page ≡ latest_page state = cc in ap reply.Page is
page-given state size Bad page (inl same) = absurd cc
page-given state size (Lost resync) page (inl same) = absurd cc
page-given state size what page (inr lacks) = absurd cc

pub bad-given : (state : State) (size : ℕ) (what : Asked) → served.Serves (served.answer_to state size what) (Err BadToken) → reply.Refused 400 InvalidRequest ≡ delta_reply state size what
bad-given state size (Past position start) (inl same) = absurd cc
bad-given state size Latest (inl same) = absurd cc
bad-given state size Bad (inl same) = refl
bad-given state size (Lost resync) (inl same) = absurd cc
bad-given state size what (inr lacks) = absurd cc

pub gone-given : (state : State) (size : ℕ) (what : Asked) (resync : Resync) → served.Serves (served.answer_to state size what) (Err (Gone resync)) → reply.Gone resync ≡ delta_reply state size what
gone-given state size (Past position start) resync (inl same) = absurd cc
gone-given state size Latest resync (inl same) = absurd cc
gone-given state size Bad resync (inl same) = absurd cc
gone-given state size (Lost first) resync (inl same) = let is : resync ≡ first = cc in ap reply.Gone is
gone-given state size what resync (inr lacks) = absurd cc
