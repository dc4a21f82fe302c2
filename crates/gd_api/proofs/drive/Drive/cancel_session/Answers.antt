use Rattle.std.proofs.Common.{length, refl}
use Rattle.gd_item.specs.Refused.{not_living}
use Rattle.gd_item.specs.Sessions.{session_at}
use Rattle.gd_item.specs.Steps.{state_of}
use Rattle.gd_item.specs.declared.reply.Reply.TheVariants.{Done}
use Rattle.gd_item.specs.declared.request.Request.TheVariants.{CancelSession}
use Rattle.gd_api.proofs.Handling.{uploaded, within, within-served, served-session}
use Rattle.gd_api.proofs.Sending.{cancel-told}
use Rattle.gd_api.proofs.drive.Drive.cancel_session.Goals as goal

pub returns-clause-answer : goal.returns-clause-answer
returns-clause-answer c =
    λ log stands.
    let state = state_of log in
    let request = CancelSession c.args.session in
    let fault = not_living (session_at c.args.session state.sessions) in
    within c.args.self.now _ _ log request c.make_session_reply.result c.self.view_is
    (λ has. uploaded _ c.cancel.new.sessions log request fault c.cancel.result c.make_session_reply.result c.make_session_reply.ensures has refl refl
    (cancel-told fault c.cancel.result (c.cancel.ensures.answer state.sessions (length state.openers) has.sessions) (c.cancel.ensures.ok state.sessions (length state.openers) has.sessions)) c.cancel.ensures.err) stands

pub returns-clause-served : goal.returns-clause-served
returns-clause-served c =
    λ log stands.
    let state = state_of log in
    within-served c.args.self.now _ log (CancelSession c.args.session) c.make_session_reply.result c.self.view_is
    (λ has. served-session log (CancelSession c.args.session) _ (not_living (session_at c.args.session state.sessions)) c.cancel.result Done c.make_session_reply.result
    c.make_session_reply.ensures refl refl (c.cancel.ensures.answer state.sessions (length state.openers) has.sessions)) stands
