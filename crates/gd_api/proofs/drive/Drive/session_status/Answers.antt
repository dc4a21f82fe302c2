use Rattle.std.proofs.Common.{length, refl}
use Rattle.gd_item.specs.Answers.{about, status_reply}
use Rattle.gd_item.specs.Refused.{not_living}
use Rattle.gd_item.specs.Sessions.{session_at}
use Rattle.gd_item.specs.Steps.{state_of}
use Rattle.gd_item.specs.declared.request.Request.TheVariants.{SessionStatus}
use Rattle.gd_api.proofs.Handling.{uploaded, within-read, within-served, served-session, given-session, session-answers-so}
use Rattle.gd_api.proofs.Sending.{same-sessions}
use Rattle.gd_api.proofs.drive.Drive.session_status.Goals as goal

pub returns-clause-answer : goal.returns-clause-answer
returns-clause-answer c =
    λ log stands.
    let state = state_of log in
    let request = SessionStatus c.args.session in
    let fault = not_living (session_at c.args.session state.sessions) in
    within-read c.args.self.now _ log request c.make_session_reply.result c.self.view_is
    (λ has. uploaded _ _ log request fault c.status.result c.make_session_reply.result c.make_session_reply.ensures has refl refl
    (session-answers-so fault c.status.result (λ r is. (is, λ who. has.sessions))
    (given-session fault (about status_reply (session_at c.args.session state.sessions)) c.status.result (c.status.ensures state.sessions (length state.openers) has.sessions)))
    (same-sessions _ c.status.result)) stands

pub returns-clause-served : goal.returns-clause-served
returns-clause-served c =
    λ log stands.
    let state = state_of log in
    within-served c.args.self.now _ log (SessionStatus c.args.session) c.make_session_reply.result c.self.view_is
    (λ has. served-session log (SessionStatus c.args.session) _ (not_living (session_at c.args.session state.sessions)) c.status.result (about status_reply (session_at c.args.session state.sessions))
    c.make_session_reply.result c.make_session_reply.ensures refl refl (c.status.ensures state.sessions (length state.openers) has.sessions)) stands
