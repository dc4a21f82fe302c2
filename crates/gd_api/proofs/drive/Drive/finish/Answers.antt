use Rattle.std.proofs.Common.{length, subst}
use Rattle.gd_item.specs.Steps.{state_of}
use Rattle.gd_item.specs.declared.request.Request.TheVariants.{Finish}
use Rattle.gd_api.proofs.Handling.{within, within-read}
use Rattle.gd_api.proofs.Sending.{Commits, finished, finish-refused}
use Rattle.gd_api.proofs.drive.Drive.finish.Goals as goal

pub returns-in-Ok-clause-answer : goal.returns-in-Ok-clause-answer
returns-in-Ok-clause-answer c =
    λ log stands.
    within c.args.self.now _ _ log (Finish c.args.session) c.make_reply.result c.self.view_is
    (λ has. finished _ c.commit.new.store c.commit.new.sessions log c.args.session c.in-Ok.all c.commit.result c.make_reply.result c.make_reply.ensures has (c.in-Ok.ensures (state_of log).sessions (length (state_of log).openers) has.sessions)
    (subst (λ b. Commits c.self.inside.store c.commit.new.store c.self.inside.sessions c.commit.new.sessions c.args.session b c.commit.result) c.as_slice.ensures c.commit.ensures.answer)
    c.commit.ensures.kept) stands

pub returns-in-Err-clause-answer : goal.returns-in-Err-clause-answer
returns-in-Err-clause-answer c =
    λ log stands.
    within-read c.args.self.now _ log (Finish c.args.session) c.make_session_reply.result c.self.view_is
    (λ has. finish-refused _ log c.args.session c.in-Err.fault c.make_session_reply.result _ c.make_session_reply.ensures has (c.in-Err.ensures (state_of log).sessions (length (state_of log).openers) has.sessions)) stands
