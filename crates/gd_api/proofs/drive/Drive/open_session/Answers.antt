use Rattle.std.proofs.Common.{ℕ, List, Option, length, ap, sym, ◌∙◌}
use Rattle.gd_item.specs.Refused.{is_unlike}
use Rattle.gd_item.specs.Steps.{state_of}
use Rattle.gd_item.specs.Targets.{name_in}
use Rattle.gd_item.specs.declared.request.Request.TheVariants.{OpenSession}
use Rattle.gd_api.proofs.Handling.{within, within-read}
use Rattle.gd_api.proofs.Sending.{other-name-refused, begun, place-refused}
use Rattle.gd_api.proofs.drive.Drive.open_session.Goals as goal

pub returns-then-is_other_name-clause-answer : goal.returns-then-is_other_name-clause-answer
returns-then-is_other_name-clause-answer c = λ log stands. other-name-refused c.args.self.now log c.args.at.now c.args.name.now c.args.behaviour c.args.condition.now c.args.defer (ap (λ (n : Option (List ℕ)). is_unlike n (name_in c.args.at.now)) (sym c.as_ref.ensures.value) ∙ sym c.if-is_other_name.ensures) stands

pub returns-in-Ok-clause-answer : goal.returns-in-Ok-clause-answer
returns-in-Ok-clause-answer c =
    λ log stands.
    within c.args.self.now _ _ log (OpenSession c.args.at.now c.args.name.now c.args.behaviour c.args.condition.now c.args.defer) c.make_session_reply.result c.self.view_is
    (λ has.
    let allowed = c.in-Ok.ensures (state_of log).effects (state_of log).epoch (state_of log).floor has.store in
    begun _ c.begin.new.sessions log c.args.at.now c.args.name.now c.args.behaviour c.args.condition.now c.args.defer c.in-Ok.place c.begin.result c.make_session_reply.result (ap (λ (n : Option (List ℕ)). is_unlike n (name_in c.args.at.now)) (sym c.as_ref.ensures.value) ∙ sym c.if-is_other_name.ensures) c.make_session_reply.ensures has
    allowed.ok.0 allowed.ok.1 (c.begin.ensures.answer (state_of log).sessions (length (state_of log).openers) has.sessions) c.begin.ensures.kept) stands

pub returns-in-Err-clause-answer : goal.returns-in-Err-clause-answer
returns-in-Err-clause-answer c =
    λ log stands.
    within-read c.args.self.now _ log (OpenSession c.args.at.now c.args.name.now c.args.behaviour c.args.condition.now c.args.defer) c.make_reply.result c.self.view_is
    (λ has. place-refused _ log c.args.at.now c.args.name.now c.args.behaviour c.args.condition.now c.args.defer c.in-Err.fault c.make_reply.result (ap (λ (n : Option (List ℕ)). is_unlike n (name_in c.args.at.now)) (sym c.as_ref.ensures.value) ∙ sym c.if-is_other_name.ensures) c.make_reply.ensures has (c.in-Err.ensures (state_of log).effects (state_of log).epoch (state_of log).floor has.store)) stands
