use Rattle.std.proofs.Common.{length, Ok, refl, ap, subst}
use Rattle.gd_item.specs.Sessions.{held}
use Rattle.gd_item.specs.Steps.{state_of}
use Rattle.gd_item.specs.declared.reply.Reply.TheVariants.{More}
use Rattle.gd_item.specs.declared.request.Request.TheVariants.{Fragment}
use Rattle.gd_api.proofs.Handling.{within}
use Rattle.gd_api.proofs.Sending.{Commits, more-kept, whole-made, commit-kept, whole-left, fragment-failed, fragment-told}
use Rattle.gd_api.proofs.drive.Drive.fragment.Goals as goal

pub returns-in-Ok-More-clause-answer : goal.returns-in-Ok-More-clause-answer
returns-in-Ok-More-clause-answer c =
    λ log stands.
    within c.args.self.now _ _ log (Fragment c.args.session c.args.first c.args.last c.args.total c.args.bytes.now) (More c.in-Ok-More.expected) c.self.view_is
    (λ has. more-kept _ c.fragment.new.self log c.args.session c.args.first c.args.last c.args.total c.args.bytes.now c.in-Ok-More.expected has
    (fragment-told c.self.inside.sessions c.fragment.new.self (state_of log).sessions (length (state_of log).openers) c.args.session c.args.first c.args.last c.args.total c.kept_bytes-kept.result (held (state_of log)).kept c.args.bytes.now c.as_slice.result.now _ _ (c.kept_bytes-kept.ensures (state_of log).effects (state_of log).epoch (state_of log).floor has.store) c.as_slice.ensures (ap (λ p. Ok p) c.in-Ok-More.field-0-is) (c.in-Ok-More.ensures.answer (state_of log).sessions (length (state_of log).openers) has.sessions))) stands

pub returns-in-Ok-Whole-clause-answer : goal.returns-in-Ok-Whole-clause-answer
returns-in-Ok-Whole-clause-answer c =
    λ log stands.
    within c.args.self.now _ _ log (Fragment c.args.session c.args.first c.args.last c.args.total c.args.bytes.now) c.make_reply.result c.self.view_is
    (λ has. whole-made _ c.commit.new.store c.fragment.new.self c.commit.new.sessions log c.args.session c.args.first c.args.last c.args.total c.args.bytes.now c.in-Ok-Whole.all c.commit.result c.make_reply.result c.make_reply.ensures has
    (fragment-told c.self.inside.sessions c.fragment.new.self (state_of log).sessions (length (state_of log).openers) c.args.session c.args.first c.args.last c.args.total c.kept_bytes-kept.result (held (state_of log)).kept c.args.bytes.now c.as_slice.result.now _ _ (c.kept_bytes-kept.ensures (state_of log).effects (state_of log).epoch (state_of log).floor has.store) c.as_slice.ensures (ap (λ p. Ok p) c.in-Ok-Whole.field-0-is) (c.in-Ok-Whole.ensures.answer (state_of log).sessions (length (state_of log).openers) has.sessions))
    (subst (λ b. Commits c.self.inside.store c.commit.new.store c.fragment.new.self c.commit.new.sessions c.args.session b c.commit.result) c.as_slice-in-Ok-Whole.ensures c.commit.ensures.answer)
    c.commit.ensures.kept) stands

pub returns-in-Ok-Whole-clause-refusal : goal.returns-in-Ok-Whole-clause-refusal
returns-in-Ok-Whole-clause-refusal c =
    λ refuses.
    let told = c.in-Ok-Whole.ensures.answer c.self.inside.sessions.living c.self.inside.sessions.begun (record { living = refl; begun = refl }) in
    commit-kept c.args.self.now _ c.commit.new.store c.fragment.new.self c.commit.new.sessions c.commit.result c.make_reply.result c.self.view_is c.make_reply.ensures c.commit.ensures.served c.commit.ensures.kept
    (whole-left _ _ _ _ _ _ _ _ c.in-Ok-Whole.field-0 c.in-Ok-Whole.all c.in-Ok-Whole.field-0-is told.ok.1) refuses

pub returns-in-Err-clause-answer : goal.returns-in-Err-clause-answer
returns-in-Err-clause-answer c =
    λ log stands.
    within c.args.self.now _ _ log (Fragment c.args.session c.args.first c.args.last c.args.total c.args.bytes.now) c.make_session_reply.result c.self.view_is
    (λ has. fragment-failed _ c.fragment.new.self log c.args.session c.args.first c.args.last c.args.total c.args.bytes.now c.in-Err.fault c.make_session_reply.result c.make_session_reply.ensures has
    (fragment-told c.self.inside.sessions c.fragment.new.self (state_of log).sessions (length (state_of log).openers) c.args.session c.args.first c.args.last c.args.total c.kept_bytes-kept.result (held (state_of log)).kept c.args.bytes.now c.as_slice.result.now _ _ (c.kept_bytes-kept.ensures (state_of log).effects (state_of log).epoch (state_of log).floor has.store) c.as_slice.ensures refl (c.in-Err.ensures.answer (state_of log).sessions (length (state_of log).openers) has.sessions)) c.in-Err.ensures.kept) stands
