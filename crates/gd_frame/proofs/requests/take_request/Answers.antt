use Rattle.std.proofs.Common.{ap, subst, ◌∙◌}
use Rattle.gd_frame.specs.declared.message.Kind.TheVariants.{Request}
use Rattle.gd_frame.specs.Syntax.{requests}
use Rattle.gd_frame.specs.Frames.{IsRequest}
use Rattle.gd_frame.proofs.Holding.{holds_nothing}
use Rattle.gd_frame.proofs.requests.take_request.Goals as goal

pub returns-in_err-request_of-in-Ok-Whole-clause-holds : goal.returns-in_err-request_of-in-Ok-Whole-clause-holds
returns-in_err-request_of-in-Ok-Whole-clause-holds c = holds_nothing Request c.forget.new.held.items c.forget.new.phase c.forget.ensures.nothing c.forget.ensures.head

pub returns-in_ok-request_of-in-Ok-Whole-clause-fed : goal.returns-in_ok-request_of-in-Ok-Whole-clause-fed
returns-in_ok-request_of-in-Ok-Whole-clause-fed c =
    let taken = rw c.in-Ok-Whole.field-0-is at c.in-Ok-Whole.ensures in
    (taken.0, subst (λ b. IsRequest b c.in_ok-request_of-in-Ok-Whole.field-0) (ap (λ v. v.items) c.replace-whole.ensures.value ∙ taken.1) c.in_ok-request_of-in-Ok-Whole.ensures, c.forget.ensures.nothing)

pub returns-in_ok-request_of-in-Ok-Whole-clause-holds : goal.returns-in_ok-request_of-in-Ok-Whole-clause-holds
returns-in_ok-request_of-in-Ok-Whole-clause-holds c = holds_nothing Request c.forget.new.held.items c.forget.new.phase c.forget.ensures.nothing c.forget.ensures.head

pub returns-in-Ok-Bad-clause-holds : goal.returns-in-Ok-Bad-clause-holds
returns-in-Ok-Bad-clause-holds c = holds_nothing Request c.forget-in-Ok-Bad.new.held.items c.forget-in-Ok-Bad.new.phase c.forget-in-Ok-Bad.ensures.nothing c.forget-in-Ok-Bad.ensures.head

pub returns-in-Err-clause-holds : goal.returns-in-Err-clause-holds
returns-in-Err-clause-holds c = holds_nothing Request c.forget-in-Err.new.held.items c.forget-in-Err.new.phase c.forget-in-Err.ensures.nothing c.forget-in-Err.ensures.head
