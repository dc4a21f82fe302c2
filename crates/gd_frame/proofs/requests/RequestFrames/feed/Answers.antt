use Rattle.std.proofs.Common.{subst}
use Rattle.gd_frame.specs.declared.message.Kind.TheVariants.{Request}
use Rattle.gd_frame.specs.Reading.{Reading}
use Rattle.gd_frame.specs.Messages.{HasNoMessage}
use Rattle.gd_frame.specs.Syntax.{requests}
use Rattle.gd_frame.proofs.Holding.{holds_none}
use Rattle.gd_frame.proofs.requests.RequestFrames.feed.Goals as goal

pub returns-in-Open-clause-unfinished : goal.returns-in-Open-clause-unfinished
returns-in-Open-clause-unfinished c = subst (λ (r : Reading). HasNoMessage requests r.held) c.self.view_is (holds_none Request c.self.inside.held.items c.self.inside.phase c.self.invariant)

pub returns-in-Bad-clause-unfinished : goal.returns-in-Bad-clause-unfinished
returns-in-Bad-clause-unfinished c = subst (λ (r : Reading). HasNoMessage requests r.held) c.self.view_is (holds_none Request c.self.inside.held.items c.self.inside.phase c.self.invariant)

pub returns-in-Spent-clause-unfinished : goal.returns-in-Spent-clause-unfinished
returns-in-Spent-clause-unfinished c = subst (λ (r : Reading). HasNoMessage requests r.held) c.self.view_is (holds_none Request c.self.inside.held.items c.self.inside.phase c.self.invariant)
