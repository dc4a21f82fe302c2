use Rattle.std.proofs.Common.{subst}
use Rattle.gd_frame.specs.declared.message.Kind.TheVariants.{Reply}
use Rattle.gd_frame.specs.Reading.{Reading}
use Rattle.gd_frame.specs.Messages.{HasNoMessage}
use Rattle.gd_frame.specs.Syntax.{replies}
use Rattle.gd_frame.proofs.Holding.{holds_none}
use Rattle.gd_frame.proofs.replies.ReplyFrames.feed.Goals as goal

pub returns-in-Open-clause-unfinished : goal.returns-in-Open-clause-unfinished
returns-in-Open-clause-unfinished c = subst (λ (r : Reading). HasNoMessage replies r.held) c.self.view_is (holds_none Reply c.self.inside.held.items c.self.inside.phase c.self.invariant)

pub returns-in-Bad-clause-unfinished : goal.returns-in-Bad-clause-unfinished
returns-in-Bad-clause-unfinished c = subst (λ (r : Reading). HasNoMessage replies r.held) c.self.view_is (holds_none Reply c.self.inside.held.items c.self.inside.phase c.self.invariant)

pub returns-in-Spent-clause-unfinished : goal.returns-in-Spent-clause-unfinished
returns-in-Spent-clause-unfinished c = subst (λ (r : Reading). HasNoMessage replies r.held) c.self.view_is (holds_none Reply c.self.inside.held.items c.self.inside.phase c.self.invariant)
