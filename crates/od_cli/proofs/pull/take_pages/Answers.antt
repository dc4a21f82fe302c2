use Rattle.std.proofs.Common.{sym, subst}
use Rattle.gd_item.specs.Sessions.{State}
use Rattle.od_cli.specs.Pulling.{IsUnderway}
use Rattle.od_cli.proofs.Pages.{last-came, more-came, none-left, taking-begins}
use Rattle.od_cli.proofs.pull.take_pages.Goals as goal

pub loop-left-init : goal.loop-left-init
loop-left-init c = taking-begins c.args.world.now c.args.mirror.now c.requires

pub take_reply-requires : goal.take_reply-requires
take_reply-requires c = let on = c.loop-left.invariant in subst (λ (s : State). IsUnderway s c.loop-left.mirror) (sym on.rests) on.underway

pub loop-left-preserved : goal.loop-left-preserved
loop-left-preserved c =
    more-came c.args.world.now c.loop-left.world c.take_reply.new.world c.loop-left.mirror c.take_reply.new.mirror c.loop-left.left c.in_ok-taken.taken c.loop-left-test.true c.loop-left.invariant c.in_ok-taken.ensures c.in-More.is

pub returns-in-Last : goal.returns-in-Last
returns-in-Last c =
    last-came c.args.world.now c.loop-left.world c.take_reply.new.world c.loop-left.mirror c.take_reply.new.mirror c.loop-left.left c.in_ok-taken.taken c.loop-left-test.true c.loop-left.invariant c.in_ok-taken.ensures c.in-Last.is

pub returns : goal.returns
returns c = none-left c.args.world.now c.loop-left.world c.loop-left.mirror c.loop-left.left c.loop-left-test.false c.loop-left.invariant
