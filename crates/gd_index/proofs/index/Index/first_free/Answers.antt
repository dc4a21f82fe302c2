use Rattle.std.proofs.Common.{◌+◌, not, ap, ◌∙◌, arith}
use Rattle.gd_index.proofs.Naming.{free-here, taken-next, last-name}
use Rattle.gd_index.proofs.index.Index.first_free.Goals as goal

pub returns-then-is_none : goal.returns-then-is_none
returns-then-is_none c =
    free-here c.args.self.now c.args.parent c.args.name.now c.in_ok-made.made c.args.folder (c.loop-before.before + 1) c.child.result c.requires (omega arith) c.loop-before.invariant
    c.in_ok-made.ensures c.child.ensures (c.is_none.ensures ∙ ap not c.if-is_none.true)

pub loop-before-preserved : goal.loop-before-preserved
loop-before-preserved c =
    taken-next c.args.self.now c.args.parent c.args.name.now c.in_ok-made.made c.args.folder (c.loop-before.before + 1) c.child.result c.loop-before.invariant
    c.in_ok-made.ensures c.child.ensures (c.is_none.ensures ∙ ap not c.if-is_none.false)

pub returns : goal.returns
returns c =
    last-name c.args.self.now c.args.parent c.args.name.now c.in_ok-last.last c.args.folder c.len-count.result c.loop-before.before c.requires c.len-count.ensures c.loop-before-test.false c.loop-before.invariant
    c.in_ok-last.ensures
