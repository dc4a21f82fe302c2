use Rattle.std.proofs.Common.{refl}
use Rattle.od_tree.specs.declared.step.TreeOp.TheVariants as op
use Rattle.od_tree.proofs.GoingOn.{idle, operated}
use Rattle.od_tree.proofs.memory.MemoryTreeTree.rename.Goals as goal

pub returns-in_err-begin-clause-goes : goal.returns-in_err-begin-clause-goes
returns-in_err-begin-clause-goes c = idle (op.Rename c.args.from.now c.args.to.now) c.args.self.now c.begin.new.self c.begin.new.self.folder c.begin.ensures.begun refl

pub returns-in-Ok-clause-goes : goal.returns-in-Ok-clause-goes
returns-in-Ok-clause-goes c =
    operated (op.Rename c.args.from.now c.args.to.now) c.args.self.now c.begin.new.self c.rename.new.self c.begin.ensures.begun c.in_ok-begin.ensures.passes c.in_ok-begin.ensures.tied c.in-Ok.ensures.ok.0

pub returns-in-Err-clause-goes : goal.returns-in-Err-clause-goes
returns-in-Err-clause-goes c = idle (op.Rename c.args.from.now c.args.to.now) c.args.self.now c.begin.new.self c.rename.new.self c.begin.ensures.begun c.in-Err.ensures.err.0
