use Rattle.std.proofs.Common.{refl, arith}
use Rattle.od_tree.specs.declared.step.TreeOp.TheVariants as op
use Rattle.od_sync.proofs.Made.{makes-ok, makes-err, dir-made, dir-taken, dir-missing}
use Rattle.od_sync.proofs.doing.make_folder.Goals as goal

pub returns-in-Ok-clause-log : goal.returns-in-Ok-clause-log
returns-in-Ok-clause-log g c = makes-ok (op.MakeDir c.args.folder.now) (λ _ _. Unit {0}) (g.T.Tree.log c.args.tree.now) (g.T.Tree.log c.make_dir.new.self) c.in-Ok.field-0 (0, omega arith, refl) c.in-Ok.ensures.log

pub returns-in-Ok-clause-made : goal.returns-in-Ok-clause-made
returns-in-Ok-clause-made g c = dir-made c.args.folder.now (λ _ _. Unit {0}) (g.T.Tree.log c.args.tree.now) (g.T.Tree.log c.make_dir.new.self) c.in-Ok.field-0 c.in-Ok.ensures.log

pub returns-in-Err-Taken-clause-log : goal.returns-in-Err-Taken-clause-log
returns-in-Err-Taken-clause-log g c = makes-err (op.MakeDir c.args.folder.now) (λ _ _. Unit {0}) (g.T.Tree.log c.args.tree.now) (g.T.Tree.log c.make_dir.new.self) c.in-Err-Taken.field-0 (0, omega arith, refl) c.in-Err-Taken.ensures.log

pub returns-in-Err-Taken-clause-made : goal.returns-in-Err-Taken-clause-made
returns-in-Err-Taken-clause-made g c = dir-taken c.args.folder.now (λ _ _. Unit {0}) (g.T.Tree.log c.args.tree.now) (g.T.Tree.log c.make_dir.new.self) c.in-Err-Taken.field-0 c.in-Err-Taken.field-0-is c.in-Err-Taken.ensures.log

pub returns-in-Err-Missing-clause-log : goal.returns-in-Err-Missing-clause-log
returns-in-Err-Missing-clause-log g c = makes-err (op.MakeDir c.args.folder.now) (λ _ _. Unit {0}) (g.T.Tree.log c.args.tree.now) (g.T.Tree.log c.make_dir.new.self) c.in-Err-Missing.field-0 (0, omega arith, refl) c.in-Err-Missing.ensures.log

pub returns-in-Err-Missing-clause-made : goal.returns-in-Err-Missing-clause-made
returns-in-Err-Missing-clause-made g c = dir-missing c.args.folder.now (λ _ _. Unit {0}) (g.T.Tree.log c.args.tree.now) (g.T.Tree.log c.make_dir.new.self) c.in-Err-Missing.field-0 c.in-Err-Missing.field-0-is c.in-Err-Missing.ensures.log

pub returns-in-Err-Failed-clause-log : goal.returns-in-Err-Failed-clause-log
returns-in-Err-Failed-clause-log g c = makes-err (op.MakeDir c.args.folder.now) (λ _ _. Unit {0}) (g.T.Tree.log c.args.tree.now) (g.T.Tree.log c.make_dir.new.self) c.in-Err-Failed.field-0 (0, omega arith, refl) c.in-Err-Failed.ensures.log

pub returns-in-Err-Memory-clause-log : goal.returns-in-Err-Memory-clause-log
returns-in-Err-Memory-clause-log g c = makes-err (op.MakeDir c.args.folder.now) (λ _ _. Unit {0}) (g.T.Tree.log c.args.tree.now) (g.T.Tree.log c.make_dir.new.self) c.in-Err-Memory.field-0 (0, omega arith, refl) c.in-Err-Memory.ensures.log
