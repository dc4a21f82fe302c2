use Rattle.std.proofs.Common.{Err, refl, ap}
use Rattle.od_tree.specs.declared.fault.TreeFault.TheVariants.{Taken, Missing}
use Rattle.od_tree.specs.declared.step.TreeOp.TheVariants as op
use Rattle.od_sync.proofs.Made.{makes-ok, makes-err, file-placed, file-taken, file-missing}
use Rattle.od_sync.proofs.Placed.{these-one, these-none}
use Rattle.od_sync.proofs.doing.place_file.Goals as goal

pub returns-in-Ok-clause-log : goal.returns-in-Ok-clause-log
returns-in-Ok-clause-log g c = makes-ok (op.Place c.args.path.now c.args.bytes.now) (λ _ _. Unit {0}) (g.T.Tree.log c.args.tree.now) (g.T.Tree.log c.place.new.self) c.in-Ok.field-0 (refl, refl) c.in-Ok.ensures.log

pub returns-in-Ok-clause-placed : goal.returns-in-Ok-clause-placed
returns-in-Ok-clause-placed g c = file-placed c.args.path.now c.args.bytes.now (λ _ _. Unit {0}) (g.T.Tree.log c.args.tree.now) (g.T.Tree.log c.place.new.self) c.in-Ok.field-0 c.in-Ok.ensures.log

pub returns-in-Ok-clause-just : goal.returns-in-Ok-clause-just
returns-in-Ok-clause-just g c = these-one c.args.path.now c.args.bytes.now (λ _ _. Unit {0}) (g.T.Tree.log c.args.tree.now) (g.T.Tree.log c.place.new.self) c.in-Ok.field-0 c.in-Ok.ensures.log

pub returns-in-Err-Taken-clause-log : goal.returns-in-Err-Taken-clause-log
returns-in-Err-Taken-clause-log g c = makes-err (op.Place c.args.path.now c.args.bytes.now) (λ _ _. Unit {0}) (g.T.Tree.log c.args.tree.now) (g.T.Tree.log c.place.new.self) c.in-Err-Taken.field-0 (refl, refl) c.in-Err-Taken.ensures.log

pub returns-in-Err-Taken-clause-placed : goal.returns-in-Err-Taken-clause-placed
returns-in-Err-Taken-clause-placed g c = file-taken c.args.path.now c.args.bytes.now (λ _ _. Unit {0}) (g.T.Tree.log c.args.tree.now) (g.T.Tree.log c.place.new.self) c.in-Err-Taken.field-0 c.in-Err-Taken.field-0-is c.in-Err-Taken.ensures.log

pub returns-in-Err-Taken-clause-just : goal.returns-in-Err-Taken-clause-just
returns-in-Err-Taken-clause-just g c =
    these-none (op.Place c.args.path.now c.args.bytes.now) (g.T.Tree.log c.args.tree.now) (g.T.Tree.log c.place.new.self) Taken (c.in-Err-Taken.ensures.log.taken (ap (λ f. Err f) c.in-Err-Taken.field-0-is))

pub returns-in-Err-Missing-clause-log : goal.returns-in-Err-Missing-clause-log
returns-in-Err-Missing-clause-log g c = makes-err (op.Place c.args.path.now c.args.bytes.now) (λ _ _. Unit {0}) (g.T.Tree.log c.args.tree.now) (g.T.Tree.log c.place.new.self) c.in-Err-Missing.field-0 (refl, refl) c.in-Err-Missing.ensures.log

pub returns-in-Err-Missing-clause-placed : goal.returns-in-Err-Missing-clause-placed
returns-in-Err-Missing-clause-placed g c = file-missing c.args.path.now c.args.bytes.now (λ _ _. Unit {0}) (g.T.Tree.log c.args.tree.now) (g.T.Tree.log c.place.new.self) c.in-Err-Missing.field-0 c.in-Err-Missing.field-0-is c.in-Err-Missing.ensures.log

pub returns-in-Err-Missing-clause-just : goal.returns-in-Err-Missing-clause-just
returns-in-Err-Missing-clause-just g c =
    these-none (op.Place c.args.path.now c.args.bytes.now) (g.T.Tree.log c.args.tree.now) (g.T.Tree.log c.place.new.self) Missing (c.in-Err-Missing.ensures.log.missing (ap (λ f. Err f) c.in-Err-Missing.field-0-is))

pub returns-in-Err-Failed-clause-log : goal.returns-in-Err-Failed-clause-log
returns-in-Err-Failed-clause-log g c = makes-err (op.Place c.args.path.now c.args.bytes.now) (λ _ _. Unit {0}) (g.T.Tree.log c.args.tree.now) (g.T.Tree.log c.place.new.self) c.in-Err-Failed.field-0 (refl, refl) c.in-Err-Failed.ensures.log

pub returns-in-Err-Memory-clause-log : goal.returns-in-Err-Memory-clause-log
returns-in-Err-Memory-clause-log g c = makes-err (op.Place c.args.path.now c.args.bytes.now) (λ _ _. Unit {0}) (g.T.Tree.log c.args.tree.now) (g.T.Tree.log c.place.new.self) c.in-Err-Memory.field-0 (refl, refl) c.in-Err-Memory.ensures.log
