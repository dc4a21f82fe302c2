use Rattle.std.proofs.Common.{List}
use Rattle.od_tree.specs.Local.{held_at}
use Rattle.od_tree.specs.declared.local.HeldFile.{HeldFile}
use Rattle.od_tree.proofs.Removing.{taken}
use Rattle.od_tree.proofs.held.take_held.Goals as goal

pub returns-in-Some-clause-file : goal.returns-in-Some-clause-file
returns-in-Some-clause-file c =
    taken (λ (xs : List HeldFile). held_at c.args.number xs) c.as_slice.result.now c.args.held.now.items c.in-Some.index c.remove.result c.as_slice.ensures.value c.in-Some.ensures.left.0 c.remove.ensures.value
    c.in-Some.ensures.file
