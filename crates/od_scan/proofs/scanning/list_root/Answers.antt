use Rattle.std.proofs.Common.{◌≡◌, List}
use Rattle.od_tree.specs.Listing.{entries_in}
use Rattle.od_tree.specs.declared.entry.Entry.{Entry}
use Rattle.od_tree.specs.declared.step.TreeOp.TheVariants as op
use Rattle.od_scan.proofs.Listing.{root-listed}
use Rattle.od_scan.proofs.Looking.{work-failed, work-memory}
use Rattle.od_scan.proofs.scanning.list_root.Goals as goal

pub returns-in-Ok : goal.returns-in-Ok
returns-in-Ok g c = root-listed c.root-root.result c.in-Ok.entries c.root-root.ensures c.in-Ok.ensures

pub returns-in-Err-Failed : goal.returns-in-Err-Failed
returns-in-Err-Failed g c = work-failed (op.List c.root-root.result) (λ local (entries : List Entry). entries ≡ entries_in c.root-root.result local.spots) tt (λ k. tt) (rw c.in-Err-Failed.field-0-is at c.in-Err-Failed.ensures)

pub returns-in-Err-Memory : goal.returns-in-Err-Memory
returns-in-Err-Memory g c = work-memory (op.List c.root-root.result) (λ local (entries : List Entry). entries ≡ entries_in c.root-root.result local.spots) tt (λ k. tt) (rw c.in-Err-Memory.field-0-is at c.in-Err-Memory.ensures)
