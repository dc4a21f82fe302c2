use Rattle.std.proofs.Common.{◌≡◌, List}
use Rattle.od_tree.specs.Listing.{entries_in}
use Rattle.od_tree.specs.declared.entry.Entry.{Entry}
use Rattle.od_tree.specs.declared.step.TreeOp.TheVariants as op
use Rattle.od_scan.proofs.Listing.{list-found, list-gone}
use Rattle.od_scan.proofs.Looking.{work-failed, work-memory}
use Rattle.od_scan.proofs.scanning.look_at_folder.Goals as goal

pub returns-in-Ok : goal.returns-in-Ok
returns-in-Ok g c = list-found c.args.at.now c.in-Ok.entries c.requires c.in-Ok.ensures

pub returns-in-Err-Missing : goal.returns-in-Err-Missing
returns-in-Err-Missing g c = list-gone c.args.at.now (rw c.in-Err-Missing.field-0-is at c.in-Err-Missing.ensures)

pub returns-in-Err-Failed : goal.returns-in-Err-Failed
returns-in-Err-Failed g c = work-failed (op.List c.args.at.now) (λ local (entries : List Entry). entries ≡ entries_in c.args.at.now local.spots) tt (λ k. tt) (rw c.in-Err-Failed.field-0-is at c.in-Err-Failed.ensures)

pub returns-in-Err-Memory : goal.returns-in-Err-Memory
returns-in-Err-Memory g c = work-memory (op.List c.args.at.now) (λ local (entries : List Entry). entries ≡ entries_in c.args.at.now local.spots) tt (λ k. tt) (rw c.in-Err-Memory.field-0-is at c.in-Err-Memory.ensures)
