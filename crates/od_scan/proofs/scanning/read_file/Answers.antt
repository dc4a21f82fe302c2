use Rattle.std.proofs.Common.{◌≡◌, List, ℕ, Some}
use Rattle.od_tree.specs.Local.{bytes_in, file_at}
use Rattle.od_tree.specs.declared.step.TreeOp.TheVariants as op
use Rattle.od_scan.proofs.Looking.{work-failed, work-memory}
use Rattle.od_scan.proofs.Reading.{node-read, read-found, read-gone}
use Rattle.od_scan.proofs.scanning.read_file.Goals as goal

pub returns-in-Ok : goal.returns-in-Ok
returns-in-Ok g c = read-found c.args.at.now c.in-Ok.bytes _ (node-read _ c.digest_of.result _ c.in-Ok.bytes c.len-size.ensures c.digest_of.ensures c.as_slice.ensures) c.in-Ok.ensures

pub returns-in-Err-Missing : goal.returns-in-Err-Missing
returns-in-Err-Missing g c = read-gone c.args.at.now (rw c.in-Err-Missing.field-0-is at c.in-Err-Missing.ensures)

pub returns-in-Err-Failed : goal.returns-in-Err-Failed
returns-in-Err-Failed g c = work-failed (op.Read c.args.at.now) (λ local (bytes : List ℕ). bytes_in (file_at c.args.at.now local.spots) ≡ Some bytes) tt (λ k. tt) (rw c.in-Err-Failed.field-0-is at c.in-Err-Failed.ensures)

pub returns-in-Err-Memory : goal.returns-in-Err-Memory
returns-in-Err-Memory g c = work-memory (op.Read c.args.at.now) (λ local (bytes : List ℕ). bytes_in (file_at c.args.at.now local.spots) ≡ Some bytes) tt (λ k. tt) (rw c.in-Err-Memory.field-0-is at c.in-Err-Memory.ensures)
