use Rattle.std.proofs.Common.{◌≡◌, Some}
use Rattle.od_tree.specs.Local.{file_at, bytes_in}
use Rattle.od_tree.specs.declared.step.TreeOp.TheVariants as op
use Rattle.od_sync.proofs.Looks.{listing-read, looks-ok, looks-err, shows-read, shows-no-read, digest-is}
use Rattle.od_sync.proofs.scanning.look_at_file.Goals as goal

pub returns-in-Ok-clause-log : goal.returns-in-Ok-clause-log
returns-in-Ok-clause-log g c =
    looks-ok 0 (op.Read c.args.at.now) (λ local bytes. bytes_in (file_at c.args.at.now local.spots) ≡ Some bytes) (g.T.Tree.log c.args.tree.now) (g.T.Tree.log c.read.new.self) c.in-Ok.bytes tt (listing-read c.args.at.now) c.in-Ok.ensures.log

pub returns-in-Err-Missing-clause-log : goal.returns-in-Err-Missing-clause-log
returns-in-Err-Missing-clause-log g c =
    looks-err 0 (op.Read c.args.at.now) (λ local bytes. bytes_in (file_at c.args.at.now local.spots) ≡ Some bytes) (g.T.Tree.log c.args.tree.now) (g.T.Tree.log c.read.new.self) c.in-Err-Missing.field-0 tt (listing-read c.args.at.now) c.in-Err-Missing.ensures.log

pub returns-in-Err-Failed-clause-log : goal.returns-in-Err-Failed-clause-log
returns-in-Err-Failed-clause-log g c =
    looks-err 0 (op.Read c.args.at.now) (λ local bytes. bytes_in (file_at c.args.at.now local.spots) ≡ Some bytes) (g.T.Tree.log c.args.tree.now) (g.T.Tree.log c.read.new.self) c.in-Err-Failed.field-0 tt (listing-read c.args.at.now) c.in-Err-Failed.ensures.log

pub returns-in-Err-Memory-clause-log : goal.returns-in-Err-Memory-clause-log
returns-in-Err-Memory-clause-log g c =
    looks-err 0 (op.Read c.args.at.now) (λ local bytes. bytes_in (file_at c.args.at.now local.spots) ≡ Some bytes) (g.T.Tree.log c.args.tree.now) (g.T.Tree.log c.read.new.self) c.in-Err-Memory.field-0 tt (listing-read c.args.at.now) c.in-Err-Memory.ensures.log

pub returns-in-Ok-clause-found : goal.returns-in-Ok-clause-found
returns-in-Ok-clause-found g c =
    shows-read c.args.at.now (g.T.Tree.log c.args.tree.now) (g.T.Tree.log c.read.new.self) c.in-Ok.bytes c.digest_of.result
    (digest-is c.digest_of.result c.as_slice.result.now c.in-Ok.bytes c.digest_of.ensures c.as_slice.ensures) c.in-Ok.ensures.log

pub returns-in-Err-Missing-clause-found : goal.returns-in-Err-Missing-clause-found
returns-in-Err-Missing-clause-found g c =
    shows-no-read c.args.at.now (g.T.Tree.log c.args.tree.now) (g.T.Tree.log c.read.new.self) c.in-Err-Missing.field-0 c.in-Err-Missing.field-0-is c.in-Err-Missing.ensures.log
