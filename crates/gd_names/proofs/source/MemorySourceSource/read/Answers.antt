use Rattle.std.proofs.Common.{refl, sym, arith}
use Rattle.gd_names.specs.Memory.{read_counts_of}
use Rattle.gd_names.proofs.Calls.{counts-passed, reads-one}
use Rattle.gd_names.proofs.Streams.{reads_piece}
use Rattle.gd_names.proofs.source.MemorySourceSource.read.Goals as goal

pub returns-clause-bytes : goal.returns-clause-bytes
returns-clause-bytes c =
    reads_piece c.args.self.now.bytes c.as_slice.result.now c.args.room.now c.copy_from_slice.new.self c.args.self.now.at c.min-count.result c.args.self.now.piece c.min.result c.as_slice.ensures c.min.ensures c.min-count.ensures c.args.self.now.some_piece c.copy_from_slice.ensures.after

pub returns-clause-goes : goal.returns-clause-goes
returns-clause-goes c =
    reads-one c.args.self.now _ (counts-passed c.args.self.now.failing (read_counts_of c.args.self.now) c.saturating_add-self.result c.saturating_add-self.ensures (sym c.if-is_listed.ensures)) refl refl refl (omega arith) (omega arith)
