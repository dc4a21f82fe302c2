use Rattle.gd_server.proofs.Writing.{first_failed, second_failed}
use Rattle.gd_server.proofs.answering.write_both.Goals as goal

pub returns-in-Err-clause-bytes : goal.returns-in-Err-clause-bytes
returns-in-Err-clause-bytes g c = first_failed _ _ c.args.first.now c.args.second.now c.in-Err.fault c.in-Err.ensures.bytes

pub returns-in-Err-write-clause-bytes : goal.returns-in-Err-write-clause-bytes
returns-in-Err-write-clause-bytes g c = second_failed _ _ _ c.args.first.now c.args.second.now c.in-Err-write.fault c.in-Ok.ensures.bytes c.in-Err-write.ensures.bytes
