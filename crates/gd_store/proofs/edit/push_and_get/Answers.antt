use Rattle.gd_store.proofs.Records.{added-recorded, taken-out}
use Rattle.gd_store.proofs.edit.push_and_get.Goals as goal

pub unreachable-requires : goal.unreachable-requires
unreachable-requires c = added-recorded c.args.items.now c.push.new.self c.args.item c.in_ok-push.ensures.ok (rw c.in-Ok-None.field-0-is at c.in-Ok-None.ensures)

pub returns-in-Err-clause-kept : goal.returns-in-Err-clause-kept
returns-in-Err-clause-kept c = taken-out c.args.item c.args.items.now c.push.new.self c.remove.new.self c.requires.above c.in_ok-push.ensures.ok c.remove.ensures.others
