use Rattle.gd_item.specs.Answers.{content_reply}
use Rattle.gd_item.specs.Inventory.{inventory}
use Rattle.gd_item.specs.Refusals.{file_refusal}
use Rattle.gd_item.specs.Versions.{content_at}
use Rattle.gd_store.proofs.Given.{given-err}
use Rattle.gd_api.proofs.Calls.{content-given}
use Rattle.gd_api.proofs.reads.content_at.Goals as goal

pub returns-in-Ok : goal.returns-in-Ok
returns-in-Ok c = record { answer = λ log epoch floor stands. content-given (inventory log) c.args.id.0 c.in-Ok.version (c.in-Ok.ensures log epoch floor stands) }

pub returns-in-Err : goal.returns-in-Err
returns-in-Err c = record {
  answer = λ log epoch floor stands.
      given-err (file_refusal (inventory log) c.args.id.0) c.in-Err.fault (content_at c.args.id.0 (inventory log)) (content_reply (inventory log) c.args.id.0) (c.in-Err.ensures log epoch floor stands);
}
