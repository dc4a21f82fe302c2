use Rattle.std.proofs.Common.{◌≡◌, ℕ, List, Some}
use Rattle.gd_item.specs.Inventory.{inventory}
use Rattle.gd_item.specs.Refusals.{missing}
use Rattle.gd_item.specs.Versions.{version_at}
use Rattle.od_cli.proofs.Listed.{content-is, memory-alone, never-missing, never-refused, version-found}
use Rattle.od_cli.proofs.print.read_bytes.Goals as goal

pub returns-in-Ok-clause-found : goal.returns-in-Ok-clause-found
returns-in-Ok-clause-found c =
    version-found c.args.store.now c.args.id.0 c.in-Ok.content c.version.result (λ log holds. c.version.ensures log holds.0 holds.1 holds.2)
    (λ log holds. content-is (inventory log) c.args.id.0 c.in-Ok.content (c.in-Ok.ensures log holds.0 holds.1 holds.2))

pub returns-in-Ok-clause-there : goal.returns-in-Ok-clause-there
returns-in-Ok-clause-there c =
    λ log stands file.
    let held = inventory log in
    memory-alone (missing (version_at c.args.id.0 c.in-Ok.content held)) c.version.result (λ (bytes : List ℕ). version_at c.args.id.0 c.in-Ok.content held ≡ Some bytes) (c.version.ensures log stands.0 stands.1 stands.2)
    (never-missing held c.args.id.0 c.in-Ok.content file (content-is held c.args.id.0 c.in-Ok.content (c.in-Ok.ensures log stands.0 stands.1 stands.2)))

pub returns-in-Err-clause-there : goal.returns-in-Err-clause-there
returns-in-Err-clause-there c = λ log stands file. absurd (never-refused (inventory log) c.args.id.0 c.in-Err.fault file (c.in-Err.ensures log stands.0 stands.1 stands.2))
