use Rattle.std.proofs.Common.{ap, sym, ◌∙◌}
use Rattle.gd_item.specs.Inventory.{inventory}
use Rattle.gd_item.specs.Targets.{place_of}
use Rattle.gd_api.proofs.Calls.{ok-so}
use Rattle.gd_api.proofs.target.find_place.Goals as goal

pub returns-in-ByPath : goal.returns-in-ByPath
returns-in-ByPath c = ok-so c.find_place_at.result (λ place told log epoch floor stands. told log epoch floor stands ∙ ap (place_of (inventory log)) (sym c.in-ByPath.is)) c.find_place_at.ensures
