use Rattle.std.proofs.Common.{length, ◌∙◌}
use Rattle.gd_item.specs.Records.{feed}
use Rattle.gd_store.proofs.Feeds.{count-of, enough}
use Rattle.gd_store.proofs.items.Items.changed_after.Goals as goal

pub returns-clause-found : goal.returns-clause-found
returns-clause-found c =
    let same =
    enough c.args.most c.saturating_add-count.result c.in_ok-changes.changes.entries (feed c.args.self.now c.args.position c.args.removed_after) c.requires
    (count-of c.args.most c.saturating_add-count.result (length c.in_ok-changes.changes.entries) c.in_ok-changes.ensures.small c.saturating_add-count.ensures) c.in_ok-changes.ensures.first in
    (c.in_ok-found.ensures.found.0 ∙ same.0, c.in_ok-found.ensures.found.1 ∙ same.1)
