use Rattle.std.proofs.Common.{sym, ◌∙◌}
use Rattle.od_tree.specs.Local.{is_path}
use Rattle.od_tree.specs.declared.local.Spot.{Spot}
use Rattle.od_tree.proofs.Removing.{first_at}
use Rattle.od_tree.proofs.spots.index_at.Goals as goal

pub returns-then-is_at-clause-spot : goal.returns-then-is_at-clause-spot
returns-then-is_at-clause-spot c =
    c.loop-index.invariant.2
    ∙ first_at (λ (spot : Spot). is_path spot.path c.args.at.now) c.args.spots.now c.loop-index.index c.index-spots-index.result c.loop-index-test.true c.index-spots-index.is
    (sym c.is_at.ensures ∙ c.if-is_at.true)
