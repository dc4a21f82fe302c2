use Rattle.std.proofs.Common.{ap, sym, ◌∙◌}
use Rattle.std.specs.List.{list_any}
use Rattle.od_mirror.specs.Digests.{is_unknown}
use Rattle.od_mirror.proofs.Learned.{none-learned}
use Rattle.od_mirror.proofs.view.MirrorView.learn.Goals as goal

pub returns-then-not-has_unknown-clause-learnt : goal.returns-then-not-has_unknown-clause-learnt
returns-then-not-has_unknown-clause-learnt c =
    none-learned c.args.id c.args.etag.now c.args.digest c.args.self.now.items
    (ap (list_any (is_unknown c.args.id c.args.etag.now)) (sym c.as_slice.ensures) ∙ sym c.has_unknown.ensures ∙ c.if-not-has_unknown.true)
