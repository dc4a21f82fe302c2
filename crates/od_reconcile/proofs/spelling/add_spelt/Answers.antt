use Rattle.std.proofs.Common.{◌∙◌, Option, ap}
use Rattle.od_reconcile.specs.Holding.{Spelt, lower_path, spelt_more}
use Rattle.od_reconcile.proofs.Spellings.{put-spelt}
use Rattle.od_reconcile.proofs.spelling.add_spelt.Goals as goal

pub returns : goal.returns
returns c = λ from to.
    put-spelt c.args.path.now c.in_ok-key.key from to c.in_ok-more.more c.args.index.now.entries c.insert.new.self.entries c.in_ok-key.ensures
    (c.in_ok-more.ensures ∙ ap (λ (s : Option Spelt). spelt_more s c.args.path.now) c.get.ensures.value) (c.in_ok-insert.ensures.updates.0 (lower_path from))
