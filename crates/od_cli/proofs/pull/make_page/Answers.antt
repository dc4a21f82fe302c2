use Rattle.std.proofs.Common.{refl}
use Rattle.od_cli.proofs.Pulls.{items-are, reached}
use Rattle.od_cli.proofs.pull.make_page.Goals as goal

pub returns-clause-items : goal.returns-clause-items
returns-clause-items c =
    λ log holds.
    let counted = c.number-number.ensures log holds.0 holds.1 holds.2 in
    let found = c.in_ok-items.ensures.complete log holds.0 holds.1 holds.2 (reached c.args.store.now log holds.0 holds.1 c.number-number.result holds.2 counted) in
    items-are c.in_ok-items.items c.in_ok-items.more c.number-number.result 18446744073709551615 log counted found.0 found.1 (c.in_ok-items.ensures.whole refl)
