use Rattle.std.proofs.Common.{◌<◌, ◌+◌, ◌&&◌, not, length, drop, arith}
use Rattle.std.specs.List.{list_any}
use Rattle.od_merge.specs.Sides.{is_path}
use Rattle.od_merge.proofs.Lists.{Path}
use Rattle.od_reconcile.specs.Holding.{has_other, lower_path, same_caseless_path, stands_at}
use Rattle.od_reconcile.proofs.Indexes.{drop-next}
use Rattle.od_reconcile.proofs.Spellings.{any-more}
use Rattle.od_reconcile.proofs.spelling.spelt_of.Goals as goal

pub loop-path-preserved : goal.loop-path-preserved
loop-path-preserved c = λ from to.
    let paths = c.args.paths.now in
    let i = c.loop-path.path-index in
    let less : i < length paths = omega arith in
    any-more (λ (other : Path). not (is_path other to) && same_caseless_path other from)
    (has_other (stands_at c.loop-path.index.entries (lower_path from)) to) (has_other (stands_at c.add_spelt.new.index.entries (lower_path from)) to)
    (list_any (λ (other : Path). not (is_path other to) && same_caseless_path other from) paths) c.path-item.result (drop i paths) (drop (i + 1) paths)
    (drop-next paths i c.path-item.result less c.path-item.is) (c.loop-path.invariant from to) (c.in_ok-add_spelt.ensures from to)
