use Rattle.std.proofs.Common.{◌<◌, ◌+◌, ◌&&◌, length, drop, arith}
use Rattle.std.specs.List.{list_any}
use Rattle.std.specs.Ordering.{is_lt}
use Rattle.gd_names.specs.Ordered.{path_cmp}
use Rattle.od_merge.proofs.Lists.{Path}
use Rattle.od_reconcile.specs.Holding.{is_before, lower_path, same_caseless_path, stands_at}
use Rattle.od_reconcile.proofs.Indexes.{drop-next}
use Rattle.od_reconcile.proofs.Spellings.{any-more}
use Rattle.od_reconcile.proofs.spelling.least_of.Goals as goal

pub loop-path-preserved : goal.loop-path-preserved
loop-path-preserved c = λ q.
    let paths = c.args.paths.now in
    let i = c.loop-path.path-index in
    let less : i < length paths = omega arith in
    any-more (λ (other : Path). same_caseless_path other q && is_lt (path_cmp other q))
    (is_before (stands_at c.loop-path.index.entries (lower_path q)) q) (is_before (stands_at c.add_least.new.index.entries (lower_path q)) q)
    (list_any (λ (other : Path). same_caseless_path other q && is_lt (path_cmp other q)) paths) c.path-item.result (drop i paths) (drop (i + 1) paths)
    (drop-next paths i c.path-item.result less c.path-item.is) (c.loop-path.invariant q) (c.in_ok-add_least.ensures q)
