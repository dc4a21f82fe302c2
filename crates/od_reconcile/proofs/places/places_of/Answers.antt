use Rattle.std.proofs.Common.{◌+◌, drop}
use Rattle.std.proofs.lemmas.List.{drop_all}
use Rattle.od_reconcile.specs.Holding.{stands_at}
use Rattle.od_reconcile.specs.Places.{place_of}
use Rattle.od_reconcile.proofs.Indexes.{drop-next}
use Rattle.od_reconcile.proofs.Placing.{place-first, place-last, place-more}
use Rattle.od_reconcile.proofs.places.places_of.Goals as goal

pub loop-place-init : goal.loop-place-init
loop-place-init c = λ q. place-first q c.args.renames.now c.new-places.result.entries c.new-places.ensures.empty

pub loop-place-preserved : goal.loop-place-preserved
loop-place-preserved c = λ q.
    let renames = c.args.renames.now in
    let i = c.loop-place.place in
    let rename = c.index-renames-place.result in
    place-more q i (stands_at c.loop-place.places.entries q) (stands_at c.put_absent.new.places.entries q) (place_of renames q) rename (drop i renames) (drop (i + 1) renames)
    (drop-next renames i rename c.loop-place-test.true c.index-renames-place.is) (c.loop-place.invariant q) (c.in_ok-put_absent.ensures q)

pub returns : goal.returns
returns c = λ q.
    let renames = c.args.renames.now in
    let i = c.loop-place.place in
    place-last q i (stands_at c.loop-place.places.entries q) (place_of renames q) (drop i renames) (drop_all i renames c.loop-place-test.false) (c.loop-place.invariant q)
