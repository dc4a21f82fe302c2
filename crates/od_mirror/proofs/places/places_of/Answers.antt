use Rattle.std.proofs.Common.{arith}
use Rattle.od_mirror.proofs.Lookups.{one-more-place}
use Rattle.od_mirror.proofs.places.places_of.Goals as goal

pub loop-at-preserved : goal.loop-at-preserved
loop-at-preserved c = record {
  low = let low = c.loop-at.invariant.low in omega (arith, low);
  places =
      one-more-place c.args.items.now c.loop-at.at c.index-items-at.result c.loop-at.places.entries c.insert.new.self.entries c.loop-at-test.true c.loop-at.invariant.low c.in_ok-insert.ensures.entries c.loop-at.invariant.places;
}
