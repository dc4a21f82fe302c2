use Rattle.std.proofs.Common.{◌≡◌}
use Rattle.od_mirror.specs.Climbs.{IsKeyed}
use Rattle.od_mirror.specs.Pulled.{with_records}
use Rattle.od_mirror.proofs.mirror.take_records.Given as goal

abbrev pub invariant-loop-record : goal.invariant-loop-record
invariant-loop-record l = record {
  taken : l.items.entries ≡ with_records l.initial.items.entries l.yielded;
  keyed : IsKeyed l.initial.items.entries → IsKeyed l.items.entries;
}
