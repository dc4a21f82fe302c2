use Rattle.std.proofs.Common.{◌≡◌, drop}
use Rattle.od_mirror.specs.Climbs.{IsKeyed}
use Rattle.od_mirror.specs.Pulled.{with_records}
use Rattle.od_mirror.proofs.mirror.put_records.Given as goal

abbrev pub invariant-loop-record : goal.invariant-loop-record
invariant-loop-record l = record {
  taken : with_records l.items.entries (drop l.record-index l.records) ≡ with_records l.initial.items.entries l.records;
  keyed : IsKeyed l.initial.items.entries → IsKeyed l.items.entries;
}
