use Rattle.std.proofs.Common.{ap}
use Rattle.std.specs.Vec.{vec_len}
use Rattle.od_synclist.specs.Rules.{rules_of}
use Rattle.od_scan.specs.Visits.{turns}
use Rattle.od_scan.proofs.Ends.{fails}
use Rattle.od_scan.proofs.Finding.{finds-first, finds-last, finds-next, finds-stops, none-left, scanned-stays}
use Rattle.od_scan.proofs.Looking.{stops-short}
use Rattle.od_scan.proofs.scanning.scan.Goals as goal

pub returns-in_err-begin : goal.returns-in_err-begin
returns-in_err-begin g c = rw (fails c.from_residual.ensures) c.in_err-begin.ensures

pub loop-turn-init : goal.loop-turn-init
loop-turn-init g c =
    finds-first (rules_of c.args.rules.now) c.new-found.result.items (turns c.new-waiting.result.items) (turns c.begin.new.waiting.items) c.new-found.ensures.items (ap turns c.new-waiting.ensures.items) c.in_ok-begin.ensures

pub returns-in_err-visit-in-Some : goal.returns-in_err-visit-in-Some
returns-in_err-visit-in-Some g c = rw (fails c.from_residual-in_err-visit-in-Some.ensures)
    (finds-stops g.met.O.Outside.laws (rules_of c.args.rules.now) c.loop-turn.found.items (turns c.loop-turn.waiting.items) c.in_err-visit-in-Some.field-0.0 c.loop-turn.invariant c.in_err-visit-in-Some.ensures)

pub loop-turn-preserved : goal.loop-turn-preserved
loop-turn-preserved g c =
    finds-next g.met.O.Outside.laws (rules_of c.args.rules.now) c.in-Some.next c.loop-turn.found.items c.visit.new.found.items c.loop-turn.waiting.items c.pop.new.self.items c.visit.new.waiting.items
    c.in-Some.ensures.items c.loop-turn.invariant c.in_ok-visit-in-Some.ensures

pub returns-in-None : goal.returns-in-None
returns-in-None g c =
    finds-last (rules_of c.args.rules.now) c.loop-turn.found.items c.from_vec.result c.loop-turn.waiting.items
    (none-left c.loop-turn.waiting.items c.pop.new.self.items (vec_len c.loop-turn.waiting) c.in-None.ensures.items c.in-None.ensures.rest c.in-None.ensures.cases.0) c.from_vec.ensures c.loop-turn.invariant

pub returns : goal.returns
returns g c = stops-short (scanned-stays c.loop-turn.found.items) (λ w k more so_far. so_far.looks) c.loop-turn.invariant
