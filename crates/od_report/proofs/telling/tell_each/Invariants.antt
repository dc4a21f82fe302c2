use Rattle.od_report.specs.Told.{Told}
use Rattle.od_report.proofs.Progress.{Progress}
use Rattle.od_report.proofs.telling.tell_each.Given as goal

abbrev pub invariant-loop-listener : goal.invariant-loop-listener
invariant-loop-listener g l = Progress (λ before after. Told l.event ((goal.Listener-dyn g (before.vtable, before.value)).list before.value) ((goal.Listener-dyn g (after.vtable, after.value)).list after.value)
    ((goal.Listener-dyn g (before.vtable, before.value)).count before.value) ((goal.Listener-dyn g (after.vtable, after.value)).count after.value)) l.listener-index l.fn.listeners l.listeners
