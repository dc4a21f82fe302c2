use Rattle.std.proofs.Common.{rules, refl}
use Rattle.od_report.proofs.Progress.{one_done, stopped, on_err}
use Rattle.od_report.proofs.telling.tell_each.Goals as goal

pub returns-in_err-tell_one-clause-err : goal.returns-in_err-tell_one-clause-err
returns-in_err-tell_one-clause-err g c =
    on_err _ _ (stopped _ _ c.args.listeners.now c.loop-listener.listeners c.loop-listener.listener-index c.listener-item.result c.tell_one.new.listener (search rules)
    c.loop-listener.invariant c.in_err-tell_one.ensures.err (λ z. record { list = refl; count = refl }))

pub loop-listener-preserved : goal.loop-listener-preserved
loop-listener-preserved g c =
    one_done _ c.args.listeners.now c.loop-listener.listeners c.loop-listener.listener-index c.listener-item.result c.tell_one.new.listener (search rules)
    c.loop-listener.invariant c.in_ok-tell_one.ensures.ok
