use Rattle.std.proofs.Common.{◌≡◌, Err, refl, ap, ◌∙◌}
use Rattle.gd_item.specs.Ids.{item_id}
use Rattle.od_mirror.specs.declared.mirror.PullFault.TheVariants.{BadPages}
use Rattle.od_sync.proofs.PulledViews.{pulls-asked, pulls-view, pulls-bad}
use Rattle.od_sync.proofs.Sends.{none-asked}
use Rattle.od_sync.proofs.pulling.pull.Goals as goal

pub returns-in-Ok-view_after-clause-pulled : goal.returns-in-Ok-view_after-clause-pulled
returns-in-Ok-view_after-clause-pulled g c =
    pulls-view c.args.items c.args.token c.in_ok-asked.asked c.start-mirror.result c.in-Ok.page c.in-Ok-view_after.view (g.R.Remote.log c.args.remote.now) (g.R.Remote.log c.ask_delta.new.remote)
    c.start-mirror.ensures c.in_ok-asked.ensures c.in-Ok.ensures.log c.in-Ok-view_after.ensures.ok

pub returns-in-Err-BadPages-clause-bad : goal.returns-in-Err-BadPages-clause-bad
returns-in-Err-BadPages-clause-bad g c = λ n is.
    let same : c.in-Err-BadPages.id ≡ item_id n = cc is in
    pulls-bad c.args.items c.args.token c.in_ok-asked.asked c.start-mirror.result c.in-Ok.page n (g.R.Remote.log c.args.remote.now) (g.R.Remote.log c.ask_delta.new.remote)
    c.start-mirror.ensures c.in_ok-asked.ensures c.in-Ok.ensures.log
    (c.in-Err-BadPages.ensures.bad n (ap (λ fault. Err fault) (c.in-Err-BadPages.field-0-is ∙ ap (λ id. BadPages id) same)))

pub returns-in_err-asked-clause-asks : goal.returns-in_err-asked-clause-asks
returns-in_err-asked-clause-asks g c = none-asked c.args.token (g.R.Remote.log c.args.remote.now)

pub returns-in-Ok-view_after-clause-asks : goal.returns-in-Ok-view_after-clause-asks
returns-in-Ok-view_after-clause-asks g c =
    pulls-asked c.args.items c.args.token c.in_ok-asked.asked c.start-mirror.result (g.R.Remote.log c.args.remote.now) (g.R.Remote.log c.ask_delta.new.remote) c.start-mirror.ensures c.in_ok-asked.ensures
    (λ is. absurd (cc is)) c.in-Ok.ensures.asks

pub returns-in-Err-BadPages-clause-asks : goal.returns-in-Err-BadPages-clause-asks
returns-in-Err-BadPages-clause-asks g c =
    pulls-asked c.args.items c.args.token c.in_ok-asked.asked c.start-mirror.result (g.R.Remote.log c.args.remote.now) (g.R.Remote.log c.ask_delta.new.remote) c.start-mirror.ensures c.in_ok-asked.ensures
    (λ is. absurd (cc is)) c.in-Ok.ensures.asks

pub returns-in-Err-LinkFault-clause-asks : goal.returns-in-Err-LinkFault-clause-asks
returns-in-Err-LinkFault-clause-asks g c =
    pulls-asked c.args.items c.args.token c.in_ok-asked.asked c.start-mirror.result (g.R.Remote.log c.args.remote.now) (g.R.Remote.log c.ask_delta.new.remote) c.start-mirror.ensures c.in_ok-asked.ensures
    (λ is. absurd (cc (is, c.in-Err-LinkFault.field-0-is))) c.in-Err-LinkFault.ensures.asks

pub returns-in-Err-Unserved-clause-asks : goal.returns-in-Err-Unserved-clause-asks
returns-in-Err-Unserved-clause-asks g c =
    pulls-asked c.args.items c.args.token c.in_ok-asked.asked c.start-mirror.result (g.R.Remote.log c.args.remote.now) (g.R.Remote.log c.ask_delta.new.remote) c.start-mirror.ensures c.in_ok-asked.ensures
    (λ is. absurd (cc (is, c.in-Err-Unserved.field-0-is))) c.in-Err-Unserved.ensures.asks

pub returns-in-Err-Memory-clause-asks : goal.returns-in-Err-Memory-clause-asks
returns-in-Err-Memory-clause-asks g c =
    pulls-asked c.args.items c.args.token c.in_ok-asked.asked c.start-mirror.result (g.R.Remote.log c.args.remote.now) (g.R.Remote.log c.ask_delta.new.remote) c.start-mirror.ensures c.in_ok-asked.ensures
    (λ _. refl) c.in-Err-Memory.ensures.asks

pub returns-clause-asks : goal.returns-clause-asks
returns-clause-asks g c =
    pulls-asked c.args.items c.args.token c.in_ok-asked.asked c.start-mirror.result (g.R.Remote.log c.args.remote.now) (g.R.Remote.log c.ask_delta.new.remote) c.start-mirror.ensures c.in_ok-asked.ensures
    (λ is. absurd (cc is)) c.in-Ok.ensures.asks
