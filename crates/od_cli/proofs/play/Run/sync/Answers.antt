use Rattle.std.proofs.Common.{◌≡◌, ◌++◌}
use Rattle.od_cli.specs.Runs.{Run, sync_text}
use Rattle.od_cli.specs.RunStates.{PlaysTo, StandsFor}
use Rattle.od_cli.specs.declared.line.Line.TheVariants.{Sync}
use Rattle.od_cli.proofs.Asking.{ok-gives}
use Rattle.od_cli.proofs.Syncing.{sync-plays}
use Rattle.od_cli.proofs.play.Run.sync.Goals as goal

pub returns-in_default-clause-plays : goal.returns-in_default-clause-plays
returns-in_default-clause-plays c =
    let self = c.args.self.now in
    let after = c.sync_now-end.new in
    let left = c.set_page.new.self in
    ok-gives c.print_end.result (c.print_end.new.out ≡ c.args.out.now ++ sync_text c.sync_now-end.result)
    ((value : Run) → StandsFor self.world self.folder self.keeper self.counted self.followed value → PlaysTo left after.tree after.keeper self.counted self.followed value Sync c.args.out.now c.print_end.new.out) c.print_end.ensures
    (λ printed value stands. sync-plays self.world after.remote self.folder after.tree self.keeper after.keeper c.sync_now-end.result c.sync_now-end.ensures.told c.sync_now-end.ensures.causes c.sync_now-end.ensures.remote_alone c.sync_now-end.ensures.no_faults
    c.sync_now-end.ensures.tree_alone c.sync_now-end.ensures.keeper_alone self.counted self.followed c.requires value stands left c.args.out.now c.print_end.new.out c.set_page.ensures c.in_default.not-Memory printed)
