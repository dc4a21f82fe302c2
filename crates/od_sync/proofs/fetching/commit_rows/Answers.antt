use Rattle.od_sync.proofs.Batched.{commits-rows}
use Rattle.od_sync.proofs.KeptImages.{kept-rows}
use Rattle.od_sync.proofs.RowsPut.{rows-applied}
use Rattle.od_sync.proofs.fetching.commit_rows.Goals as goal

pub returns-in-Ok-clause-commits : goal.returns-in-Ok-clause-commits
returns-in-Ok-clause-commits g c =
    commits-rows c.args.image c.args.rows c.change_of_rows-change.result c.in-Ok.next (g.K.Keeper.images c.args.keeper.now) (g.K.Keeper.images c.commit.new.keeper) c.in-Ok.next c.change_of_rows-change.ensures
    c.in-Ok.ensures.next c.in-Ok.ensures.images

pub returns-in-Ok-clause-tokens : goal.returns-in-Ok-clause-tokens
returns-in-Ok-clause-tokens g c =
    kept-rows c.args.image c.args.rows c.change_of_rows-change.result c.in-Ok.next (g.K.Keeper.images c.args.keeper.now) (g.K.Keeper.images c.commit.new.keeper) c.change_of_rows-change.ensures c.in-Ok.ensures.next
    (commits-rows c.args.image c.args.rows c.change_of_rows-change.result c.in-Ok.next (g.K.Keeper.images c.args.keeper.now) (g.K.Keeper.images c.commit.new.keeper) c.in-Ok.next c.change_of_rows-change.ensures
    c.in-Ok.ensures.next c.in-Ok.ensures.images)

pub returns-in-Ok-clause-rows : goal.returns-in-Ok-clause-rows
returns-in-Ok-clause-rows g c = rows-applied c.args.image c.args.rows c.change_of_rows-change.result c.in-Ok.next c.change_of_rows-change.ensures c.in-Ok.ensures.next
