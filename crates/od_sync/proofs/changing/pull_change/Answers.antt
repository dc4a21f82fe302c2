use Rattle.std.proofs.Common.{◌≡◌, refl, ap, Some}
use Rattle.od_sync.specs.PullChanges.{pull_gone, pull_put}
use Rattle.od_sync.proofs.PullWalks.{walked}
use Rattle.od_sync.proofs.changing.pull_change.Goals as goal

pub returns : goal.returns
returns c =
    let gone : c.compare_items.new.gone ≡ pull_gone c.args.kept.now c.args.view.now.items =
    cc (c.in_ok-compare_items.ensures.gone, c.new-gone.ensures, c.as_slice.ensures)
    in
    let put : c.compare_items.new.put ≡ pull_put c.args.kept.now c.args.view.now.items =
    cc (c.in_ok-compare_items.ensures.put, c.new-put.ensures, c.as_slice.ensures)
    in
    record {
      no_reset = refl;
      no_rules = refl;
      token_is = ap (λ text. Some text) c.in_ok-clone.ensures.cases;
      no_dropped = c.new.ensures;
      no_rows = c.new-2.ensures;
      items_are = λ rise view. rw (gone, put) (walked c.args.kept.now c.args.view.now.items rise view);
    }
