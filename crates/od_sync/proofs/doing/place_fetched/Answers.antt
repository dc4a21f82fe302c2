use Rattle.std.proofs.Common.{[], ◌∷◌, Some, ap, sym, ◌∙◌}
use Rattle.std.specs.Option.{option_copied}
use Rattle.od_sync.proofs.Placed.{given-one, given-refused}
use Rattle.od_sync.proofs.doing.place_fetched.Goals as goal

pub returns-in_ok-placed_row-in-Some-clause-rows : goal.returns-in_ok-placed_row-in-Some-clause-rows
returns-in_ok-placed_row-in-Some-clause-rows g c =
    given-one c.args.fetch.now c.as_slice.result.now c.in_ok-placed_row-in-Some.field-0 (g.T.Tree.log c.args.tree.now) (g.T.Tree.log c.place_file.new.tree) c.in_ok-place_file-in-Some.field-0 c.if-branch.true
    c.in_ok-placed_row-in-Some.ensures (c.requires.fit c.as_slice.result.now (ap option_copied c.in-Some.is ∙ ap (λ bytes. Some bytes) (sym c.as_slice.ensures))) c.in_ok-place_file-in-Some.ensures.just

pub returns-else-branch-clause-rows : goal.returns-else-branch-clause-rows
returns-else-branch-clause-rows g c =
    given-refused ((c.args.fetch.now.path, c.as_slice.result.now) ∷ []) (g.T.Tree.log c.args.tree.now) (g.T.Tree.log c.place_file.new.tree) c.in_ok-place_file-in-Some.field-0 c.if-branch.false
    c.in_ok-place_file-in-Some.ensures.just
