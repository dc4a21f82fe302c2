use Rattle.std.proofs.Common.{◌≡◌}
use Rattle.od_tree.specs.Listing.{entries_in}
use Rattle.od_tree.specs.declared.step.TreeOp.TheVariants as op
use Rattle.od_sync.proofs.Looks.{listing-below, listing-once, looks-ok, looks-err, shows-list, shows-no-list}
use Rattle.od_sync.proofs.scanning.look_at_folder.Goals as goal

pub returns-in-Ok-clause-log : goal.returns-in-Ok-clause-log
returns-in-Ok-clause-log g c =
    looks-ok 1 (op.List c.args.at.now) (λ local entries. entries ≡ entries_in c.args.at.now local.spots) (g.T.Tree.log c.args.tree.now) (g.T.Tree.log c.list.new.self) c.in-Ok.entries tt (listing-once c.args.at.now) c.in-Ok.ensures.log

pub returns-in-Err-Missing-clause-log : goal.returns-in-Err-Missing-clause-log
returns-in-Err-Missing-clause-log g c =
    looks-err 1 (op.List c.args.at.now) (λ local entries. entries ≡ entries_in c.args.at.now local.spots) (g.T.Tree.log c.args.tree.now) (g.T.Tree.log c.list.new.self) c.in-Err-Missing.field-0 tt (listing-once c.args.at.now) c.in-Err-Missing.ensures.log

pub returns-in-Err-Failed-clause-log : goal.returns-in-Err-Failed-clause-log
returns-in-Err-Failed-clause-log g c =
    looks-err 1 (op.List c.args.at.now) (λ local entries. entries ≡ entries_in c.args.at.now local.spots) (g.T.Tree.log c.args.tree.now) (g.T.Tree.log c.list.new.self) c.in-Err-Failed.field-0 tt (listing-once c.args.at.now) c.in-Err-Failed.ensures.log

pub returns-in-Err-Memory-clause-log : goal.returns-in-Err-Memory-clause-log
returns-in-Err-Memory-clause-log g c =
    looks-err 1 (op.List c.args.at.now) (λ local entries. entries ≡ entries_in c.args.at.now local.spots) (g.T.Tree.log c.args.tree.now) (g.T.Tree.log c.list.new.self) c.in-Err-Memory.field-0 tt (listing-once c.args.at.now) c.in-Err-Memory.ensures.log

pub returns-in-Ok-clause-below : goal.returns-in-Ok-clause-below
returns-in-Ok-clause-below g c named =
    looks-ok 0 (op.List c.args.at.now) (λ local entries. entries ≡ entries_in c.args.at.now local.spots) (g.T.Tree.log c.args.tree.now) (g.T.Tree.log c.list.new.self) c.in-Ok.entries tt (listing-below c.args.at.now named) c.in-Ok.ensures.log

pub returns-in-Err-Missing-clause-below : goal.returns-in-Err-Missing-clause-below
returns-in-Err-Missing-clause-below g c named =
    looks-err 0 (op.List c.args.at.now) (λ local entries. entries ≡ entries_in c.args.at.now local.spots) (g.T.Tree.log c.args.tree.now) (g.T.Tree.log c.list.new.self) c.in-Err-Missing.field-0 tt (listing-below c.args.at.now named) c.in-Err-Missing.ensures.log

pub returns-in-Err-Failed-clause-below : goal.returns-in-Err-Failed-clause-below
returns-in-Err-Failed-clause-below g c named =
    looks-err 0 (op.List c.args.at.now) (λ local entries. entries ≡ entries_in c.args.at.now local.spots) (g.T.Tree.log c.args.tree.now) (g.T.Tree.log c.list.new.self) c.in-Err-Failed.field-0 tt (listing-below c.args.at.now named) c.in-Err-Failed.ensures.log

pub returns-in-Err-Memory-clause-below : goal.returns-in-Err-Memory-clause-below
returns-in-Err-Memory-clause-below g c named =
    looks-err 0 (op.List c.args.at.now) (λ local entries. entries ≡ entries_in c.args.at.now local.spots) (g.T.Tree.log c.args.tree.now) (g.T.Tree.log c.list.new.self) c.in-Err-Memory.field-0 tt (listing-below c.args.at.now named) c.in-Err-Memory.ensures.log

pub returns-in-Ok-clause-found : goal.returns-in-Ok-clause-found
returns-in-Ok-clause-found g c = shows-list c.args.at.now (g.T.Tree.log c.args.tree.now) (g.T.Tree.log c.list.new.self) c.in-Ok.entries c.in-Ok.ensures.log

pub returns-in-Err-Missing-clause-found : goal.returns-in-Err-Missing-clause-found
returns-in-Err-Missing-clause-found g c =
    shows-no-list c.args.at.now (g.T.Tree.log c.args.tree.now) (g.T.Tree.log c.list.new.self) c.in-Err-Missing.field-0 c.in-Err-Missing.field-0-is c.in-Err-Missing.ensures.log
