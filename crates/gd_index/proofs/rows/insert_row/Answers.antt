use Rattle.std.proofs.Common.{◌≡◌, ℕ, List, Some, None, ap, subst, ◌∙◌}
use Rattle.gd_index.specs.declared.row.Row.{Row}
use Rattle.gd_index.specs.Indexed.{Puts, spot_cmp, spot_of}
use Rattle.gd_index.proofs.Steps.{inserted, inserted-items, put-back}
use Rattle.gd_index.proofs.rows.insert_row.Goals as goal

pub returns-in-Ok-clause-indexed : goal.returns-in-Ok-clause-indexed
returns-in-Ok-clause-indexed c =
    let row : Row = record { item = c.args.item; spot = c.args.spot; digest = c.digest_of_bytes-digest.result } in
    inserted c.args.rows.now.entries c.insert.new.self.entries c.args.names.now.entries c.add_keys.new.names.entries c.args.changes.now.entries c.add_keys.new.changes.entries row
    c.requires.indexed c.requires.spot c.digest_of_bytes-digest.ensures c.requires.above c.requires.fresh c.requires.free
    c.in-Ok.ensures.entries (record { here = c.in-Ok.ensures.updates.1; each = c.in-Ok.ensures.updates.0 }) c.in-Ok.ensures.ordered
    (subst (λ (s : ℕ × List ℕ). Puts spot_cmp s (Some c.args.item.number) c.args.names.now.entries c.add_keys.new.names.entries) c.requires.key c.in_ok-add_keys.ensures.names) c.in_ok-add_keys.ensures.changes

pub returns-in-Ok-clause-ok : goal.returns-in-Ok-clause-ok
returns-in-Ok-clause-ok c =
    let row : Row = record { item = c.args.item; spot = c.args.spot; digest = c.digest_of_bytes-digest.result } in
    inserted-items c.args.rows.now.entries c.insert.new.self.entries row c.requires.indexed.lined c.requires.above c.in-Ok.ensures.entries

pub returns-clause-indexed : goal.returns-clause-indexed
returns-clause-indexed c =
    let back : c.in-Err.failed.value.1.spot ≡ spot_of c.args.item = ap (λ (e : ℕ × Row). e.1.spot) c.in-Err.ensures.value_returned ∙ c.requires.spot in
    put-back c.args.rows.now.entries c.insert.new.self.entries c.args.names.now.entries c.add_keys.new.names.entries c.drop_keys.new.names.entries
    c.args.changes.now.entries c.add_keys.new.changes.entries c.drop_keys.new.changes.entries (spot_of c.args.item) c.args.item.change c.args.item.number
    c.requires.indexed c.in-Err.ensures.err c.requires.fresh c.requires.free
    (subst (λ (s : ℕ × List ℕ). Puts spot_cmp s (Some c.args.item.number) c.args.names.now.entries c.add_keys.new.names.entries) c.requires.key c.in_ok-add_keys.ensures.names) c.in_ok-add_keys.ensures.changes
    (subst (λ (s : ℕ × List ℕ). Puts spot_cmp s None c.add_keys.new.names.entries c.drop_keys.new.names.entries) back c.drop_keys.ensures.names) c.drop_keys.ensures.changes
