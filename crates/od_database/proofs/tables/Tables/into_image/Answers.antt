use Rattle.std.proofs.Common.{rules, of_calls}
use Rattle.std.proofs.lemmas.Fn.{always_returns_same}
use Rattle.od_database.proofs.Unique.{by-path-ranks, no-items, no-rows}
use Rattle.od_database.proofs.tables.Tables.into_image.Goals as goal
use Rattle.od_database.proofs.tables.Tables.into_image.Goals.{then-not-items_ascend-via-then-not-items_ascend, then-not-items_ascend-via-else-not-items_ascend+then-not-rows_ascend}

pub returns-then-not-items_ascend-clause-refused : goal.returns-then-not-items_ascend-clause-refused
returns-then-not-items_ascend-clause-refused c _ image is =
    elim c.then-not-items_ascend.branch [
      | then-not-items_ascend-via-then-not-items_ascend w ↦ no-items c.args.self image c.in_ok-items.items is (search rules) (search rules)
      | then-not-items_ascend-via-else-not-items_ascend+then-not-rows_ascend w ↦
          no-rows c.args.self image c.in_ok-bases.bases.items c.sort_by.new.self.items is (search rules) c.sort_by.ensures.permutation
          (c.in_ok-sort_by.ensures.sorted _ by-path-ranks (always_returns_same _ _ _ (λ a r f k. search (rules, of_calls)))) (search rules)
    ]
