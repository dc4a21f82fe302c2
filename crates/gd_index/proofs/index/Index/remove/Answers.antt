use Rattle.gd_index.specs.Indexed.{items_in}
use Rattle.gd_index.proofs.Counting.{removed-count, kept-count}
use Rattle.gd_index.proofs.index.Index.remove.Goals as goal

pub invariant_of-self : goal.invariant_of-self
invariant_of-self c = record {
  maps = c.remove_row.ensures.indexed;
  counted = kept-count c.self.inside.counts.entries c.self.inside.rows.entries (items_in c.remove_row.new.rows.entries) c.args.number c.self.invariant.counted c.self.invariant.maps.lined c.in-None.ensures.item c.in-None.ensures.others;
}

pub invariant_of-self-in-Some : goal.invariant_of-self-in-Some
invariant_of-self-in-Some c = record {
  maps = c.remove_row.ensures.indexed;
  counted =
      removed-count c.self.inside.counts.entries c.count_less.new.counts.entries c.self.inside.rows.entries (items_in c.remove_row.new.rows.entries) c.args.number c.in-Some.item
      c.self.invariant.counted c.self.invariant.maps.lined c.self.invariant.maps.rises c.in-Some.ensures.item c.count_less.ensures c.in-Some.ensures.others;
}
