use Rattle.std.proofs.Common.{ap, List, ◌∙◌}
use Rattle.std.specs.List.{list_any}
use Rattle.od_merge.specs.Sides.{entry_passes, is_from}
use Rattle.od_merge.proofs.Lists.{Path}
use Rattle.od_synclist.specs.Rules.{passes_file}
use Rattle.od_reconcile.proofs.Indexes.{any-passing}
use Rattle.od_reconcile.proofs.side.side_of.Goals as goal

pub returns-clause-ready : goal.returns-clause-ready
returns-clause-ready c = record {
  index = c.in_ok-index.ensures;
  kept = λ path. c.in_ok-kept.ensures path
      ∙ (ap (λ (paths : List Path). list_any (λ other. is_from path other) paths) (c.as_slice.ensures.value ∙ c.in_ok-passing.ensures)
      ∙ any-passing (λ other. is_from path other) (entry_passes (passes_file c.args.rules.now)) c.args.tree.now);
}
