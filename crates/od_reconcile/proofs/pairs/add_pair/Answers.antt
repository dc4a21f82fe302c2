use Rattle.std.proofs.Common.{◌∙◌, List, Option, ap, subst, sym}
use Rattle.od_merge.specs.Pairs.{and_pair}
use Rattle.od_merge.proofs.Lists.{Path}
use Rattle.od_reconcile.specs.Queues.{IsQueued}
use Rattle.od_reconcile.proofs.pairs.add_pair.Goals as goal

pub returns : goal.returns
returns c = record {
  adds = λ slots sources rise has.
      let pairs = c.args.pairs.now.items in
      let to = c.args.to.now in
      let taken = c.in_ok-from.ensures.takes slots sources pairs rise has in (
        c.in_ok-push_pair.ensures ∙ ap (λ (f : Option Path). and_pair f to pairs) taken.first,
        subst (λ (ps : List (Path × Path)). IsQueued slots sources ps c.take_source.new.queues.entries) (sym c.in_ok-push_pair.ensures) taken.left,
      );
}
