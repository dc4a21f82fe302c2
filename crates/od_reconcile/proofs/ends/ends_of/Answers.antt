use Rattle.std.proofs.Common.{◌∙◌, ap, sym, List}
use Rattle.od_merge.specs.Core.{is_in}
use Rattle.od_merge.proofs.Lists.{Path}
use Rattle.od_reconcile.proofs.PairFacts.{from-in}
use Rattle.od_reconcile.proofs.ends.ends_of.Goals as goal

pub returns-clause-ready : goal.returns-clause-ready
returns-clause-ready c = record {
  froms = λ path. c.in_ok-froms.ensures path ∙ (ap (λ (ps : List Path). is_in path ps) (c.as_slice.ensures.value ∙ c.in_ok-found.ensures) ∙ sym (from-in c.args.pairs.now path));
  tos = c.in_ok-tos.ensures;
}
