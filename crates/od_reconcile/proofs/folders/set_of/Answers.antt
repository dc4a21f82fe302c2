use Rattle.std.proofs.Common.{◌∙◌, ap, List}
use Rattle.od_merge.specs.Core.{is_in}
use Rattle.od_merge.specs.Merging.{in_order_from}
use Rattle.od_merge.proofs.Lists.{Path, in-order}
use Rattle.od_reconcile.proofs.folders.set_of.Goals as goal

pub returns : goal.returns
returns c = λ path. ap (λ (keys : List Path). is_in path keys) (c.in_ok-add_all.ensures ∙ ap (λ (keys : List Path). in_order_from keys c.args.marked.now) c.new-found.ensures.empty) ∙ in-order path c.args.marked.now
