use Rattle.std.proofs.Common.{count_by, refl}
use Rattle.gd_item.specs.declared.request.RequestKind.{RequestKind}
use Rattle.od_cli.specs.Runs.{all_kinds, count_text, is_own_of}
use Rattle.od_cli.proofs.Tallies.{next-kind}
use Rattle.od_cli.proofs.counting.print_requests.Goals as goal

pub loop-kind-preserved : goal.loop-kind-preserved
loop-kind-preserved c = (
  next-kind (λ (kind : RequestKind). count_text kind (count_by (is_own_of kind) c.args.steps.now)) c.loop-kind.out c.print_kind.new.out _ all_kinds c.loop-kind.kind-index _ _ c.loop-kind-test.true refl c.in_ok-print_kind.ensures c.loop-kind.invariant.0,
  refl,
)
