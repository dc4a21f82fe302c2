use Rattle.std.proofs.Common.{◌≡◌, ◌++◌, codes, count_by, drop}
use Rattle.std.specs.List.{flat_map}
use Rattle.gd_item.specs.declared.request.RequestKind.{RequestKind}
use Rattle.od_cli.specs.Runs.{all_kinds, count_text, is_own_of}
use Rattle.od_cli.proofs.counting.print_requests.Given as goal

abbrev pub invariant-loop-kind : goal.invariant-loop-kind
invariant-loop-kind l =
    (l.out ++ flat_map (λ (kind : RequestKind). count_text kind (count_by (is_own_of kind) l.steps)) (drop l.kind-index l.kind-items)
    ≡ (l.fn.out ++ codes "requests") ++ flat_map (λ (kind : RequestKind). count_text kind (count_by (is_own_of kind) l.steps)) all_kinds)
    × (l.kind-items ≡ all_kinds)
