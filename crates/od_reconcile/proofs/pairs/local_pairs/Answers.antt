use Rattle.std.proofs.Common.{◌<◌, ◌+◌, ◌∙◌, List, [], Option, length, drop, filter, arith, ap, refl, subst, sym}
use Rattle.gd_item.specs.declared.digest.Digest.{Digest}
use Rattle.od_merge.specs.Merging.{target}
use Rattle.od_merge.specs.Pairs.{and_pair, local_pairs, pairs_from, source_for}
use Rattle.od_merge.specs.Sides.{digest_of}
use Rattle.od_merge.specs.declared.content.Content.{Content}
use Rattle.od_merge.proofs.Lists.{Path}
use Rattle.od_reconcile.specs.Looks.{merge_sides}
use Rattle.od_reconcile.specs.Moving.{fits_here, is_source_here, is_target_here}
use Rattle.od_reconcile.specs.Queues.{IsQueued, all_sources_here, serves, slot_here}
use Rattle.od_reconcile.proofs.Indexes.{drop-next}
use Rattle.od_reconcile.proofs.Listed.{pairs-step}
use Rattle.od_reconcile.proofs.Queueing.{alike-source, passes-next, sources-rise}
use Rattle.od_reconcile.proofs.Serving.{serves-here, target-here}
use Rattle.od_reconcile.proofs.pairs.local_pairs.Goals as goal

pub loop-to-preserved : goal.loop-to-preserved
loop-to-preserved c =
    let m = merge_sides c.args.look.now.merge.now in
    let sources = all_sources_here m in
    let pairs = c.loop-to.pairs.items in
    let targets = c.as_slice-to-items.result.now in
    let i = c.loop-to.to-index in
    let to = c.to-item.result in
    let less : i < length targets = omega arith in
    let next = drop-next targets i to less c.to-item.is in
    let file = target-here m to (passes-next (is_target_here m) c.args.look.now.paths.keys targets i to (drop (i + 1) targets) (c.as_slice-to-items.ensures.value ∙ c.in_ok-targets.ensures) next) in
    let digest = c.digest_of-digest.ensures ∙ ap (λ (t : Option Content). digest_of t) c.target.ensures in
    let added = c.in_ok-add_pair.ensures.adds (slot_here m) sources (sources-rise (is_source_here m) m) c.loop-to.invariant.1 in
    let alike = ap (λ (d : Option Digest). source_for (λ path other. serves d other (slot_here m path)) sources pairs to) digest
    ∙ alike-source (λ path other. serves (digest_of (target m to)) other (slot_here m path)) (fits_here m) sources pairs to (λ x. serves-here m x to file) in (
      pairs-step (fits_here m) sources pairs c.add_pair.new.pairs.items (source_for (fits_here m) sources pairs to) to (drop i targets) (drop (i + 1) targets) (local_pairs m)
          next refl (added.0 ∙ ap (λ (f : Option Path). and_pair f to pairs) alike) c.loop-to.invariant.0,
      added.1,
    )

pub loop-to-init : goal.loop-to-init
loop-to-init c =
    let m = merge_sides c.args.look.now.merge.now in
    let sources = all_sources_here m in
    let targets = c.as_slice-to-items.ensures.value ∙ (c.in_ok-targets.ensures ∙ ap (λ (ps : List Path). filter (is_target_here m) ps) c.requires.paths) in
    let none = c.new-pairs.ensures.items in (
      ap (λ (ps : List (Path × Path)). pairs_from (fits_here m) sources ps c.as_slice-to-items.result.now) none ∙ ap (λ (ps : List Path). pairs_from (fits_here m) sources [] ps) targets,
      subst (λ (ps : List (Path × Path)). IsQueued (slot_here m) sources ps c.in_ok-queues.queues.entries) (sym none) c.in_ok-queues.ensures,
    )
