use Rattle.std.proofs.Common.{◌<◌, ◌+◌, ◌∙◌, List, [], Option, length, drop, filter, arith, ap, refl, subst, sym}
use Rattle.gd_item.specs.declared.digest.Digest.{Digest}
use Rattle.od_merge.specs.Merging.{target}
use Rattle.od_merge.specs.Pairs.{and_pair, drive_pairs, may_move, pairs_from, source_for}
use Rattle.od_merge.specs.Sides.{digest_of}
use Rattle.od_merge.specs.declared.content.Content.{Content}
use Rattle.od_merge.proofs.Lists.{Path}
use Rattle.od_reconcile.specs.Holding.{limiter_limits, limiter_sides}
use Rattle.od_reconcile.specs.Moving.{is_source_there, is_target_there}
use Rattle.od_reconcile.specs.Queues.{IsQueued, all_sources_there, serves, slot_there}
use Rattle.od_reconcile.proofs.Indexes.{drop-next}
use Rattle.od_reconcile.proofs.Listed.{pairs-step}
use Rattle.od_reconcile.proofs.Queueing.{alike-source, passes-next, sources-rise}
use Rattle.od_reconcile.proofs.Serving.{serves-there, target-there}
use Rattle.od_reconcile.proofs.pairs.drive_pairs.Goals as goal

pub loop-to-preserved : goal.loop-to-preserved
loop-to-preserved c =
    let limits = limiter_limits c.args.limiter.now in
    let m = limiter_sides c.args.limiter.now in
    let coming = c.in_ok-coming.coming.entries in
    let sources = all_sources_there m in
    let pairs = c.loop-to.pairs.items in
    let targets = c.as_slice-to-items.result.now in
    let i = c.loop-to.to-index in
    let to = c.to-item.result in
    let less : i < length targets = omega arith in
    let next = drop-next targets i to less c.to-item.is in
    let file = target-there limits m to (passes-next (is_target_there limits m) c.args.limiter.now.look.now.paths.keys targets i to (drop (i + 1) targets) (c.as_slice-to-items.ensures.value ∙ c.in_ok-targets.ensures) next) in
    let digest = c.digest_of-digest.ensures ∙ ap (λ (t : Option Content). digest_of t) c.target.ensures in
    let added = c.in_ok-add_pair.ensures.adds (slot_there m coming) sources (sources-rise (is_source_there m) m) c.loop-to.invariant.1 in
    let alike = ap (λ (d : Option Digest). source_for (λ path other. serves d other (slot_there m coming path)) sources pairs to) digest
    ∙ alike-source (λ path other. serves (digest_of (target m to)) other (slot_there m coming path)) (may_move limits m) sources pairs to
    (λ x. serves-there limits m coming x to (λ a b. refl) c.in_ok-coming.ensures file) in (
      pairs-step (may_move limits m) sources pairs c.add_pair.new.pairs.items (source_for (may_move limits m) sources pairs to) to (drop i targets) (drop (i + 1) targets) (drive_pairs limits m)
          next refl (added.0 ∙ ap (λ (f : Option Path). and_pair f to pairs) alike) c.loop-to.invariant.0,
      added.1,
    )

pub loop-to-init : goal.loop-to-init
loop-to-init c =
    let limits = limiter_limits c.args.limiter.now in
    let m = limiter_sides c.args.limiter.now in
    let sources = all_sources_there m in
    let targets = c.as_slice-to-items.ensures.value ∙ (c.in_ok-targets.ensures ∙ ap (λ (ps : List Path). filter (is_target_there limits m) ps) c.requires.ready.paths) in
    let none = c.new-pairs.ensures.items in (
      ap (λ (ps : List (Path × Path)). pairs_from (may_move limits m) sources ps c.as_slice-to-items.result.now) none ∙ ap (λ (ps : List Path). pairs_from (may_move limits m) sources [] ps) targets,
      subst (λ (ps : List (Path × Path)). IsQueued (slot_there m c.in_ok-coming.coming.entries) sources ps c.in_ok-queues.queues.entries) (sym none) c.in_ok-queues.ensures,
    )
