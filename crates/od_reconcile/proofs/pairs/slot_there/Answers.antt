use Rattle.std.proofs.Common.{◌≡◌, ◌∙◌, Bool, false, Option, None, cond, ap, sym}
use Rattle.std.specs.Option.{option_copied}
use Rattle.gd_item.specs.declared.digest.Digest.{Digest}
use Rattle.od_merge.specs.Merging.{is_going}
use Rattle.od_merge.specs.Pairs.{folder_of}
use Rattle.od_merge.specs.Sides.{digest_of}
use Rattle.od_merge.specs.declared.content.Content.{Content}
use Rattle.od_merge.proofs.Lists.{Path}
use Rattle.od_reconcile.specs.Holding.{Spelt, limiter_sides, lower_path, stands_at}
use Rattle.od_reconcile.specs.Queues.{slot_by}
use Rattle.od_reconcile.proofs.Listed.{side-there}
use Rattle.od_reconcile.proofs.pairs.slot_there.Goals as goal

pub is_going-requires-clause-one : goal.is_going-requires-clause-one
is_going-requires-clause-one c = side-there (limiter_sides c.args.limiter.now)

pub returns : goal.returns
returns c =
    let m = limiter_sides c.args.limiter.now in
    let coming = c.args.coming.now.entries in
    let path = c.args.path.now in
    let stays : is_going m m.remote (folder_of path) ≡ false =
    sym (c.is_going.ensures ∙ ap (λ (f : Path). is_going m m.remote f) c.in_ok-folder.ensures) ∙ c.if-is_going.false in
    let digest = c.digest_of.ensures ∙ ap (λ (t : Option Content). digest_of t) c.base_at.ensures in
    let spelt = c.get.ensures.value ∙ ap (λ (k : Path). stands_at coming k) c.in_ok-key.ensures in
    c.in_ok-slot.ensures
    ∙ (ap (λ (d : Option Digest). slot_by d (option_copied c.get.result)) digest
    ∙ (ap (λ (s : Option Spelt). slot_by (digest_of (m.base path)) s) spelt
    ∙ sym (ap (λ (b : Bool). cond b None (slot_by (digest_of (m.base path)) (stands_at coming (lower_path path)))) stays)))
