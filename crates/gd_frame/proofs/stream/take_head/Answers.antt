use Rattle.std.proofs.Common.{◌≡◌, true, false, ◌+◌, ◌-◌, ◌<◌, ◌≤◌, ◌++◌, length, take, sym, ap, subst, ◌∙◌, arith, length-append}
use Rattle.std.proofs.lemmas.List.{length-take-le}
use Rattle.gd_frame.specs.Syntax.{syntax_of}
use Rattle.gd_frame.specs.Scanning.{IsFramed}
use Rattle.gd_frame.proofs.Heads.{plain, within, not_yet, awaits, stops, whole}
use Rattle.gd_frame.proofs.Streams.{ends_later, with_piece}
use Rattle.gd_frame.specs.Messages.{HasOpenHead}
use Rattle.gd_frame.specs.Spots.{spot_of, is_known}
use Rattle.gd_frame.proofs.Holding.{known_need, known_long, unknown_never}
use Rattle.gd_frame.proofs.stream.take_head.Goals as goal

pub returns-then-total-end : goal.returns-then-total-end
returns-then-total-end c =
    let s = syntax_of c.args.kind in
    let p = plain c.args.kind in
    let all = c.args.held.now.items ++ c.args.piece.now in
    let end = c.in-Framed.end in
    let body = c.in-Framed.body in
    let items = c.in_ok-extend_from_slice.ensures.items in
    let f = subst (λ b. IsFramed s b end body) (c.as_slice.ensures.value ∙ items) c.in-Framed.ensures in
    let lacks : length all < end + body = omega (arith, within s p all end body f, c.if-total-end.true, ap length (c.as_slice-total.ensures.value ∙ items)) in
    (not_yet s p all end body f lacks, awaits s p all end body f lacks, items, (rw items lacks, subst (λ b. IsFramed s b end body) (sym items) f))

pub overflow_sub-result : goal.overflow_sub-result
overflow_sub-result c =
    let s = syntax_of c.args.kind in
    let p = plain c.args.kind in
    let held = c.args.held.now.items in
    let all = held ++ c.args.piece.now in
    let end = c.in-Framed.end in
    let body = c.in-Framed.body in
    let items = c.in_ok-extend_from_slice.ensures.items in
    let f = subst (λ b. IsFramed s b end body) (c.as_slice.ensures.value ∙ items) c.in-Framed.ensures in
    let enough : end + body ≤ length all = omega (arith, within s p all end body f, c.if-total-end.false, ap length (c.as_slice-total.ensures.value ∙ items)) in
    omega (arith, ap length c.as_slice-before.ensures.value, ends_later s held c.args.piece.now (end + body) c.requires.1 (whole s p all end body f enough))

pub returns-else-total-end : goal.returns-else-total-end
returns-else-total-end c =
    let s = syntax_of c.args.kind in
    let p = plain c.args.kind in
    let held = c.args.held.now.items in
    let all = held ++ c.args.piece.now in
    let end = c.in-Framed.end in
    let body = c.in-Framed.body in
    let items = c.in_ok-extend_from_slice.ensures.items in
    let f = subst (λ b. IsFramed s b end body) (c.as_slice.ensures.value ∙ items) c.in-Framed.ensures in
    let enough : end + body ≤ length all = omega (arith, within s p all end body f, c.if-total-end.false, ap length (c.as_slice-total.ensures.value ∙ items)) in
    let later = ends_later s held c.args.piece.now (end + body) c.requires.1 (whole s p all end body f enough) in
    let before : length c.as_slice-before.result.now ≡ length held = ap length c.as_slice-before.ensures.value in
    let cut : c.truncate.new.self.items ≡ take (end + body) all = c.truncate.ensures.items ∙ ap (take (end + body)) items in
    let size : length c.truncate.new.self.items ≡ end + body = ap length cut ∙ length-take-le (end + body) all enough in
    let rest : length c.truncate.new.self.items - end ≡ body = omega (arith, size) in
    rw before (
      omega (arith, enough, length-append held c.args.piece.now),
      cut ∙ with_piece held c.args.piece.now (end + body) later,
      rw (rest, cut) (stops s p all end body f (end + body) (omega arith)),
      omega (arith, size),
    )

pub returns-then-total-lt-MAX_HEAD : goal.returns-then-total-lt-MAX_HEAD
returns-then-total-lt-MAX_HEAD c =
    let kind = c.args.kind in
    let held = c.args.held.now.items in
    let piece = c.args.piece.now in
    let items = c.in_ok-extend_from_slice.ensures.items in
    let known : is_known kind (spot_of kind c.args.at piece) ≡ true = ap (is_known kind) (sym c.spot_of-spot.ensures) ∙ sym c.if-is_known.ensures in
    let short : length (held ++ piece) < 65536 = omega (arith, c.if-total-lt-MAX_HEAD.true, ap length (c.as_slice-total.ensures.value ∙ items)) in
    rw c.spot_of-spot.ensures (known_need kind c.args.at held piece c.extend_from_slice.new.self.items c.requires.2 items known short)

pub returns-then-is_known : goal.returns-then-is_known
returns-then-is_known c =
    let kind = c.args.kind in
    let held = c.args.held.now.items in
    let piece = c.args.piece.now in
    let items = c.in_ok-extend_from_slice.ensures.items in
    let known : is_known kind (spot_of kind c.args.at piece) ≡ true = ap (is_known kind) (sym c.spot_of-spot.ensures) ∙ sym c.if-is_known.ensures in
    let long : 65536 ≤ length (held ++ piece) = omega (arith, c.if-total-lt-MAX_HEAD.false, ap length (c.as_slice-total.ensures.value ∙ items)) in
    known_long kind c.args.at held piece c.requires.2 known long

pub unreachable-requires : goal.unreachable-requires
unreachable-requires c =
    let kind = c.args.kind in
    let held = c.args.held.now.items in
    let piece = c.args.piece.now in
    let items = c.in_ok-extend_from_slice.ensures.items in
    let unknown : is_known kind (spot_of kind c.args.at piece) ≡ false = ap (is_known kind) (sym c.spot_of-spot.ensures) ∙ sym c.if-is_known.ensures in
    let still = subst (HasOpenHead (syntax_of kind)) (c.as_slice.ensures.value ∙ items) c.in-Open.ensures in
    unknown_never kind c.args.at held piece c.requires.2 unknown still
