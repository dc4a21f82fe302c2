use Rattle.std.proofs.Common.{◌≡◌, ℕ, ◌+◌, ◌-◌, ◌<◌, ◌≤◌, List, ◌++◌, length, take, sym, ap, subst, ◌∙◌, arith}
use Rattle.std.proofs.lemmas.List.{length-take-le}
use Rattle.gd_frame.specs.Syntax.{syntax_of}
use Rattle.gd_frame.specs.Scanning.{IsFramed}
use Rattle.gd_frame.proofs.Heads.{plain, within, not_yet, awaits, stops}
use Rattle.gd_frame.specs.declared.spot.Spot.TheVariants.{Empty}
use Rattle.gd_frame.specs.Messages.{HasOpenHead}
use Rattle.gd_frame.specs.Spots.{EndsAtSpot}
use Rattle.gd_frame.proofs.Holding.{open_need}
use Rattle.gd_frame.proofs.Spots.{begins}
use Rattle.gd_frame.proofs.stream.take_first.Goals as goal

pub returns-then-piece-end : goal.returns-then-piece-end
returns-then-piece-end c =
    let s = syntax_of c.args.kind in
    let p = plain c.args.kind in
    let piece = c.args.piece.now in
    let all = c.args.held.now.items ++ piece in
    let end = c.in-Framed.end in
    let body = c.in-Framed.body in
    let is : all ≡ piece = ap (λ (t : List ℕ). t ++ piece) c.requires in
    let items = c.in_ok-extend_from_slice-in-Framed.ensures.items in
    let f = subst (λ b. IsFramed s b end body) (sym is) c.in-Framed.ensures in
    let lacks : length all < end + body = omega (arith, within s p piece end body c.in-Framed.ensures, c.if-piece-end.true, ap length is) in
    (not_yet s p all end body f lacks, awaits s p all end body f lacks, items, (rw items lacks, subst (λ b. IsFramed s b end body) (sym items) f))

pub returns-in_ok-extend_from_slice-in-Framed-2 : goal.returns-in_ok-extend_from_slice-in-Framed-2
returns-in_ok-extend_from_slice-in-Framed-2 c =
    let s = syntax_of c.args.kind in
    let p = plain c.args.kind in
    let piece = c.args.piece.now in
    let end = c.in-Framed.end in
    let body = c.in-Framed.body in
    let f = c.in-Framed.ensures in
    let items = c.in_ok-extend_from_slice-in-Framed-2.ensures.items in
    let cut : c.extend_from_slice-in-Framed.new.self.items ≡ take (end + body) piece = items ∙ ap (λ (t : List ℕ). t ++ take (end + body) piece) c.requires in
    let enough : end + body ≤ length piece = omega (arith, within s p piece end body f, c.if-piece-end.false) in
    let size : length c.extend_from_slice-in-Framed.new.self.items ≡ end + body = ap length cut ∙ length-take-le (end + body) piece enough in
    let rest : length c.extend_from_slice-in-Framed.new.self.items - end ≡ body = omega (arith, size) in
    (enough, items, rw (rest, cut) (stops s p piece end body f (end + body) (omega arith)), omega (arith, size))

pub returns-in_ok-extend_from_slice-in-Open : goal.returns-in_ok-extend_from_slice-in-Open
returns-in_ok-extend_from_slice-in-Open c =
    let kind = c.args.kind in
    let held = c.args.held.now.items in
    let piece = c.args.piece.now in
    let is : held ++ piece ≡ piece = ap (λ (t : List ℕ). t ++ piece) c.requires in
    let ends : EndsAtSpot kind Empty held = subst (EndsAtSpot kind Empty) (sym c.requires) (begins kind) in
    let still : HasOpenHead (syntax_of kind) (held ++ piece) = subst (HasOpenHead (syntax_of kind)) (sym is) c.in-Open.ensures in
    rw c.spot_of.ensures (open_need kind Empty held piece c.extend_from_slice.new.self.items ends c.in_ok-extend_from_slice-in-Open.ensures.items still)
