use Rattle.std.proofs.Common.{◌+◌, ◌<◌, ◌++◌, length, sym, ap, subst, arith, length-append}
use Rattle.gd_frame.specs.Syntax.{syntax_of}
use Rattle.gd_frame.specs.Scanning.{IsFramed}
use Rattle.gd_frame.proofs.Heads.{plain, not_yet, awaits, goes_on}
use Rattle.gd_frame.proofs.stream.take_body.Goals as goal

pub returns-in_ok-extend_from_slice : goal.returns-in_ok-extend_from_slice
returns-in_ok-extend_from_slice c =
    let s = syntax_of c.args.kind in
    let p = plain c.args.kind in
    let held = c.args.held.now.items in
    let all = held ++ c.args.piece.now in
    let end = c.args.end in
    let body = c.args.body in
    let f = goes_on s p held end body c.requires.1 c.args.piece.now in
    let items = c.in_ok-extend_from_slice.ensures.items in
    let lacks : length all < end + body = omega (arith, c.if-piece-lacks.true, ap length c.as_slice.ensures.value, length-append held c.args.piece.now) in
    (not_yet s p all end body f lacks, awaits s p all end body f lacks, items, (rw items lacks, subst (λ b. IsFramed s b end body) (sym items) f))
