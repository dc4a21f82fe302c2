use Rattle.std.proofs.Common.{◌+◌, ◌<◌, ◌≤◌, length, arith}
use Rattle.gd_frame.specs.declared.message.Kind.TheVariants.{Reply}
use Rattle.gd_frame.specs.Syntax.{replies}
use Rattle.gd_frame.proofs.Heads.{plain, within, not_yet, awaits, whole}
use Rattle.gd_frame.proofs.end.reply_end.Goals as goal

pub returns-then-bytes-end : goal.returns-then-bytes-end
returns-then-bytes-end c =
    let f = c.in-Framed.ensures in
    let bytes = c.args.bytes.now in
    let end = c.in-Framed.end in
    let body = c.in-Framed.body in
    let lacks : length bytes < end + body = omega (arith, within replies (plain Reply) bytes end body f, c.if-bytes-end.true) in
    (not_yet replies (plain Reply) bytes end body f lacks, awaits replies (plain Reply) bytes end body f lacks)

pub returns-else-bytes-end : goal.returns-else-bytes-end
returns-else-bytes-end c =
    let f = c.in-Framed.ensures in
    let bytes = c.args.bytes.now in
    let end = c.in-Framed.end in
    let body = c.in-Framed.body in
    let enough : end + body ≤ length bytes = omega (arith, within replies (plain Reply) bytes end body f, c.if-bytes-end.false) in
    (enough, whole replies (plain Reply) bytes end body f enough)
