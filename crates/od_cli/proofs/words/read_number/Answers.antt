use Rattle.std.proofs.Common.{◌+◌, ◌*◌, drop, sym}
use Rattle.od_cli.proofs.Numbers.{too-great, next-digit}
use Rattle.od_cli.proofs.words.read_number.Goals as goal

pub returns-then-value-most : goal.returns-then-value-most
returns-then-value-most c =
    sym (too-great c.args.most (10 * c.loop-byte.value + c.saturating_sub.result) c.args.word.now (drop (c.loop-byte.byte-index + 1) c.args.word.now)
    (next-digit c.args.word.now c.loop-byte.value c.loop-byte.byte-index c.saturating_sub.result c.loop-byte-test.true c.saturating_sub.ensures c.loop-byte.invariant.0)
    c.if-value-most.true)
