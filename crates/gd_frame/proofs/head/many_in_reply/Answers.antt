use Rattle.std.proofs.Common.{ap, arith, Err}
use Rattle.gd_frame.proofs.Rooms.{room_for_reply}
use Rattle.gd_frame.proofs.head.many_in_reply.Goals as goal

pub unreachable-requires : goal.unreachable-requires
unreachable-requires c = room_for_reply c.args.bytes.now (omega (arith, c.if-bytes-ge-MAX_HEAD.false)) (c.in-Err-TooManyHeaders.ensures.too_many (ap Err c.in-Err-TooManyHeaders.field-0-is))
