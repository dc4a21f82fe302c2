use Rattle.std.proofs.Common.{◌≡◌, drop}
use Rattle.od_board.specs.Boards.{holder_in}
use Rattle.od_board.proofs.board.Board.holder.Given as goal

abbrev pub invariant-loop-claim : goal.invariant-loop-claim
invariant-loop-claim l = holder_in l.job l.claim-items ≡ holder_in l.job (drop l.claim-index l.claim-items)
