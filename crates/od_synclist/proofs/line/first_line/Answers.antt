use Rattle.std.proofs.Common.{◌+◌, sym}
use Rattle.std.proofs.lemmas.List.{take_rest}
use Rattle.od_synclist.proofs.Lines.{lines_at_break, lines_without_break}
use Rattle.od_synclist.proofs.line.first_line.Goals as goal

pub returns-in-Some-clause-lines : goal.returns-in-Some-clause-lines
returns-in-Some-clause-lines c =
    rw (take_rest c.args.bytes.now (c.in-Some.at + 1), c.without_return.ensures) (lines_at_break c.args.bytes.now c.in-Some.at (sym c.in-Some.ensures))

pub returns-in-None-clause-lines : goal.returns-in-None-clause-lines
returns-in-None-clause-lines c = lines_without_break c.args.bytes.now c.requires (sym c.in-None.ensures)
