use Rattle.std.proofs.Common.{◌≡◌, ◌++◌, drop}
use Rattle.od_sync.specs.Agreeing.{agreed_rows}
use Rattle.od_sync.proofs.agreeing.push_agreed.Given as goal

abbrev pub invariant-loop-entry : goal.invariant-loop-entry
invariant-loop-entry l = l.agreed ++ agreed_rows (drop l.entry-index l.local) l.remote ≡ l.fn.agreed ++ agreed_rows l.local l.remote
