use Rattle.std.proofs.Common.{◌≡◌, length}
use Rattle.gd_http.specs.Closing.{lists_close}
use Rattle.gd_http.proofs.closing.lists_close.Given as goal

abbrev pub invariant-words : goal.invariant-words
invariant-words l = lists_close l.rest ≡ lists_close l.value

abbrev pub decreases-words : goal.decreases-words
decreases-words l = length l.rest
