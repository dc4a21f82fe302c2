-- A stream is messages, one after another, and then a rest.
use Rattle.std.specs.Prelude.{◌≡◌, ℕ, List, [], ◌∷◌, ◌++◌}
use Rattle.gd_frame.specs.Syntax.{Syntax}
use Rattle.gd_frame.specs.Messages.{IsMessage}

abbrev pub Splits : (s : Syntax) → List ℕ → List (List ℕ) → List ℕ → Type 0
Splits s stream [] rest = stream ≡ rest
Splits s stream (m ∷ ms) rest = (tail : List ℕ) × (stream ≡ m ++ tail) × IsMessage s m × Splits s tail ms rest
