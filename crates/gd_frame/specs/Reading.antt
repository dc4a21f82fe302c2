-- What a reader of frames shows: the bytes of the message that is not whole yet, where in the stream it began, and
-- whether the reader goes on.
use Rattle.std.specs.Prelude.{ℕ, List, []}
use Rattle.gd_frame.specs.declared.step.ReadState.{ReadState}
use Rattle.gd_frame.specs.declared.step.ReadState.TheVariants.{Open}

pub record Reading : Type 0 where
  pub held : List ℕ
  pub place : ℕ
  pub state : ReadState

abbrev pub fresh : Reading
fresh = record { held = []; place = 0; state = Open }
