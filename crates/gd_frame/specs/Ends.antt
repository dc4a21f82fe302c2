-- Where the first reply of bytes ends.
use Rattle.std.specs.Prelude.{ℕ, ◌≤◌, List, length, take}
use Rattle.gd_frame.specs.declared.end.ReplyEnd.{ReplyEnd}
use Rattle.gd_frame.specs.declared.end.ReplyEnd.TheVariants.{Need, Whole, Bad}
use Rattle.gd_frame.specs.declared.message.MessageCause.{MessageCause}
use Rattle.gd_frame.specs.Syntax.{replies}
use Rattle.gd_frame.specs.Messages.{IsMessage, HasNoMessage, HasCause, Awaits}

-- The first bytes are one whole reply, or it is not whole yet, or none is one whatever follows.
abbrev pub EndsAt : List ℕ → ReplyEnd → Type 0
EndsAt bytes Need = HasNoMessage replies bytes × Awaits replies bytes
EndsAt bytes (Whole n) = (n ≤ length bytes) × IsMessage replies (take n bytes)
EndsAt bytes Bad = (cause : MessageCause) × HasCause replies cause bytes
