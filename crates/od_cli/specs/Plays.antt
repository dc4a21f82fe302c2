-- What playing one line of other clients, one of the drive, a pull or `drive` does to the world and to what is printed.
use Rattle.std.specs.Prelude.{◌≡◌, ℕ, Bool, true, false, List, ◌++◌}
use Rattle.gd_item.specs.Answers.{answer}
use Rattle.gd_item.specs.Steps.{state_of}
use Rattle.gd_item.specs.declared.request.Request.{Request}
use Rattle.gd_item.specs.declared.request.Request.TheVariants.{MakeFolder, Put, Patch, Delete}
use Rattle.od_cli.specs.Played.{reply_text, line_text, line_steps}
use Rattle.od_cli.specs.Worlds.{WorldValue, with_other}
use Rattle.od_cli.specs.declared.line.Line.{Line}

-- whether a request may change the drive
abbrev pub is_change : Request → Bool
is_change (MakeFolder at name behaviour) = true
is_change (Put at bytes behaviour condition) = true
is_change (Patch at name parent condition) = true
is_change (Delete at condition) = true
is_change request = false

-- another client asked, and its refusal was printed
pub record IsAsked (before after : WorldValue) (printed_before printed_after : List ℕ) (request : Request) : Type 0 where
  pub world : after ≡ record before { log = with_other before.log request }
  pub printed : printed_after ≡ printed_before ++ reply_text (answer (state_of before.log) before.size request)

-- the line was played: its steps were added to the log, and its text was printed
pub record Plays (before after : WorldValue) (printed_before printed_after : List ℕ) (line : Line) : Type 0 where
  pub world : after ≡ record before { log = before.log ++ line_steps before.log before.size line }
  pub printed : printed_after ≡ printed_before ++ line_text before.log before.size line
