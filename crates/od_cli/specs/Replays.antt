-- What a replay does: from the bytes that its source has left to those that its sink was given.
use Rattle.std.specs.Prelude.{◌≡◌, ◌⊎◌, ℕ, ◌<◌, ◌≤◌, List, [], ◌∷◌, ◌++◌, length, take, map, codes, string_bytes, String, Bool, true, false, Option, Some, None, Result, Ok, Err}
use Rattle.std.specs.Global.{Global}
use Rattle.std.specs.Fmt.{decimal}
use Rattle.od_cli.specs.declared.line.Line.{Line}
use Rattle.od_cli.specs.Runs.{Played}
use Rattle.od_cli.specs.Script.{script}
use Rattle.od_words.specs.Commands.{command_of}
use Rattle.od_words.specs.declared.command.Command.{Command}
use Rattle.od_words.specs.declared.command.Command.TheVariants.{Sync, Monitor, Replay}

-- how many bytes a script may have
abbrev pub most_bytes : ℕ
most_bytes = 8388608

-- the line that is written for a line that is no script line
abbrev pub bad_line_text : ℕ → List ℕ
bad_line_text number = codes "line " ++ decimal number ++ codes " is not a script line\n"

-- what may be written for what a text spells
abbrev pub IsOutputOf : Result (List Line) ℕ → List ℕ → Type 0
IsOutputOf (Ok lines) text = Played lines text
IsOutputOf (Err number) text = text ≡ bad_line_text number

abbrev pub IsOutput : List ℕ → List ℕ → Type 0
IsOutput bytes text = IsOutputOf (script bytes) text

-- the text was a script, read to its end and not too long, and what was written is what a run of it prints
pub record ReplaysScript (bytes written : List ℕ) (left after : Option (List ℕ)) : Type 0 where
  pub lines : List Line
  pub output : List ℕ
  pub is_script : script bytes ≡ Ok lines
  pub short : length bytes ≤ most_bytes
  pub at_end : left ≡ Some []
  pub played : Played lines output
  pub printed : after ≡ Some (written ++ output)

pub record Replays (text left before after : Option (List ℕ)) : Type 0 where
  pub told : (bytes written : List ℕ) → text ≡ Some bytes → before ≡ Some written → ReplaysScript bytes written left after

-- the line of this number is the first that is no script line, the text was read to its end and not too long, and that was
-- written
pub record TellsBadLine (number : ℕ) (text left before after : Option (List ℕ)) : Type 0 where
  pub told : (bytes written : List ℕ) → text ≡ Some bytes → before ≡ Some written
      → (script bytes ≡ Err number) × (length bytes ≤ most_bytes) × (left ≡ Some []) × (after ≡ Some (written ++ bad_line_text number))

-- nothing was written
pub record WritesNothing (before after : Option (List ℕ)) : Type 0 where
  pub written : (written : List ℕ) → before ≡ Some written → after ≡ Some written

-- the text was too long
pub record IsTooLong (text : Option (List ℕ)) : Type 0 where
  pub told : (bytes : List ℕ) → text ≡ Some bytes → most_bytes < length bytes

-- the text was not too long
pub record IsShort (text : Option (List ℕ)) : Type 0 where
  pub told : (bytes : List ℕ) → text ≡ Some bytes → length bytes ≤ most_bytes

-- a first part of what may be written for the text was written
pub record WritesPart (text before after : Option (List ℕ)) : Type 0 where
  pub told : (bytes written : List ℕ) → text ≡ Some bytes → before ≡ Some written
      → (output : List ℕ) × IsOutput bytes output × (n : ℕ) × (after ≡ Some (written ++ take n output))

-- nothing was written, or such a part
pub record WritesPartOrNothing (text before after : Option (List ℕ)) : Type 0 where
  pub told : (bytes written : List ℕ) → text ≡ Some bytes → before ≡ Some written
      → (after ≡ Some written) ⊎ ((output : List ℕ) × IsOutput bytes output × (n : ℕ) × (after ≡ Some (written ++ take n output)))

-- whether a command is the replay of a script that is read; one that is generated is not run yet
abbrev pub is_read_script : Option Command → Bool
is_read_script None = false
is_read_script (Some (Sync words)) = false
is_read_script (Some (Monitor words times)) = false
is_read_script (Some (Replay host None)) = true
is_read_script (Some (Replay host (Some files))) = false

-- whether the words give it
abbrev pub is_replay : List (String Global) → Bool
is_replay words = is_read_script (command_of (map string_bytes words))

-- the line that is no script line, if there is one
abbrev pub bad_line_of : Result (List Line) ℕ → Option ℕ
bad_line_of (Ok lines) = None
bad_line_of (Err number) = Some number
