-- What the words ask for.
use Rattle.std.specs.Prelude.{◌≡◌, Bool, true, false, if◌then◌else◌, List, [], ◌∷◌, codes, nat_lt, option_and_then, Option, Some, None}
use Rattle.std.specs.List.{list_any}
use Rattle.clap.specs.Words.{App, Kinds, Row, Text, fault_of, subcommand_of}
use Rattle.clap.specs.declared.error.ErrorKind.{ErrorKind}
use Rattle.clap.specs.declared.error.ErrorKind.TheVariants.{DisplayHelp, DisplayVersion, OutOfMemory}
use Rattle.gd_words.specs.Found.{number_in}
use Rattle.gd_words.specs.Options.{program_app}
use Rattle.gd_words.specs.declared.asked.Asked.{Asked}
use Rattle.gd_words.specs.declared.asked.Asked.TheVariants.{Serve, Told, Refused}
use Rattle.gd_words.specs.declared.asked.Serving.{Serving}

-- what was found for `serve`: a port from 1, and a number of connections or none
abbrev pub serving_in : List Row → Option Serving
serving_in rows = option_and_then (λ port. if nat_lt 0 port
    then Some (record { port = port; connections = number_in 64 (codes "connections") rows }) else None) (number_in 16 (codes "port") rows)

-- the same, of the command that the words name
abbrev pub serving_under : Option (Text × List Row) → Option Serving
serving_under = option_and_then (λ named. serving_in named.1)

abbrev pub unless_refused : Kinds → Option Serving → Option Serving
unless_refused [] found = found
unless_refused (kind ∷ kinds) found = None

-- how a drive is to be served, where `clap` takes the words
unfoldable pub serving_of : List Text → Option Serving
serving_of words = unless_refused (fault_of program_app words) (serving_under (subcommand_of program_app words))

abbrev pub is_question : ErrorKind → Bool
is_question DisplayHelp = true
is_question DisplayVersion = true
is_question _ = false

-- the first word at which `clap` stops asks for the help or the version
unfoldable pub asks : List Text → Bool
asks words = list_any is_question (fault_of program_app words)

abbrev pub Reads : List Text → Asked → Type 0
Reads words (Serve serving) = serving_of words ≡ Some serving
Reads words (Told text) = asks words ≡ true
Reads words (Refused text) = (serving_of words ≡ None) × (asks words ≡ false)

-- what is told of words that `clap` does not take, by the kind of its error
abbrev pub Tells : ErrorKind → Asked → Type 0
Tells kind (Serve serving) = ⊥
Tells kind (Told text) = is_question kind ≡ true
Tells kind (Refused text) = (is_question kind ≡ false) × (kind ≡ OutOfMemory → ⊥)

abbrev pub IsRefused : Asked → Type 0
IsRefused (Refused text) = Unit {0}
IsRefused asked = ⊥
