-- The options of each command, as `clap` sees them.
use Rattle.std.specs.Prelude.{ℕ, [], ◌∷◌, Some, true, codes, pos}
use Rattle.clap.specs.Words.{App, Rule, Text, new_app, new_rule, with_rule}
use Rattle.clap.specs.declared.builder.ArgAction.TheVariants.{Set, SetTrue}
use Rattle.clap.specs.declared.builder.ValueParser.TheVariants.{Signed}

-- `--name VALUE`, any text
abbrev pub text_option : Text → Rule
text_option name = record (new_rule name) { long = Some name; action = Some Set; value_names = 1 }

abbrev pub required_option : Text → Rule
required_option name = record (text_option name) { required = true }

-- `--name`
abbrev pub flag : Text → Rule
flag name = record (new_rule name) { long = Some name; action = Some SetTrue }

-- `--name N`, a number from 1 to the most
abbrev pub number_option : Text → ℕ → Rule
number_option name most = record (text_option name) { parser = Some (Signed (pos 1) (pos most)) }

abbrev pub workers_option : Rule
workers_option = record (number_option (codes "workers") 16) { defaults = codes "4" ∷ [] }

abbrev pub times_option : Rule
times_option = record (number_option (codes "times") 1000000) { required = true }

abbrev pub generate_option : Rule
generate_option = number_option (codes "generate") 5000

abbrev pub host_option : Rule
host_option = record (text_option (codes "host")) { defaults = codes "h1" ∷ [] }

-- what a sync has to be told, and what it may be told
abbrev pub with_required : App → App
with_required app = with_rule (with_rule (with_rule (with_rule (with_rule app
    (required_option (codes "root"))) (required_option (codes "hold"))) (required_option (codes "db")))
    (required_option (codes "url"))) (required_option (codes "host"))

abbrev pub with_optional : App → App
with_optional app = with_rule (with_rule (with_rule app
    (text_option (codes "rules"))) (flag (codes "resync"))) workers_option

abbrev pub sync_app : App
sync_app = with_optional (with_required (new_app (codes "sync")))

abbrev pub monitor_app : App
monitor_app = with_rule (with_optional (with_required (new_app (codes "monitor")))) times_option

abbrev pub replay_app : App
replay_app = with_rule (with_rule (new_app (codes "replay")) host_option) generate_option
