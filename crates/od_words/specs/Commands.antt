-- Which command the words give, if they give one.
use Rattle.std.specs.Prelude.{◌≡◌, ℕ, ◌≤◌, Bool, true, ◌&&◌, if◌then◌else◌, List, [], ◌∷◌, codes, nat_le, option_and_then, option_map, Option, Some, None, IfSome}
use Rattle.std.specs.Str.{bytes_eq}
use Rattle.gd_json.specs.Bases.{is_base}
use Rattle.clap.specs.Words.{Row, Text, first_of}
use Rattle.od_words.specs.Found.{found_in, number_in, flag_in}
use Rattle.od_words.specs.Hosts.{is_host}
use Rattle.od_words.specs.Options.{sync_app, monitor_app, replay_app}
use Rattle.od_words.specs.declared.command.Command.{Command}
use Rattle.od_words.specs.declared.command.Command.TheVariants.{Sync, Monitor, Replay}
use Rattle.od_words.specs.declared.command.Words.{Words}

-- whether a number that was given is from 1 to the most
abbrev pub is_count : ℕ → Option ℕ → Bool
is_count most None = true
is_count most (Some n) = nat_le 1 n && nat_le n most

-- what a sync is told, where the links' base, the host's name and the number of workers are such
abbrev pub checked : Words → Option Words
checked words = if is_base words.url && is_host words.host && is_count 16 (Some words.workers) then Some words else None

-- what was found for a sync
abbrev pub words_in : List Row → Option Words
words_in rows = option_and_then (λ root. option_and_then (λ hold. option_and_then (λ db. option_and_then (λ url. option_and_then (λ host. option_and_then (λ workers.
    checked (record { root = root; hold = hold; db = db; url = url; host = host; rules = first_of (codes "rules") rows; resync = flag_in (codes "resync") rows; workers = workers }))
    (number_in (codes "workers") rows)) (first_of (codes "host") rows)) (first_of (codes "url") rows)) (first_of (codes "db") rows)) (first_of (codes "hold") rows)) (first_of (codes "root") rows)

abbrev pub sync_in : List Row → Option Command
sync_in rows = option_map (λ words. Sync words) (words_in rows)

abbrev pub monitor_in : List Row → Option Command
monitor_in rows = option_and_then (λ words. option_and_then (λ times. if is_count 1000000 (Some times) then Some (Monitor words times) else None)
    (number_in (codes "times") rows)) (words_in rows)

abbrev pub replay_in : List Row → Option Command
replay_in rows = option_and_then (λ host. if is_host host && is_count 5000 (number_in (codes "generate") rows)
    then Some (Replay host (number_in (codes "generate") rows)) else None) (first_of (codes "host") rows)

-- the command that `clap` finds at the words, the first of which names it
unfoldable pub sync_of : List Text → Option Command
sync_of words = option_and_then sync_in (found_in sync_app words)

unfoldable pub monitor_of : List Text → Option Command
monitor_of words = option_and_then monitor_in (found_in monitor_app words)

unfoldable pub replay_of : List Text → Option Command
replay_of words = option_and_then replay_in (found_in replay_app words)

abbrev pub command_named : Text → List Text → Option Command
command_named name words =
    if bytes_eq name (codes "sync") then sync_of words
    else (if bytes_eq name (codes "monitor") then monitor_of words
    else (if bytes_eq name (codes "replay") then replay_of words else None))

-- the first word is the command's name, and the others are its options
abbrev pub command_of : List Text → Option Command
command_of [] = None
command_of (name ∷ words) = command_named name (name ∷ words)

-- what holds of each command that words give
pub record FitsWords (words : Words) : Type 0 where
  pub url : is_base words.url ≡ true
  pub host : is_host words.host ≡ true
  pub some : 1 ≤ words.workers
  pub most : words.workers ≤ 16

abbrev pub Fits : Command → Type 0
Fits (Sync words) = FitsWords words
Fits (Monitor words times) = FitsWords words × (1 ≤ times) × (times ≤ 1000000)
Fits (Replay host generate) = (is_host host ≡ true) × IfSome generate (λ n. (1 ≤ n) × (n ≤ 5000))
