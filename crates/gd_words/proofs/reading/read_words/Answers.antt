use Rattle.std.proofs.Common.{◌∙◌, sym, map, string_bytes}
use Rattle.clap.specs.Words.{app_of}
use Rattle.gd_words.proofs.Sorts.{all_refused, all_told, served}
use Rattle.gd_words.proofs.reading.read_words.Goals as goal

pub returns-in-Ok-Some : goal.returns-in-Ok-Some
returns-in-Ok-Some c =
    served (app_of c.in_ok-command.command) c.in_ok-command.ensures (map string_bytes c.args.words.now) c.in-Ok-Some.serving c.in-Ok-Some.ensures.taken (sym c.in-Ok-Some.field-0-is ∙ c.in-Ok-Some.ensures.found)

pub returns-in-Ok-None : goal.returns-in-Ok-None
returns-in-Ok-None c =
    all_refused (app_of c.in_ok-command.command) c.in_ok-command.ensures (map string_bytes c.args.words.now) c.refuse.result c.in-Ok-None.ensures.taken (sym c.in-Ok-None.field-0-is ∙ c.in-Ok-None.ensures.found) c.refuse.ensures

pub returns-in-Err : goal.returns-in-Err
returns-in-Err c =
    all_told (app_of c.in_ok-command.command) c.in_ok-command.ensures (map string_bytes c.args.words.now) _ c.tell.result c.in-Err.ensures.err c.tell.ensures
