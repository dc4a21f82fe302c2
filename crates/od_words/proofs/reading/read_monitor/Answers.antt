use Rattle.std.proofs.Common.{map, string_bytes}
use Rattle.clap.specs.Words.{app_of, found_of, rows_of}
use Rattle.od_words.specs.Commands.{monitor_in, monitor_of}
use Rattle.od_words.specs.Options.{monitor_app}
use Rattle.od_words.proofs.Chains.{done, not_found, refused, same_fault}
use Rattle.od_words.proofs.reading.read_monitor.Goals as goal

pub returns-in-Ok-clause-ok : goal.returns-in-Ok-clause-ok
unfolding monitor_of
returns-in-Ok-clause-ok c =
    done monitor_in monitor_app (app_of c.in_ok-command.command) (map string_bytes c.args.words.now) c.in_ok-command.ensures
    (rows_of (found_of c.in-Ok.matches)) c.monitor_found.result c.in-Ok.ensures.ok c.monitor_found.ensures.ok

pub returns-in-Ok-clause-usage : goal.returns-in-Ok-clause-usage
unfolding monitor_of
returns-in-Ok-clause-usage c =
    refused monitor_in monitor_app (app_of c.in_ok-command.command) (map string_bytes c.args.words.now) c.in_ok-command.ensures
    (rows_of (found_of c.in-Ok.matches)) c.monitor_found.result _ c.in-Ok.ensures.ok c.monitor_found.ensures.usage

pub returns-in-Err-clause-usage : goal.returns-in-Err-clause-usage
unfolding monitor_of
returns-in-Err-clause-usage c = λ usage.
    not_found monitor_in monitor_app (app_of c.in_ok-command.command) (map string_bytes c.args.words.now) c.in_ok-command.ensures (c.in-Err.ensures.usage (same_fault _ _ _ _ _ usage))
