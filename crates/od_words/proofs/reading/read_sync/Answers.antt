use Rattle.std.proofs.Common.{map, string_bytes}
use Rattle.clap.specs.Words.{app_of, found_of, rows_of}
use Rattle.od_words.specs.Commands.{sync_in, sync_of}
use Rattle.od_words.specs.Options.{sync_app}
use Rattle.od_words.proofs.Chains.{done, not_found, refused, same_fault}
use Rattle.od_words.proofs.reading.read_sync.Goals as goal

pub returns-in-Ok-clause-ok : goal.returns-in-Ok-clause-ok
unfolding sync_of
returns-in-Ok-clause-ok c =
    done sync_in sync_app (app_of c.in_ok-command.command) (map string_bytes c.args.words.now) c.in_ok-command.ensures
    (rows_of (found_of c.in-Ok.matches)) c.sync_found.result c.in-Ok.ensures.ok c.sync_found.ensures.ok

pub returns-in-Ok-clause-usage : goal.returns-in-Ok-clause-usage
unfolding sync_of
returns-in-Ok-clause-usage c =
    refused sync_in sync_app (app_of c.in_ok-command.command) (map string_bytes c.args.words.now) c.in_ok-command.ensures
    (rows_of (found_of c.in-Ok.matches)) c.sync_found.result _ c.in-Ok.ensures.ok c.sync_found.ensures.usage

pub returns-in-Err-clause-usage : goal.returns-in-Err-clause-usage
unfolding sync_of
returns-in-Err-clause-usage c = λ usage.
    not_found sync_in sync_app (app_of c.in_ok-command.command) (map string_bytes c.args.words.now) c.in_ok-command.ensures (c.in-Err.ensures.usage (same_fault _ _ _ _ _ usage))
