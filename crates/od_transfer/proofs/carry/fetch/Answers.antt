use Rattle.std.proofs.Common.{refl, ◌∙◌}
use Rattle.gd_item.specs.declared.request.Address.TheVariants.{Id}
use Rattle.gd_item.specs.declared.request.Request.TheVariants.{Content}
use Rattle.od_transfer.proofs.Explaining.{fetch-so, refused-so, lost-so}
use Rattle.od_transfer.proofs.Undisturbing.{undisturbed_then, transfer-served}
use Rattle.od_transfer.proofs.carry.fetch.Goals as goal

pub returns-in-Err-Failed-clause-told : goal.returns-in-Err-Failed-clause-told
returns-in-Err-Failed-clause-told g c = lost-so 2 c.args.id c.in-Err-Failed.field-0 c.in-Err-Failed.ensures.log

pub returns-in-Err-Memory-clause-told : goal.returns-in-Err-Memory-clause-told
returns-in-Err-Memory-clause-told g c = lost-so 2 c.args.id c.in-Err-Memory.field-0 c.in-Err-Memory.ensures.log

pub returns-in-Ok-found_in-clause-told : goal.returns-in-Ok-found_in-clause-told
returns-in-Ok-found_in-clause-told g c =
    fetch-so 2 c.args.id c.args.digest c.in-Ok-found_in.found c.in-Ok-found_in.version c.in-Ok.reply c.download.result c.in-Ok-found_in.ensures c.in-Ok.ensures.log c.download.ensures.told

pub returns-in-Err-clause-told : goal.returns-in-Err-clause-told
returns-in-Err-clause-told g c = refused-so 2 c.args.id c.args.digest c.in-Err.code c.in-Ok.reply c.in-Err.ensures c.in-Ok.ensures.log

pub returns-in-Ok-found_in-clause-undisturbed : goal.returns-in-Ok-found_in-clause-undisturbed
returns-in-Ok-found_in-clause-undisturbed g c =
    undisturbed_then (g.R.Remote.undisturbed c.args.remote.now) (g.R.Remote.undisturbed c.send_thrice.new.remote) (g.R.Remote.undisturbed c.download.new.remote) (g.R.Remote.log c.args.remote.now) (g.R.Remote.log c.send_thrice.new.remote) (g.R.Remote.log c.download.new.remote) c.in-Ok.ensures.undisturbed c.download.ensures.undisturbed

pub returns-in-Ok-found_in-clause-goes : goal.returns-in-Ok-found_in-clause-goes
returns-in-Ok-found_in-clause-goes g c = g.met.R.Remote.goes_trans c.args.remote.now c.send_thrice.new.remote c.download.new.remote c.in-Ok.ensures.goes c.download.ensures.goes

pub returns-in-Err-Failed-clause-no_faults : goal.returns-in-Err-Failed-clause-no_faults
returns-in-Err-Failed-clause-no_faults g c = λ quiet. c.in-Err-Failed.ensures.no_faults quiet (transfer-served (Content (Id c.args.id)) (g.R.Remote.log c.args.remote.now) refl)

pub returns-in-Err-Memory-clause-no_faults : goal.returns-in-Err-Memory-clause-no_faults
returns-in-Err-Memory-clause-no_faults g c = λ quiet. c.in-Err-Memory.ensures.no_faults quiet (transfer-served (Content (Id c.args.id)) (g.R.Remote.log c.args.remote.now) refl)

pub returns-in-Err-clause-no_faults : goal.returns-in-Err-clause-no_faults
returns-in-Err-clause-no_faults g c = λ quiet. c.in-Ok.ensures.no_faults quiet (transfer-served (Content (Id c.args.id)) (g.R.Remote.log c.args.remote.now) refl)

pub returns-in-Ok-found_in-clause-no_faults : goal.returns-in-Ok-found_in-clause-no_faults
returns-in-Ok-found_in-clause-no_faults g c =
    λ quiet. c.download.ensures.no_faults (c.in-Ok.ensures.undisturbed.stays quiet) ∙ c.in-Ok.ensures.no_faults quiet (transfer-served (Content (Id c.args.id)) (g.R.Remote.log c.args.remote.now) refl)
