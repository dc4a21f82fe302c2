use Rattle.std.proofs.Common.{refl}
use Rattle.gd_item.specs.declared.request.Request.TheVariants.{Download}
use Rattle.od_transfer.specs.Fits.{content_in}
use Rattle.od_transfer.proofs.Explaining.{download-so, unheard-so}
use Rattle.od_transfer.proofs.Fetches.{digest_of_reply}
use Rattle.od_transfer.proofs.Undisturbing.{transfer-served}
use Rattle.od_transfer.proofs.carry.download.Goals as goal

pub returns-in-Ok-clause-fits : goal.returns-in-Ok-clause-fits
returns-in-Ok-clause-fits g c = digest_of_reply c.args.digest (content_in c.in-Ok.reply) c.downloaded.result c.downloaded.ensures

pub returns-in-Ok-clause-told : goal.returns-in-Ok-clause-told
returns-in-Ok-clause-told g c = download-so 2 c.args.id c.args.version c.args.digest c.in-Ok.reply c.downloaded.result c.downloaded.ensures c.in-Ok.ensures.log

pub returns-in-Err-Failed-clause-told : goal.returns-in-Err-Failed-clause-told
returns-in-Err-Failed-clause-told g c = unheard-so 2 (Download c.args.id c.args.version) c.in-Err-Failed.field-0 c.in-Err-Failed.ensures.log

pub returns-in-Err-Memory-clause-told : goal.returns-in-Err-Memory-clause-told
returns-in-Err-Memory-clause-told g c = unheard-so 2 (Download c.args.id c.args.version) c.in-Err-Memory.field-0 c.in-Err-Memory.ensures.log

pub returns-in-Ok-clause-no_faults : goal.returns-in-Ok-clause-no_faults
returns-in-Ok-clause-no_faults g c = λ quiet. c.in-Ok.ensures.no_faults quiet (transfer-served (Download c.args.id c.args.version) (g.R.Remote.log c.args.remote.now) refl)

pub returns-in-Err-Failed-clause-no_faults : goal.returns-in-Err-Failed-clause-no_faults
returns-in-Err-Failed-clause-no_faults g c = λ quiet. c.in-Err-Failed.ensures.no_faults quiet (transfer-served (Download c.args.id c.args.version) (g.R.Remote.log c.args.remote.now) refl)

pub returns-in-Err-Memory-clause-no_faults : goal.returns-in-Err-Memory-clause-no_faults
returns-in-Err-Memory-clause-no_faults g c = λ quiet. c.in-Err-Memory.ensures.no_faults quiet (transfer-served (Download c.args.id c.args.version) (g.R.Remote.log c.args.remote.now) refl)
