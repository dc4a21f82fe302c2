use Rattle.od_pull.proofs.Ends.{fails}
use Rattle.od_pull.proofs.Learns.{bytes-learn, bytes-none, bytes-stop, digest-by, found-none, found-stops}
use Rattle.od_pull.proofs.learning.learn_digest.Goals as goal

pub returns-in_err-version : goal.returns-in_err-version
returns-in_err-version g c = rw (fails c.from_residual.ensures) (found-stops c.args.id c.in_err-version.field-0.0 c.in_err-version.ensures)

pub returns-in_default : goal.returns-in_default
returns-in_default g c = found-none c.args.id c.in_ok-version.field-0 c.in_ok-version.ensures

pub returns-in_err-bytes : goal.returns-in_err-bytes
returns-in_err-bytes g c = rw (fails c.from_residual-in_err-bytes.ensures)
    (bytes-stop g.met.O.Outside.laws c.args.id c.in_ok-version.field-0 c.in-Found.version c.in_err-bytes.field-0.0 c.in_ok-version.ensures c.in_err-bytes.ensures)

pub returns-in-Content : goal.returns-in-Content
returns-in-Content g c =
    bytes-learn g.met.O.Outside.laws c.args.id c.in-Found.id c.in-Found.version c.in-Content.bytes c.digest_of.result (digest-by c.digest_of.result _ c.in-Content.bytes c.digest_of.ensures c.as_slice.ensures)
    (rw c.in-Found.is at c.in_ok-version.ensures) (rw c.in-Content.is at c.in_ok-bytes.ensures)

pub returns : goal.returns
returns g c = bytes-none g.met.O.Outside.laws c.args.id c.in_ok-version.field-0 c.in_ok-bytes.field-0 c.in-Found.version c.in_ok-version.ensures c.in_ok-bytes.ensures
