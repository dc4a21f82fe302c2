use Rattle.gd_server.proofs.Logging.{serves_shared}
use Rattle.gd_server.proofs.shared.serve_shared.Goals as goal

pub returns-clause-serves : goal.returns-clause-serves
returns-clause-serves g c = serves_shared _ _ _ _ _ _ _ _ c.converse.ensures.serves
