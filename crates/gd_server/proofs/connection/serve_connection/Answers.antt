use Rattle.gd_server.proofs.Logging.{serves_log, answered_size}
use Rattle.gd_server.proofs.connection.serve_connection.Goals as goal

pub returns-clause-serves : goal.returns-clause-serves
returns-clause-serves g c = λ who heard log stands. serves_log who heard _ _ _ _ _ _ _ _ log c.converse.ensures.serves stands

pub returns-clause-size : goal.returns-clause-size
returns-clause-size g c = answered_size c.converse.ensures.serves.messages c.converse.ensures.serves.replies _ _ c.converse.ensures.serves.answered
