use Rattle.gd_server.proofs.Counting.{never_rose}
use Rattle.gd_server.proofs.memory.serve_in_memory.Goals as goal

pub returns-clause-no_read_fault : goal.returns-clause-no_read_fault
returns-clause-no_read_fault c = λ none few is.
    never_rose c.serve_connection.ensures.source.calls _ _ _ c.serve_connection.ensures.source.counts none few (c.serve_connection.ensures.read is)

pub returns-clause-no_write_fault : goal.returns-clause-no_write_fault
returns-clause-no_write_fault c = λ none few is.
    never_rose c.serve_connection.ensures.sink.calls _ _ _ c.serve_connection.ensures.sink.counts none few (c.serve_connection.ensures.write is)
