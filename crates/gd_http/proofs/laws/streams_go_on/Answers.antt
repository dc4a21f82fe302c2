use Rattle.gd_http.specs.Hearing.{RequestBytes}
use Rattle.gd_http.specs.HearingReplies.{ReplyBytes}
use Rattle.gd_http.proofs.Said.{rest_grows, rest_ends}
use Rattle.gd_http.proofs.laws.streams_go_on.Goals as goal

pub returns-clause-requests_grow : goal.returns-clause-requests_grow
returns-clause-requests_grow c = rest_grows RequestBytes

pub returns-clause-requests_end : goal.returns-clause-requests_end
returns-clause-requests_end c = rest_ends RequestBytes

pub returns-clause-replies_grow : goal.returns-clause-replies_grow
returns-clause-replies_grow c = λ l. rest_grows (ReplyBytes l)

pub returns-clause-replies_end : goal.returns-clause-replies_end
returns-clause-replies_end c = λ l. rest_ends (ReplyBytes l)
