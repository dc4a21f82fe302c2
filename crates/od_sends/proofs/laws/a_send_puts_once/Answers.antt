use Rattle.od_sends.proofs.Sending.{send-once}
use Rattle.od_sends.proofs.laws.a_send_puts_once.Goals as goal

pub returns-clause-once : goal.returns-clause-once
returns-clause-once c = λ to bytes old part exchanges next runs told apart. (send-once to bytes old part exchanges next runs told apart).few

pub returns-clause-puts : goal.returns-clause-puts
returns-clause-puts c = λ to bytes old part exchanges next runs told apart. (send-once to bytes old part exchanges next runs told apart).puts
