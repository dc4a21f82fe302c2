use Rattle.gd_item.specs.Steps.{state_of}
use Rattle.od_sends.proofs.Fetching.{fetch-fits}
use Rattle.od_sends.proofs.Fitting.{send-fits}
use Rattle.od_sends.proofs.laws.each_answer_fits.Goals as goal

pub returns-clause-fetch : goal.returns-clause-fetch
returns-clause-fetch c = λ id digest size old part exchanges outcome ran told. fetch-fits id digest size exchanges outcome (state_of old) part ran told

pub returns-clause-send : goal.returns-clause-send
returns-clause-send c = λ to bytes old part exchanges outcome ran told apart. send-fits to bytes old part exchanges outcome ran told apart
