use Rattle.gd_http.proofs.Said.{reply_done, reply_bad, meaningless}
use Rattle.gd_http.proofs.laws.whole_reply_done.Goals as goal

pub returns-clause-done : goal.returns-clause-done
returns-clause-done c = reply_done

pub returns-clause-bad : goal.returns-clause-bad
returns-clause-bad c = reply_bad

pub returns-clause-for_good : goal.returns-clause-for_good
returns-clause-for_good c = meaningless
