use Rattle.gd_item.proofs.LogsFragments.{multiple-answer, range-answer, total-answer}
use Rattle.gd_item.proofs.session_instances.fragments_refused.Goals as goal

pub returns-clause-multiple : goal.returns-clause-multiple
returns-clause-multiple c = multiple-answer

pub returns-clause-range : goal.returns-clause-range
returns-clause-range c = range-answer

pub returns-clause-total : goal.returns-clause-total
returns-clause-total c = total-answer
