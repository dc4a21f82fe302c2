use Rattle.gd_item.proofs.LogsFragments.{first-answer, second-answer, again-answer, third-answer, made-items, sent-status}
use Rattle.gd_item.proofs.session_instances.large_file_sent.Goals as goal

pub returns-clause-first : goal.returns-clause-first
returns-clause-first c = first-answer

pub returns-clause-second : goal.returns-clause-second
returns-clause-second c = second-answer

pub returns-clause-again : goal.returns-clause-again
returns-clause-again c = again-answer

pub returns-clause-third : goal.returns-clause-third
returns-clause-third c = third-answer

pub returns-clause-made : goal.returns-clause-made
returns-clause-made c = made-items

pub returns-clause-status : goal.returns-clause-status
returns-clause-status c = sent-status
