use Rattle.std.proofs.Common.{refl}
use Rattle.clap.proofs.OnLiterals.{clap_on_literals}
use Rattle.od_words.specs.Commands.{replay_of, sync_of}
use Rattle.od_words.proofs.instances.words_are_refused.Goals as goal

pub returns-clause-alone : goal.returns-clause-alone
unfolding clap_on_literals replay_of sync_of
returns-clause-alone c = refl

pub returns-clause-too_many : goal.returns-clause-too_many
unfolding clap_on_literals replay_of sync_of
returns-clause-too_many c = refl

pub returns-clause-twice : goal.returns-clause-twice
unfolding clap_on_literals replay_of sync_of
returns-clause-twice c = refl
