use Rattle.std.proofs.Common.{refl}
use Rattle.clap.proofs.OnLiterals.{clap_on_literals}
use Rattle.od_words.specs.Commands.{replay_of, sync_of}
use Rattle.od_words.proofs.instances.a_replay_is_read.Goals as goal

pub returns-clause-host : goal.returns-clause-host
unfolding clap_on_literals replay_of sync_of
returns-clause-host c = refl

pub returns-clause-generate : goal.returns-clause-generate
unfolding clap_on_literals replay_of sync_of
returns-clause-generate c = refl
