use Rattle.std.proofs.Common.{refl}
use Rattle.clap.proofs.OnLiterals.{clap_on_literals}
use Rattle.gd_words.specs.Words.{serving_of}
use Rattle.gd_words.proofs.instances.words_serve.Goals as goal

pub returns-clause-port : goal.returns-clause-port
unfolding clap_on_literals serving_of
returns-clause-port c = refl

pub returns-clause-both : goal.returns-clause-both
unfolding clap_on_literals serving_of
returns-clause-both c = refl
