use Rattle.std.proofs.Common.{refl}
use Rattle.clap.proofs.OnLiterals.{clap_on_literals}
use Rattle.gd_words.specs.Words.{serving_of}
use Rattle.gd_words.proofs.instances.words_are_refused.Goals as goal

pub returns-clause-none : goal.returns-clause-none
unfolding clap_on_literals serving_of
returns-clause-none c = refl

pub returns-clause-alone : goal.returns-clause-alone
unfolding clap_on_literals serving_of
returns-clause-alone c = refl

pub returns-clause-zero : goal.returns-clause-zero
unfolding clap_on_literals serving_of
returns-clause-zero c = refl

pub returns-clause-past : goal.returns-clause-past
unfolding clap_on_literals serving_of
returns-clause-past c = refl

pub returns-clause-twice : goal.returns-clause-twice
unfolding clap_on_literals serving_of
returns-clause-twice c = refl
