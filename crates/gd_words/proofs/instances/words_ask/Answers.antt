use Rattle.std.proofs.Common.{refl}
use Rattle.clap.proofs.OnLiterals.{clap_on_literals}
use Rattle.gd_words.specs.Words.{asks}
use Rattle.gd_words.proofs.instances.words_ask.Goals as goal

pub returns-clause-help : goal.returns-clause-help
unfolding clap_on_literals asks
returns-clause-help c = refl

pub returns-clause-serve : goal.returns-clause-serve
unfolding clap_on_literals asks
returns-clause-serve c = refl

pub returns-clause-version : goal.returns-clause-version
unfolding clap_on_literals asks
returns-clause-version c = refl

pub returns-clause-nothing : goal.returns-clause-nothing
unfolding clap_on_literals asks
returns-clause-nothing c = refl

pub returns-clause-serves : goal.returns-clause-serves
unfolding clap_on_literals asks
returns-clause-serves c = refl
