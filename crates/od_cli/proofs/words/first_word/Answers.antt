use Rattle.od_cli.proofs.Spaces.{word_at, no_word}
use Rattle.od_cli.proofs.words.first_word.Goals as goal

pub returns-in-Some : goal.returns-in-Some
returns-in-Some c = word_at c.args.text.now _ _ c.in-Some.at c.in-Some.ensures.cases c.split_at.ensures.front c.split_at-in-Some.ensures.back

pub returns-in-None : goal.returns-in-None
returns-in-None c = no_word c.args.text.now c.in-None.ensures.cases
