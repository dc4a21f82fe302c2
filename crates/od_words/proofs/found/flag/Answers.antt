use Rattle.std.proofs.Common.{◌∙◌, Some, None}
use Rattle.clap.specs.Words.{found_of}
use Rattle.od_words.proofs.Finding.{found_flag}
use Rattle.od_words.proofs.found.flag.Goals as goal

pub returns-in-Some : goal.returns-in-Some
returns-in-Some c = c.eq.ensures ∙ found_flag (found_of c.args.matches.now) c.args.id.now (Some c.in-Some.text.now) c.in-Some.ensures

pub returns-in-None : goal.returns-in-None
returns-in-None c = found_flag (found_of c.args.matches.now) c.args.id.now None c.in-None.ensures
