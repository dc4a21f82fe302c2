use Rattle.clap.specs.Words.{found_of}
use Rattle.od_words.proofs.Finding.{found_text, found_no_text}
use Rattle.od_words.proofs.found.optional.Goals as goal

pub returns-in_ok-from_str-in-Some-clause-ok : goal.returns-in_ok-from_str-in-Some-clause-ok
returns-in_ok-from_str-in-Some-clause-ok c = found_text (found_of c.args.matches.now) c.args.id.now c.in_ok-from_str-in-Some.field-0 c.in-Some.text.now c.in-Some.ensures c.in_ok-from_str-in-Some.ensures

pub returns-in-None-clause-ok : goal.returns-in-None-clause-ok
returns-in-None-clause-ok c = found_no_text (found_of c.args.matches.now) c.args.id.now c.in-None.ensures
