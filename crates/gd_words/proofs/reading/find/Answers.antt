use Rattle.std.proofs.Common.{◌∙◌, ap}
use Rattle.std.proofs.lemmas.Bool.{and_parts}
use Rattle.gd_words.specs.Words.{serving_under}
use Rattle.gd_words.proofs.reading.find.Goals as goal

pub returns-in-Ok-clause-found : goal.returns-in-Ok-clause-found
returns-in-Ok-clause-found c = c.serving_found.ensures ∙ ap serving_under (c.in-Ok.ensures.matches (and_parts _ _ c.requires).0).1
