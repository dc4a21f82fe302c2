use Rattle.std.proofs.Common.{map, string_bytes, ◌∙◌}
use Rattle.std.proofs.lemmas.Bool.{and_parts}
use Rattle.clap.specs.Words.{app_of, fault_of, found_of, matches_of, rows_of}
use Rattle.od_words.proofs.Finding.{found_rows, refused}
use Rattle.od_words.proofs.found.find.Goals as goal

pub returns-in-Ok-clause-ok : goal.returns-in-Ok-clause-ok
returns-in-Ok-clause-ok c =
    found_rows (app_of c.args.command) (map string_bytes c.args.words.now) (rows_of (found_of c.in-Ok.matches)) (c.in-Ok.ensures.kinds c.requires)
    (c.in-Ok.ensures.matches (and_parts _ _ c.requires).0).0

pub returns : goal.returns
returns c = record {
  ok = tt;
  usage = λ usage. refused (fault_of (app_of c.args.command) (map string_bytes c.args.words.now)) (matches_of (app_of c.args.command) (map string_bytes c.args.words.now)) _
      (λ same. c.in_default.not-OutOfMemory (c.kind.ensures ∙ same)) (c.in-Err.ensures.kinds c.requires);
}
