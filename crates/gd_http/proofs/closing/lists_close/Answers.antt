use Rattle.std.proofs.Common.{refl, sym, ◌∙◌}
use Rattle.gd_target.specs.Queries.{shown}
use Rattle.gd_http.proofs.Closings.{word_closes, word_other}
use Rattle.gd_http.proofs.closing.lists_close.Goals as goal

pub returns-then-is_close : goal.returns-then-is_close
returns-then-is_close c =
    sym (sym c.words.invariant ∙ word_closes c.words.rest.now c.cut.result.0.now (shown c.cut.result.1) c.cut.ensures.parts (sym c.if-is_close.ensures))

pub returns-in_default : goal.returns-in_default
returns-in_default c =
    sym
    (sym c.words.invariant ∙ word_other c.words.rest.now c.cut.result.0.now (shown c.cut.result.1) c.cut.ensures.parts (sym c.if-is_close.ensures) ∙ rw c.in_default.is refl)

pub words-preserved : goal.words-preserved
words-preserved c =
    let on = sym (word_other c.words.rest.now c.cut.result.0.now (shown c.cut.result.1) c.cut.ensures.parts (sym c.if-is_close.ensures)) ∙ c.words.invariant in
    rw c.in-Some.is at on
