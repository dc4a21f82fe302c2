use Rattle.std.proofs.Common.{◌∙◌}
use Rattle.gd_names.proofs.Escapes.{decoded_after_cuts}
use Rattle.gd_names.proofs.escape.has_whole_escapes.Goals as goal

pub loop-rest-preserved : goal.loop-rest-preserved
loop-rest-preserved c =
    decoded_after_cuts c.loop-rest.rest.now c.in-len1-up.len_at_least c.if-byte-ne37.false c.in-len2-up.len_at_least c.if-not-is_hexadecimal.ensures c.if-not-is_hexadecimal-2.ensures ∙ c.loop-rest.invariant
