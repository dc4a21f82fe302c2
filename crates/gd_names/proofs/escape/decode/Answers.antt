use Rattle.std.proofs.Common.{◌∙◌, sym}
use Rattle.gd_names.proofs.Escapes.{decoded_is}
use Rattle.gd_names.proofs.escape.decode.Goals as goal

pub returns-clause-ok : goal.returns-clause-ok
returns-clause-ok c =
    rw (c.in_ok-append_to.ensures.ok, c.new-bytes.ensures.items, c.percent_decode.ensures.bytes)
    (decoded_is c.args.segment.now (sym c.has_whole_escapes.ensures ∙ c.if-not-has_whole_escapes.false))
