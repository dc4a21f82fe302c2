use Rattle.std.proofs.Common.{◌<◌, refl, arith}
use Rattle.std.proofs.lemmas.List.Elements.{All-from_get_or}
use Rattle.gd_names.proofs.Escapes.{escaped_is}
use Rattle.gd_names.proofs.escape.push_escaped.Goals as goal

pub returns : goal.returns
returns c =
    let small = All-from_get_or (λ b. b < 256) c.args.name.now 0 (λ i within. omega (arith, c.type_inv.name i)) in
    rw (c.in_ok-append_to.ensures.ok, c.percent_encode.ensures.text, escaped_is c.args.name.now small) refl
