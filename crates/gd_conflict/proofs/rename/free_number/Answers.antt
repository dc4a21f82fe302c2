use Rattle.gd_conflict.proofs.LeastNumber.{first_free, none_free}
use Rattle.gd_conflict.proofs.rename.free_number.Goals as goal

pub returns-in-Some : goal.returns-in-Some
returns-in-Some c =
    first_free c.args.siblings.now c.args.name.now c.args.folder c.as_slice.result.now c.in_ok-numbers.numbers.items c.as_slice.ensures.value c.in_ok-numbers.ensures.len c.in_ok-numbers.ensures.taken c.in-Some.number c.in-Some.ensures

pub returns : goal.returns
returns c =
    none_free c.args.siblings.now c.args.name.now c.args.folder c.as_slice.result.now c.in_ok-numbers.numbers.items c.as_slice.ensures.value c.in_ok-numbers.ensures.len c.in_ok-numbers.ensures.taken c.in-None.ensures
