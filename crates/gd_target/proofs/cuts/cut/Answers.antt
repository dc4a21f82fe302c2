use Rattle.gd_target.proofs.Cutting.{only_part, first_part}
use Rattle.gd_target.proofs.cuts.cut.Goals as goal

pub returns-in-empty-clause-parts : goal.returns-in-empty-clause-parts
returns-in-empty-clause-parts c =
    only_part c.args.at c.args.text.now _ _ c.byte_or_end.result c.byte_or_end.ensures.within c.byte_or_end.ensures.before c.split_at.ensures.front c.split_at.ensures.back c.in-empty.len_below

pub returns-in-len1-up-clause-parts : goal.returns-in-len1-up-clause-parts
returns-in-len1-up-clause-parts c =
    first_part c.args.at c.args.text.now _ _ c.byte_or_end.result c.byte_or_end.ensures.within c.byte_or_end.ensures.before c.byte_or_end.ensures.found c.split_at.ensures.front c.split_at.ensures.back c.in-len1-up.len_at_least
