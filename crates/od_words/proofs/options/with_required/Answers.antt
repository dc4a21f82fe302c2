use Rattle.std.proofs.Common.{refl}
use Rattle.od_words.proofs.Finding.{one_more}
use Rattle.od_words.proofs.options.with_required.Goals as goal

pub returns : goal.returns
returns c =
    one_more _ _ _ _ _ (c.in_ok-command-5.ensures.shape c.required-5.ensures.global)
    (one_more _ _ _ _ _ (c.in_ok-command-4.ensures.shape c.required-4.ensures.global)
    (one_more _ _ _ _ _ (c.in_ok-command-3.ensures.shape c.required-3.ensures.global)
    (one_more _ _ _ _ _ (c.in_ok-command-2.ensures.shape c.required-2.ensures.global)
    (one_more _ _ _ _ _ (c.in_ok-command.ensures.shape c.required.ensures.global) refl c.required.ensures.rule)
    c.required-2.ensures.rule) c.required-3.ensures.rule) c.required-4.ensures.rule) c.required-5.ensures.rule
