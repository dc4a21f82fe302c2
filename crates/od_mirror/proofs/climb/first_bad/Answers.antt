use Rattle.std.proofs.Common.{◌∙◌, sym}
use Rattle.od_mirror.specs.Pulled.{nodes}
use Rattle.od_mirror.proofs.Misfits.{all-fit, first-bad}
use Rattle.od_mirror.proofs.climb.first_bad.Goals as goal

pub returns-then-is_folder_there-clause-none : goal.returns-then-is_folder_there-clause-none
returns-then-is_folder_there-clause-none c none =
    all-fit (nodes c.args.items.now) (sym c.if-is_folder_there.ensures) (sym c.in_ok-first.ensures ∙ none)

pub returns-then-is_folder_there-clause-some : goal.returns-then-is_folder_there-clause-some
returns-then-is_folder_there-clause-some c number some =
    first-bad (nodes c.args.items.now) number c.requires (sym c.if-is_folder_there.ensures) (sym c.in_ok-first.ensures ∙ some)
