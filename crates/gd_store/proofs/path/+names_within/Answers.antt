use Rattle.std.proofs.Common.{◌∷◌, [], ◌++◌, Some, ap, sym, ◌∙◌}
use Rattle.std.specs.Option.{option_copied}
use Rattle.gd_store.proofs.Climbs.{nothing, no-folder, with-folder}
use Rattle.gd_store.proofs.path.+names_within.Goals as goal

pub returns-in_default : goal.returns-in_default
returns-in_default t c = nothing c.args.steps c.args.items.now c.args.number c.if-number-eq1.false c.if-steps-eq0.false (sym (ap option_copied c.in_default.is) ∙ c.get.ensures)

pub returns-then-not-is_a_folder : goal.returns-then-not-is_a_folder
returns-then-not-is_a_folder t c =
    no-folder c.args.steps c.args.items.now c.args.number c.in-Some.item.now c.if-number-eq1.false c.if-steps-eq0.false (sym (ap option_copied c.in-Some.is) ∙ c.get.ensures)
    (sym c.if-not-is_a_folder.true ∙ c.is_a_folder.ensures)

pub returns-in-None : goal.returns-in-None
returns-in-None t c =
    with-folder c.args.steps c.args.items.now c.args.number c.in-Some.item.now _ c.if-number-eq1.false c.if-steps-eq0.false (sym (ap option_copied c.in-Some.is) ∙ c.get.ensures)
    (sym c.if-not-is_a_folder.false ∙ c.is_a_folder.ensures) (sym c.in-None.is ∙ c.in_ok-names_within.ensures)

pub returns-in_ok-push-in-Some-2 : goal.returns-in_ok-push-in-Some-2
returns-in_ok-push-in-Some-2 t c =
    ap Some (c.in_ok-push-in-Some-2.ensures.ok ∙ ap (λ name. c.in-Some-2.names ++ name ∷ []) c.in_ok-clone-in-Some-2.ensures.cases)
    ∙ with-folder c.args.steps c.args.items.now c.args.number c.in-Some.item.now _ c.if-number-eq1.false c.if-steps-eq0.false (sym (ap option_copied c.in-Some.is) ∙ c.get.ensures)
    (sym c.if-not-is_a_folder.false ∙ c.is_a_folder.ensures) (sym c.in-Some-2.is ∙ c.in_ok-names_within.ensures)
