use Rattle.std.proofs.Common.{ℕ, Bor, List, [], ◌∷◌, ◌++◌, Some, ap, sym, ◌∙◌}
use Rattle.std.specs.Option.{option_map}
use Rattle.gd_store.proofs.Moves.{moved-nothing, moved-no-folder, moved-with-folder}
use Rattle.gd_store.proofs.moving.+moved_names.Goals as goal

pub returns-in_default : goal.returns-in_default
returns-in_default t c =
    moved-nothing c.args.moved c.args.parent c.args.name.now c.args.items.now c.args.steps c.args.number c.if-number-eq1.false c.if-steps-eq0.false
    (sym (ap (option_map (λ (p : ℕ × Bor (List ℕ)). (p.0, p.1.now))) c.in_default.is) ∙ c.moved_place.ensures)

pub returns-then-not-is_a_folder : goal.returns-then-not-is_a_folder
returns-then-not-is_a_folder t c =
    moved-no-folder c.args.moved c.args.parent c.args.name.now c.args.items.now c.args.steps c.args.number _ c.if-number-eq1.false c.if-steps-eq0.false
    (sym (ap (option_map (λ (p : ℕ × Bor (List ℕ)). (p.0, p.1.now))) c.in-Some.is) ∙ c.moved_place.ensures) (sym c.if-not-is_a_folder.true ∙ c.is_a_folder.ensures)

pub returns-in-None : goal.returns-in-None
returns-in-None t c =
    moved-with-folder c.args.moved c.args.parent c.args.name.now c.args.items.now c.args.steps c.args.number _ _ c.if-number-eq1.false c.if-steps-eq0.false
    (sym (ap (option_map (λ (p : ℕ × Bor (List ℕ)). (p.0, p.1.now))) c.in-Some.is) ∙ c.moved_place.ensures) (sym c.if-not-is_a_folder.false ∙ c.is_a_folder.ensures) (sym c.in-None.is ∙ c.in_ok-moved_names.ensures)

pub returns-in_ok-push-in-Some-2 : goal.returns-in_ok-push-in-Some-2
returns-in_ok-push-in-Some-2 t c =
    ap Some (c.in_ok-push-in-Some-2.ensures.ok ∙ ap (λ name. c.in-Some-2.names ++ name ∷ []) c.in_ok-clone-in-Some-2.ensures.cases)
    ∙ moved-with-folder c.args.moved c.args.parent c.args.name.now c.args.items.now c.args.steps c.args.number _ _ c.if-number-eq1.false c.if-steps-eq0.false
    (sym (ap (option_map (λ (p : ℕ × Bor (List ℕ)). (p.0, p.1.now))) c.in-Some.is) ∙ c.moved_place.ensures) (sym c.if-not-is_a_folder.false ∙ c.is_a_folder.ensures) (sym c.in-Some-2.is ∙ c.in_ok-moved_names.ensures)
