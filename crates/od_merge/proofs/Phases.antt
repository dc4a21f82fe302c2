-- What a kind of step leaves at a path.
use Rattle.std.proofs.Common.{◌≡◌, Bool, true, false, ◌&&◌, ◌||◌, cond, List, [], ◌∷◌, ◌++◌, map, filter, Option, refl, ap, sym, ◌∙◌}
use Rattle.std.proofs.lemmas.Bool.{true≢false, false≢true}
use Rattle.od_merge.specs.declared.content.Content.{Content}
use Rattle.od_merge.specs.Sides.{is_path}
use Rattle.od_merge.specs.Steps.{done, steps_at}
use Rattle.od_merge.proofs.Lists.{Path, is_in, same-path}

pub done-then : (a b : List (Path × Option Content)) (q : Path) (there : Option Content) → done (a ++ b) q there ≡ done b q (done a q there)
done-then [] b q there = refl
done-then (step ∷ a) b q there = done-then a b q (cond (is_path q step.0) step.1 there)

abbrev pub as_steps : (Path → Option Content) → List Path → List (Path × Option Content)
as_steps leaves paths = map (λ path. (path, leaves path)) paths

done-cond : (t : Bool) (leaves : Path → Option Content) (q path : Path) (rest : List Path) (there : Option Content)
    → done (as_steps leaves (cond t (path ∷ rest) rest)) q there ≡ cond t (done (as_steps leaves rest) q (cond (is_path q path) (leaves path) there)) (done (as_steps leaves rest) q there)
done-cond true leaves q path rest there = refl
done-cond false leaves q path rest there = refl

-- t and here are of the path that comes first, is whether it is the one asked for
one : (t tq is in_rest : Bool) (left left_q there : Option Content) → (is ≡ true → (t ≡ tq) × (left ≡ left_q))
    → cond t (cond (tq && in_rest) left_q (cond is left there)) (cond (tq && in_rest) left_q there) ≡ cond (tq && (is || in_rest)) left_q there
one true true true true left left_q there same = refl
one true true true false left left_q there same = (same refl).1
one true false true in_rest left left_q there same = absurd (true≢false (same refl).0)
one true tq false in_rest left left_q there same = refl
one false true true in_rest left left_q there same = absurd (false≢true (same refl).0)
one false false true in_rest left left_q there same = refl
one false tq false in_rest left left_q there same = refl

none : (t : Bool) (left there : Option Content) → there ≡ cond (t && false) left there
none true left there = refl
none false left there = refl

pub chosen : (test : Path → Bool) (leaves : Path → Option Content) (q : Path) (paths : List Path) (there : Option Content)
    → done (steps_at test leaves paths) q there ≡ cond (test q && is_in q paths) (leaves q) there
chosen test leaves q [] there = none (test q) (leaves q) there
chosen test leaves q (path ∷ paths) there =
    done-cond (test path) leaves q path (filter test paths) there
    ∙ (ap (λ x. cond (test path) x (done (steps_at test leaves paths) q there)) (chosen test leaves q paths (cond (is_path q path) (leaves path) there))
    ∙ (ap (λ x. cond (test path) (cond (test q && is_in q paths) (leaves q) (cond (is_path q path) (leaves path) there)) x) (chosen test leaves q paths there)
    ∙ one (test path) (test q) (is_path q path) (is_in q paths) (leaves path) (leaves q) there
    (λ is. (ap test (sym (same-path q path is)), ap leaves (sym (same-path q path is))))))
