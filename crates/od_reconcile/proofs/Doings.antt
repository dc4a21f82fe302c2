-- What the lists of a plan do at a path.
use Rattle.std.proofs.Common.{◌≡◌, Bool, true, false, ◌&&◌, ◌||◌, cond, List, [], ◌∷◌, ◌++◌, map, filter, Option, Some, None, refl, ap, sym, subst, ◌∙◌}
use Rattle.std.proofs.lemmas.Bool.{false≢true, or_left, or_right}
use Rattle.std.specs.List.{cons_option, filter_map}
use Rattle.od_merge.specs.declared.content.Content.{Content}
use Rattle.od_merge.specs.declared.content.Content.TheVariants.{Folder}
use Rattle.od_merge.specs.Sides.{is_path}
use Rattle.od_merge.specs.Steps.{deepest_first, done, steps_at}
use Rattle.od_merge.proofs.Lists.{Path, deepest-in, is_in, path-self, same-path}
use Rattle.od_merge.proofs.Phases.{chosen, done-then}
use Rattle.od_reconcile.specs.Doing.{Step}

-- ---- what a step gives, if there is one
abbrev pub then_by : {X Y : Type 0} → (X → Option Y) → Option X → Option Y
then_by g None = None
then_by g (Some x) = g x

picked-at : {Y Z : Type 0} (g : Y → Option Z) (y : Option Y) (ys : List Y) → filter_map g (cons_option y ys) ≡ cons_option (then_by g y) (filter_map g ys)
picked-at g None ys = refl
picked-at g (Some y) ys = refl

pub picked : {X Y Z : Type 0} (f : X → Option Y) (g : Y → Option Z) (xs : List X) → filter_map g (filter_map f xs) ≡ filter_map (λ x. then_by g (f x)) xs
picked f g [] = refl
picked f g (x ∷ xs) = picked-at g (f x) (filter_map f xs) ∙ ap (λ zs. cons_option (then_by g (f x)) zs) (picked f g xs)

pub same-map : {X Y : Type 0} (f g : X → Option Y) (xs : List X) → ((x : X) → f x ≡ g x) → filter_map f xs ≡ filter_map g xs
same-map f g [] same = refl
same-map f g (x ∷ xs) same = ap (λ y. cons_option y (filter_map f xs)) (same x) ∙ ap (λ ys. cons_option (g x) ys) (same-map f g xs same)

pub none-map : {X Y : Type 0} (f : X → Option Y) (xs : List X) → ((x : X) → f x ≡ None) → filter_map f xs ≡ []
none-map f [] none = refl
none-map f (x ∷ xs) none = ap (λ y. cons_option y (filter_map f xs)) (none x) ∙ none-map f xs none

-- the paths that have a property, and a step at each of them
abbrev pub if_is : {X : Type 0} → Bool → X → Option X
if_is t x = cond t (Some x) None

chosen-at : (t : Bool) (path : Path) (rest kept : List Path) → rest ≡ kept → cons_option (if_is t path) rest ≡ cond t (path ∷ kept) kept
chosen-at true path rest kept is = ap (λ (ps : List Path). path ∷ ps) is
chosen-at false path rest kept is = is

pub chosen-list : (test : Path → Bool) (paths : List Path) → filter_map (λ path. if_is (test path) path) paths ≡ filter test paths
chosen-list test [] = refl
chosen-list test (path ∷ paths) = chosen-at (test path) path (filter_map (λ path. if_is (test path) path) paths) (filter test paths) (chosen-list test paths)

steps-list-at : (t : Bool) (path : Path) (leaves : Path → Option Content) (rest : List Step) (kept : List Path) → rest ≡ map (λ path. (path, leaves path)) kept
    → cons_option (if_is t (path, leaves path)) rest ≡ map (λ path. (path, leaves path)) (cond t (path ∷ kept) kept)
steps-list-at true path leaves rest kept is = ap (λ (ss : List Step). (path, leaves path) ∷ ss) is
steps-list-at false path leaves rest kept is = is

pub steps-list : (test : Path → Bool) (leaves : Path → Option Content) (paths : List Path) → filter_map (λ path. if_is (test path) (path, leaves path)) paths ≡ steps_at test leaves paths
steps-list test leaves [] = refl
steps-list test leaves (path ∷ paths) =
    steps-list-at (test path) path leaves (filter_map (λ path. if_is (test path) (path, leaves path)) paths) (filter test paths) (steps-list test leaves paths)

-- ---- what is in such a list
some-path : (a b : Path) → Some a ≡ Some b → a ≡ b
some-path a b is = cc is

in-picked-at : (y : Option Path) (q : Path) (ys : List Path) → y ≡ Some q → is_in q (cons_option y ys) ≡ true
in-picked-at None q ys is = absurd (cc is)
in-picked-at (Some path) q ys is = or_left (is_path q path) (is_in q ys) (subst (λ (p : Path). is_path q p ≡ true) (sym (some-path path q is)) (path-self q))

in-more : (y : Option Path) (q : Path) (ys : List Path) → is_in q ys ≡ true → is_in q (cons_option y ys) ≡ true
in-more None q ys has = has
in-more (Some path) q ys has = or_right (is_path q path) (is_in q ys) has

in-picked-by : (t : Bool) (f : Path → Option Path) (q p first : Path) (paths : List Path) → is_path p first ≡ t → (t || is_in p paths) ≡ true → f p ≡ Some q
    → (is_in p paths ≡ true → is_in q (filter_map f paths) ≡ true) → is_in q (cons_option (f first) (filter_map f paths)) ≡ true
in-picked-by true f q p first paths is has gives rest = in-picked-at (f first) q (filter_map f paths) (sym (ap f (same-path p first is)) ∙ gives)
in-picked-by false f q p first paths is has gives rest = in-more (f first) q (filter_map f paths) (rest has)

pub in-picked : (f : Path → Option Path) (q p : Path) (paths : List Path) → is_in p paths ≡ true → f p ≡ Some q → is_in q (filter_map f paths) ≡ true
in-picked f q p [] has gives = absurd (false≢true has)
in-picked f q p (first ∷ paths) has gives = in-picked-by (is_path p first) f q p first paths refl has gives (λ more. in-picked f q p paths more gives)

came-or : (t : Bool) (f : Path → Option Path) (q first got : Path) (paths : List Path) → f first ≡ Some got → is_path q got ≡ t → (t || is_in q (filter_map f paths)) ≡ true
    → (is_in q (filter_map f paths) ≡ true → (p : Path) × (is_in p paths ≡ true) × (f p ≡ Some q)) → (p : Path) × (is_in p (first ∷ paths) ≡ true) × (f p ≡ Some q)
came-or true f q first got paths gives is has rest =
    (first, or_left (is_path first first) (is_in first paths) (path-self first), gives ∙ ap (λ (p : Path). Some p) (sym (same-path q got is)))
came-or false f q first got paths gives is has rest = let more = rest has in (more.0, or_right (is_path more.0 first) (is_in more.0 paths) more.1, more.2)

came-at : (y : Option Path) (f : Path → Option Path) (q first : Path) (paths : List Path) → f first ≡ y → is_in q (cons_option y (filter_map f paths)) ≡ true
    → (is_in q (filter_map f paths) ≡ true → (p : Path) × (is_in p paths ≡ true) × (f p ≡ Some q)) → (p : Path) × (is_in p (first ∷ paths) ≡ true) × (f p ≡ Some q)
came-at None f q first paths gives has rest = let more = rest has in (more.0, or_right (is_path more.0 first) (is_in more.0 paths) more.1, more.2)
came-at (Some got) f q first paths gives has rest = came-or (is_path q got) f q first got paths gives refl has rest

pub came-from : (f : Path → Option Path) (q : Path) (paths : List Path) → is_in q (filter_map f paths) ≡ true → (p : Path) × (is_in p paths ≡ true) × (f p ≡ Some q)
came-from f q [] has = absurd (false≢true has)
came-from f q (first ∷ paths) has = came-at (f first) f q first paths refl has (came-from f q paths)

-- ---- what one thing at each path of a list leaves
twice : {X : Type 0} (a b : Bool) (x there : X) → cond b x (cond a x there) ≡ cond (a || b) x there
twice true true x there = refl
twice true false x there = refl
twice false b x there = refl

pub done-each : (x : Option Content) (q : Path) (paths : List Path) (there : Option Content) → done (map (λ path. (path, x)) paths) q there ≡ cond (is_in q paths) x there
done-each x q [] there = refl
done-each x q (path ∷ paths) there = done-each x q paths (cond (is_path q path) x there) ∙ twice (is_path q path) (is_in q paths) x there

-- steps that leave what is to stand at their paths
abbrev pub AllLeave : (Path → Option Content) → List Step → Type 0
AllLeave leaves [] = Unit {0}
AllLeave leaves (step ∷ steps) = (step.1 ≡ leaves step.0) × AllLeave leaves steps

abbrev pub places : List Step → List Path
places steps = map (λ (step : Step). step.0) steps

one-leaves : (t : Bool) (leaves : Path → Option Content) (q path : Path) (x there : Option Content) → is_path q path ≡ t → x ≡ leaves path → cond t x there ≡ cond t (leaves q) there
one-leaves true leaves q path x there is left = left ∙ ap leaves (sym (same-path q path is))
one-leaves false leaves q path x there is left = refl

pub done-leaves : (leaves : Path → Option Content) (q : Path) (steps : List Step) (there : Option Content) → AllLeave leaves steps → done steps q there ≡ cond (is_in q (places steps)) (leaves q) there
done-leaves leaves q [] there all = refl
done-leaves leaves q (step ∷ steps) there all =
    done-leaves leaves q steps (cond (is_path q step.0) step.1 there) all.1
    ∙ (ap (λ (x : Option Content). cond (is_in q (places steps)) (leaves q) x) (one-leaves (is_path q step.0) leaves q step.0 step.1 there refl all.0)
    ∙ twice (is_path q step.0) (is_in q (places steps)) (leaves q) there)

-- three kinds of step, one after the other
pub three-kinds : (gone folder put : Path → Bool) (leaves : Path → Option Content) (q : Path) (paths : List Path) (there : Option Content)
    → done (steps_at gone (λ path. None) (deepest_first paths) ++ (steps_at folder (λ path. Some Folder) paths ++ steps_at put leaves paths)) q there
    ≡ cond (put q && is_in q paths) (leaves q) (cond (folder q && is_in q paths) (Some Folder) (cond (gone q && is_in q paths) None there))
three-kinds gone folder put leaves q paths there =
    let first = done (steps_at gone (λ path. None) (deepest_first paths)) q there in
    let second = done (steps_at folder (λ path. Some Folder) paths) q first in
    done-then (steps_at gone (λ path. None) (deepest_first paths)) (steps_at folder (λ path. Some Folder) paths ++ steps_at put leaves paths) q there
    ∙ (done-then (steps_at folder (λ path. Some Folder) paths) (steps_at put leaves paths) q first
    ∙ (chosen put leaves q paths second
    ∙ ap (λ (x : Option Content). cond (put q && is_in q paths) (leaves q) x)
    (chosen folder (λ path. Some Folder) q paths first
    ∙ ap (λ (x : Option Content). cond (folder q && is_in q paths) (Some Folder) x)
    (chosen gone (λ path. None) q (deepest_first paths) there ∙ ap (λ (b : Bool). cond (gone q && b) None there) (deepest-in q paths)))))
