-- Each step of a plan can be done at its turn.
use Rattle.std.proofs.Common.{◌≡◌, ◌⊎◌, inl, inr, Bool, true, false, ◌||◌, cond, is_some, nat_lt, length, arith, List, [], ◌∷◌, ◌++◌, map, Option, Some, None, refl, ap, sym, subst, ◌∙◌}
use Rattle.std.proofs.lemmas.Bool.{true≢false, false≢true, and_parts, or_from, false_from_ne_true, ltb-true, cond-true, cond-false}
use Rattle.std.specs.Ordering.{ordering_reverse}
use Rattle.std.specs.declared.cmp.Ordering.{Ordering}
use Rattle.std.specs.declared.cmp.Ordering.TheVariants.{Less, Equal, Greater}
use Rattle.gd_names.proofs.Ordered.{paths-total}
use Rattle.std.specs.List.Sorted.{IsStrictlySortedBy}
use Rattle.gd_names.specs.Ordered.{path_cmp}
use Rattle.od_merge.specs.declared.content.Content.{Content}
use Rattle.od_merge.specs.declared.content.Content.TheVariants.{Folder, File}
use Rattle.od_merge.specs.Sides.{is_below, is_folder, is_from, is_path}
use Rattle.od_merge.specs.Steps.{done}
use Rattle.od_merge.proofs.Lists.{Path, is_in, same-path}
use Rattle.od_merge.proofs.Order.{Above, Apart, Rises, below-later}
use Rattle.od_merge.proofs.Turns.{Falls, head-in, tail-in}
use Rattle.od_reconcile.specs.Doing.{CanDo, CanStep, Standing, Step, after}
use Rattle.od_merge.proofs.SideFacts.{either}

-- one list after another
pub joined-can : (a b : List Step) (there : Standing) → CanDo a there → CanDo b (λ path. done a path (there path)) → CanDo (a ++ b) there
joined-can [] b there first second = second
joined-can (step ∷ a) b there first second = (first.0, joined-can a b (after there step) first.1 second)

-- what a step does not leave stands as it did
apart-after : (there : Standing) (path : Path) (x : Option Content) (q : Path) → is_path q path ≡ false → after there (path, x) q ≡ there q
apart-after there path x q other = cond-false (is_path q path) x (there q) other

own-after : (there : Standing) (path : Path) (x : Option Content) (q : Path) → is_path q path ≡ true → after there (path, x) q ≡ x
own-after there path x q same = cond-true (is_path q path) x (there q) same

not-below-itself : (p q : Path) → is_below p q ≡ true → is_path q p ≡ false
not-below-itself p q below = false_from_ne_true (is_path q p)
    (λ same.
    let less = ltb-true (length p) (length q) (and_parts (nat_lt (length p) (length q)) (is_from p q) below).0 in
    let one : length q ≡ length p = ap (λ (x : Path). length x) (same-path q p same) in
    absurd (omega (arith, less, one)))

other-of : (q path : Path) (paths : List Path) → is_in path paths ≡ false → is_in q paths ≡ true → is_path q path ≡ false
other-of q path paths none has = false_from_ne_true (is_path q path) (λ same. true≢false (sym (subst (λ (p : Path). is_in p paths ≡ true) (same-path q path same) has) ∙ none))

or-false : (b : Bool) → (b || false) ≡ true → b ≡ true
or-false true is = refl
or-false false is = is

second-of : (a b : Bool) → (a || b) ≡ true → a ≡ false → b ≡ true
second-of true b is none = absurd (true≢false none)
second-of false b is none = is

-- ---- what goes, the deepest first
pub record MayGo (there : Standing) (paths : List Path) (path : Path) : Type 0 where
  pub stands : is_some (there path) ≡ true
  pub all_go : (other : Path) → is_below path other ≡ true → is_some (there other) ≡ true → is_in other paths ≡ true

pub can-go : (paths : List Path) (there : Standing) → Falls paths → ((path : Path) → is_in path paths ≡ true → MayGo there paths path) → CanDo (map (λ path. (path, None)) paths) there
can-go [] there falls may = tt
can-go (path ∷ paths) there falls may =
    let here = may path (head-in path paths) in (
      (
        here.stands,
        λ other below. false_from_ne_true (is_some (there other))
            (λ some.
            let more = second-of (is_path other path) (is_in other paths) (here.all_go other below some) (not-below-itself path other below) in
            let lower = falls.0 other more in
            let less = ltb-true (length path) (length other) (and_parts (nat_lt (length path) (length other)) (is_from path other) below).0 in
            absurd (omega (arith, lower, less))),
      ),
      can-go paths (after there (path, None)) falls.2
          (λ q has.
          let one = may q (tail-in q path paths has) in
          let other = other-of q path paths falls.1 has in
          record {
            stands = ap (λ (x : Option Content). is_some x) (apart-after there path None q other) ∙ one.stands;
            all_go = λ o below some.
                let apart = false_from_ne_true (is_path o path) (λ same. false≢true (sym (ap (λ (x : Option Content). is_some x) (own-after there path None o same)) ∙ some)) in
                second-of (is_path o path) (is_in o paths) (one.all_go o below (ap (λ (x : Option Content). is_some x) (sym (apart-after there path None o apart)) ∙ some)) apart;
          }),
    )

-- ---- folders, in order of path
pub record MayMake (there : Standing) (paths : List Path) (path : Path) : Type 0 where
  pub free : is_some (there path) ≡ false
  pub folders : (top : Path) → nat_lt 0 (length top) ≡ true → is_below top path ≡ true → (is_folder (there top) || is_in top paths) ≡ true

less-once : (a : Ordering) (b : Ordering) → Less ≡ a → b ≡ Less → b ≡ ordering_reverse a → ⊥
less-once Less b first second turned = cc (second, turned)
less-once Equal b first second turned = cc first
less-once Greater b first second turned = cc first

not-above-itself : (top path : Path) → is_below top path ≡ true → is_path top path ≡ false
not-above-itself top path below = false_from_ne_true (is_path top path)
    (λ same.
    let less = ltb-true (length top) (length path) (and_parts (nat_lt (length top) (length path)) (is_from top path) below).0 in
    let one : length top ≡ length path = ap (λ (x : Path). length x) (same-path top path same) in
    absurd (omega (arith, less, one)))

not-later : (top path : Path) → is_below top path ≡ true → path_cmp path top ≡ Less → ⊥
not-later top path below later = less-once (path_cmp top path) (path_cmp path top) (sym (below-later top path below)) later (paths-total.antisymm path top)

above-not-in : (top path : Path) (paths : List Path) → is_below top path ≡ true → Above path paths → is_in top paths ≡ false
above-not-in top path [] below above = refl
above-not-in top path (first ∷ paths) below above =
    or_from (is_path top first) (is_in top paths)
    (false_from_ne_true (is_path top first) (λ same. not-later top path below (subst (λ (p : Path). path_cmp path p ≡ Less) (sym (same-path top first same)) above.0)))
    (above-not-in top path paths below above.1)

made-top : (t : Bool) (there : Standing) (path : Path) (top : Path) (paths : List Path) → is_path top path ≡ t → (is_folder (there top) || (t || is_in top paths)) ≡ true
    → (is_folder (after there (path, Some Folder) top) || is_in top paths) ≡ true
made-top true there path top paths same is = ap (λ (x : Option Content). is_folder x || is_in top paths) (own-after there path (Some Folder) top same)
made-top false there path top paths other is = ap (λ (x : Option Content). is_folder x || is_in top paths) (apart-after there path (Some Folder) top other) ∙ is

pub can-make : (paths : List Path) (there : Standing) → Rises paths → Apart paths → ((path : Path) → is_in path paths ≡ true → MayMake there paths path) → CanDo (map (λ path. (path, Some Folder)) paths) there
unfolding IsStrictlySortedBy
can-make [] there rises apart may = tt
can-make (path ∷ paths) there rises apart may =
    let here = may path (head-in path paths) in (
      (
        here.free,
        λ top long below.
            either (is_folder (there top)) (is_in top (path ∷ paths)) (here.folders top long below)
            (or_from (is_path top path) (is_in top paths) (not-above-itself top path below) (above-not-in top path paths below rises.0)),
      ),
      can-make paths (after there (path, Some Folder)) rises.1 apart.1
          (λ q has.
          let one = may q (tail-in q path paths has) in
          record {
            free = ap (λ (x : Option Content). is_some x) (apart-after there path (Some Folder) q (other-of q path paths apart.0 has)) ∙ one.free;
            folders = λ top long below. made-top (is_path top path) there path top paths refl (one.folders top long below);
          }),
    )

-- ---- what is left behind by taking files away and putting others: each leaves what is to stand there, which is no folder
pub record MayPut (target : Path → Option Content) (there : Standing) (step : Step) : Type 0 where
  pub leaves : step.1 ≡ target step.0
  pub no_folder : is_folder step.1 ≡ false
  pub stands : is_some step.1 ≡ false → is_some (there step.0) ≡ true
  pub alone : is_some step.1 ≡ false → (other : Path) → is_below step.0 other ≡ true → (is_some (there other) ≡ false) × (is_some (target other) ≡ false)
  pub free : is_some step.1 ≡ true → is_folder (there step.0) ≡ false
  pub folders : is_some step.1 ≡ true → (top : Path) → nat_lt 0 (length top) ≡ true → is_below top step.0 ≡ true → (is_folder (there top) ≡ true) × (is_folder (target top) ≡ true)

-- the places from which something is taken
abbrev pub takes : List Step → List Path
takes [] = []
takes (step ∷ steps) = cond (is_some step.1) (takes steps) (step.0 ∷ takes steps)

abbrev pub InSteps : Step → List Step → Type 0
InSteps step [] = ⊥
InSteps step (first ∷ steps) = (step ≡ first) ⊎ InSteps step steps

step-can : (target : Path → Option Content) (there : Standing) (path : Path) (x : Option Content) → MayPut target there (path, x) → CanStep there path x
step-can target there path None may = (may.stands refl, λ other below. (may.alone refl other below).0)
step-can target there path (Some Folder) may = absurd (true≢false may.no_folder)
step-can target there path (Some (File d)) may = (may.free refl, λ top long below. (may.folders refl top long below).0)

takes-at : (t : Bool) (first : Step) (steps : List Step) (path : Path) → is_some first.1 ≡ t → (is_in path (takes steps) ≡ true) → is_in path (cond t (takes steps) (first.0 ∷ takes steps)) ≡ true
takes-at true first steps path is has = has
takes-at false first steps path is has = tail-in path first.0 (takes steps) has

takes-in : (steps : List Step) (step : Step) → InSteps step steps → is_some step.1 ≡ false → is_in step.0 (takes steps) ≡ true
takes-in [] step has none = absurd has
takes-in (first ∷ steps) step (inl is) none =
    let first_none : is_some first.1 ≡ false = ap (λ (s : Step). is_some s.1) (sym is) ∙ none in
    ap (λ (b : Bool). is_in step.0 (cond b (takes steps) (first.0 ∷ takes steps))) first_none
    ∙ subst (λ (s : Step). is_in step.0 (s.0 ∷ takes steps) ≡ true) is (head-in step.0 (takes steps))
takes-in (first ∷ steps) step (inr more) none = takes-at (is_some first.1) first steps step.0 refl (takes-in steps step more none)

next-takes : (t : Bool) (first : Step) (steps : List Step) → is_some first.1 ≡ t → Apart (cond t (takes steps) (first.0 ∷ takes steps)) → Apart (takes steps)
next-takes true first steps is apart = apart
next-takes false first steps is apart = apart.1

-- one that is taken is not touched by a step before it
apart-takes : (t : Bool) (first step : Step) (steps : List Step) (target : Path → Option Content) (there : Standing) → is_some first.1 ≡ t → Apart (cond t (takes steps) (first.0 ∷ takes steps))
    → MayPut target there first → MayPut target there step → InSteps step steps → is_some step.1 ≡ false → is_path step.0 first.0 ≡ false
apart-takes true first step steps target there is apart may own has none = false_from_ne_true (is_path step.0 first.0)
    (λ same. true≢false (sym (ap (λ (x : Option Content). is_some x) (sym may.leaves) ∙ is) ∙ (ap (λ (p : Path). is_some (target p)) (sym (same-path step.0 first.0 same)) ∙ (ap (λ (x : Option Content). is_some x) (sym own.leaves) ∙ none))))
apart-takes false first step steps target there is apart may own has none =
    other-of step.0 first.0 (takes steps) apart.0 (takes-in steps step has none)

kept-none : (t : Bool) (there : Standing) (first : Step) (other : Path) → is_path other first.0 ≡ t → is_some (there other) ≡ false → (t ≡ true → is_some first.1 ≡ false) → is_some (cond t first.1 (there other)) ≡ false
kept-none true there first other same none own = own refl
kept-none false there first other same none own = none

kept-free : (t : Bool) (there : Standing) (first : Step) (path : Path) → is_folder first.1 ≡ false → is_folder (there path) ≡ false → is_folder (cond t first.1 (there path)) ≡ false
kept-free true there first path own free = own
kept-free false there first path own free = free

kept-folder : (t : Bool) (target : Path → Option Content) (there : Standing) (first : Step) (top : Path) → is_path top first.0 ≡ t → first.1 ≡ target first.0 → is_folder first.1 ≡ false → is_folder (there top) ≡ true → is_folder (target top) ≡ true
    → is_folder (cond t first.1 (there top)) ≡ true
kept-folder true target there first top same leaves no_folder stands folder =
    absurd (true≢false (sym (sym (ap (λ (p : Path). is_folder (target p)) (same-path top first.0 same)) ∙ folder) ∙ (ap (λ (x : Option Content). is_folder x) (sym leaves) ∙ no_folder)))
kept-folder false target there first top same leaves no_folder stands folder = stands

next-may : (target : Path → Option Content) (there : Standing) (first step : Step) (steps : List Step) → Apart (takes (first ∷ steps)) → MayPut target there first → MayPut target there step → InSteps step steps → MayPut target (after there first) step
next-may target there first step steps apart may own has = record {
  leaves = own.leaves;
  no_folder = own.no_folder;
  stands = λ none.
      ap (λ (x : Option Content). is_some x) (apart-after there first.0 first.1 step.0 (apart-takes (is_some first.1) first step steps target there refl apart may own has none)) ∙ own.stands none;
  alone = λ none other below.
      let both = own.alone none other below in (
        kept-none (is_path other first.0) there first other refl both.0
            (λ same. ap (λ (x : Option Content). is_some x) may.leaves ∙ (ap (λ (p : Path). is_some (target p)) (sym (same-path other first.0 same)) ∙ both.1)),
        both.1,
      );
  free = λ some. kept-free (is_path step.0 first.0) there first step.0 may.no_folder (own.free some);
  folders = λ some top long below.
      let both = own.folders some top long below in
      (kept-folder (is_path top first.0) target there first top refl may.leaves may.no_folder both.0 both.1, both.1);
}

pub can-put : (target : Path → Option Content) (steps : List Step) (there : Standing) → Apart (takes steps) → ((step : Step) → InSteps step steps → MayPut target there step) → CanDo steps there
can-put target [] there apart may = tt
can-put target (step ∷ steps) there apart may =
    let here = may step (inl refl) in (
      step-can target there step.0 step.1 here,
      can-put target steps (after there step) (next-takes (is_some step.1) step steps refl apart) (λ other has. next-may target there step other steps apart here (may other (inr has)) has),
    )
