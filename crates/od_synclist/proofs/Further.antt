-- What further rules do to a verdict.
use Rattle.std.proofs.Common.{◌≡◌, ℕ, Bool, true, false, ◌&&◌, ◌||◌, not, List, [], ◌∷◌, ◌++◌, refl, sym, ap, ◌∙◌, arith}
use Rattle.std.proofs.lemmas.Bool.{false≢true}
use Rattle.std.proofs.Math.Bool.{or_assoc}
use Rattle.std.specs.List.{list_any}
use Rattle.od_synclist.specs.Rules.{is_included, is_excluded, matches_entry, passes}
use Rattle.od_synclist.specs.declared.rule.Rule.{Rule}

any-append : {X : Type 0} (test : X → Bool) (xs ys : List X) → list_any test (xs ++ ys) ≡ (list_any test xs || list_any test ys)
any-append test [] ys = refl
any-append test (x ∷ xs) ys = ap (λ found. test x || found) (any-append test xs ys) ∙ sym (or_assoc (test x) (list_any test xs) (list_any test ys))

-- with a rule, an entry passes by an inclusion and by no exclusion
some_rule : (rules later : List Rule) (rule : Rule) (names : List (List ℕ)) (folder : Bool)
    → passes (rules ++ rule ∷ later) names folder ≡ (is_included (rules ++ rule ∷ later) names folder && not (is_excluded (rules ++ rule ∷ later) names folder))
some_rule [] later rule names folder = refl
some_rule (first ∷ rules) later rule names folder = refl

-- an entry that is included and not excluded passes, and one that is excluded does not
passes_true : (rules : List Rule) (names : List (List ℕ)) (folder : Bool) → is_included rules names folder ≡ true → is_excluded rules names folder ≡ false → passes rules names folder ≡ true
passes_true [] names folder included excluded = refl
passes_true (rule ∷ rules) names folder included excluded = rw (included, excluded) refl

passes_false : (rules : List Rule) (names : List (List ℕ)) (folder : Bool) → is_excluded rules names folder ≡ true → passes rules names folder ≡ false
passes_false [] names folder excluded = absurd (false≢true excluded)
passes_false (rule ∷ rules) names folder excluded = rw excluded (grind arith)

-- tests that a further exclusion changes
without_exclusion : (included later_included excluded later_excluded matched : Bool)
    → ((included || (false || later_included)) && not (excluded || (matched || later_excluded))) ≡ true
    → ((included || later_included) ≡ true) × ((excluded || later_excluded) ≡ false)
without_exclusion included later_included true later_excluded matched holds = absurd (grind arith)
without_exclusion included later_included false true matched holds = absurd (grind arith)
without_exclusion included later_included false false true holds = absurd (grind arith)
without_exclusion included later_included false false false holds = (grind arith, refl)

with_further : (a b c : Bool) → (a || c) ≡ true → (a || b || c) ≡ true
with_further true b c holds = refl
with_further false true c holds = refl
with_further false false c holds = holds

pub exclusion_takes_away : (rules later : List Rule) (rule : Rule) (names : List (List ℕ)) (folder : Bool) → rule.exclude ≡ true
    → passes (rules ++ rule ∷ later) names folder ≡ true → passes (rules ++ later) names folder ≡ true
exclusion_takes_away rules later rule names folder exclude passed =
    let holds = rw (some_rule rules later rule names folder, any-append, any-append, exclude) at passed in
    let tests = without_exclusion (is_included rules names folder) (is_included later names folder) (is_excluded rules names folder) (is_excluded later names folder)
    (matches_entry rule names folder) holds in
    passes_true (rules ++ later) names folder (any-append _ rules later ∙ tests.0) (any-append _ rules later ∙ tests.1)

pub stays_excluded : (rules further later : List Rule) (names : List (List ℕ)) (folder : Bool) → is_excluded (rules ++ later) names folder ≡ true
    → passes (rules ++ further ++ later) names folder ≡ false
stays_excluded rules further later names folder excluded =
    let holds = rw any-append at excluded in
    let more : is_excluded (rules ++ further ++ later) names folder ≡ true = rw (any-append, any-append) (with_further (is_excluded rules names folder) (is_excluded further names folder)
    (is_excluded later names folder) holds) in
    passes_false (rules ++ further ++ later) names folder more
