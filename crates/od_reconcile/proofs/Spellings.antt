-- What indexes of paths by their spelling but for case answer.
use Rattle.std.proofs.Common.{◌≡◌, Bool, true, false, not, ◌&&◌, ◌||◌, cond, List, [], ◌∷◌, filter, Option, Some, None, refl, ap, sym, subst, ◌∙◌}
use Rattle.std.proofs.lemmas.Bool.{true≢false, false≢true, false_from_ne_true, and_right}
use Rattle.std.specs.Cmp.{tied_itself}
use Rattle.std.specs.List.{list_any}
use Rattle.std.specs.Ordering.{is_eq, is_lt}
use Rattle.std.specs.declared.cmp.Ordering.{Ordering}
use Rattle.std.specs.declared.cmp.Ordering.TheVariants.{Less, Equal, Greater}
use Rattle.gd_names.specs.Caseless.{equal_caseless}
use Rattle.gd_names.specs.Ordered.{path_cmp}
use Rattle.gd_names.proofs.Ordered.{paths-total, turned as turned-order, exact-paths}
use Rattle.od_merge.specs.Merging.{all_paths}
use Rattle.od_merge.specs.Sides.{Sides, is_path}
use Rattle.od_merge.proofs.Cores.{any-filter}
use Rattle.od_merge.proofs.Lists.{Path, same-path}
use Rattle.od_reconcile.specs.Holding.{IsLeast, IsSpelt, Spelt, bars, has_other, has_target, is_before, lower_path, same_caseless_path, spelt_more, stands_at, stays_there}
use Rattle.od_reconcile.proofs.Lookups.{eq-path}

or-false : (a : Bool) → (a || false) ≡ a
or-false true = refl
or-false false = refl

or-self : (a : Bool) → (a || a) ≡ a
or-self true = refl
or-self false = refl

or-true : (a : Bool) → (a || true) ≡ true
or-true true = refl
or-true false = refl

-- paths in lower case are one where the paths are equal but for case
pub lower-same : (a b : Path) → is_path (lower_path a) (lower_path b) ≡ same_caseless_path a b
lower-same [] [] = refl
lower-same [] (y ∷ b) = refl
lower-same (x ∷ a) [] = refl
lower-same (x ∷ a) (y ∷ b) = ap (λ t. equal_caseless x y && t) (lower-same a b)

key-told : (path from : Path) → is_eq (path_cmp (lower_path path) (lower_path from)) ≡ same_caseless_path path from
key-told path from = eq-path (lower_path path) (lower_path from) ∙ lower-same path from

same-key : (path from : Path) → same_caseless_path path from ≡ true → lower_path path ≡ lower_path from
same-key path from is = same-path (lower_path path) (lower_path from) (lower-same path from ∙ is)

-- ---- one more path of a spelling
two-others-at : (t u v : Bool) (p path to : Path) → is_path p path ≡ t → is_path p to ≡ u → is_path path to ≡ v → (not t || not u) ≡ (not u || not v)
two-others-at true true true p path to t_is u_is v_is = refl
two-others-at true false true p path to t_is u_is v_is = absurd (true≢false (sym (subst (λ (q : Path). is_path q to ≡ true) (sym (same-path p path t_is)) v_is) ∙ u_is))
two-others-at true true false p path to t_is u_is v_is = absurd (true≢false (sym (subst (λ (q : Path). is_path q to ≡ true) (same-path p path t_is) u_is) ∙ v_is))
two-others-at true false false p path to t_is u_is v_is = refl
two-others-at false true true p path to t_is u_is v_is =
    absurd (true≢false (sym (subst (λ (q : Path). is_path p q ≡ true) (sym (same-path path to v_is)) u_is) ∙ t_is))
two-others-at false false true p path to t_is u_is v_is = refl
two-others-at false true false p path to t_is u_is v_is = refl
two-others-at false false false p path to t_is u_is v_is = refl

more-at : (b : Bool) (p path to : Path) → ((b || not (is_path p path)) || not (is_path p to)) ≡ ((b || not (is_path p to)) || not (is_path path to))
more-at true p path to = refl
more-at false p path to = two-others-at (is_path p path) (is_path p to) (is_path path to) p path to refl refl refl

more-other : (known : Option Spelt) (path to : Path) → has_other (Some (spelt_more known path)) to ≡ (has_other known to || not (is_path path to))
more-other None path to = refl
more-other (Some spelt) path to = more-at spelt.1 spelt.0 path to

and-true : (a : Bool) → (a && true) ≡ a
and-true true = refl
and-true false = refl

put-spelt-at : (t : Bool) (path from to : Path) (spelt : Spelt) (old new : List (Path × Spelt)) → same_caseless_path path from ≡ t → spelt ≡ spelt_more (stands_at old (lower_path path)) path
    → stands_at new (lower_path from) ≡ cond t (Some spelt) (stands_at old (lower_path from)) → has_other (stands_at new (lower_path from)) to ≡ (has_other (stands_at old (lower_path from)) to || not (is_path path to) && t)
put-spelt-at true path from to spelt old new is spelt_is put =
    ap (λ (s : Option Spelt). has_other s to) (put ∙ ap (λ (s : Spelt). Some s) (spelt_is ∙ ap (λ (k : Path). spelt_more (stands_at old k) path) (same-key path from is)))
    ∙ (more-other (stands_at old (lower_path from)) path to ∙ ap (λ b. has_other (stands_at old (lower_path from)) to || b) (sym (and-true (not (is_path path to)))))
put-spelt-at false path from to spelt old new is spelt_is put =
    ap (λ (s : Option Spelt). has_other s to) put
    ∙ (sym (or-false (has_other (stands_at old (lower_path from)) to)) ∙ ap (λ b. has_other (stands_at old (lower_path from)) to || b) (sym (and_right (not (is_path path to)) false refl)))

pub put-spelt : (path key from to : Path) (spelt : Spelt) (old new : List (Path × Spelt)) → key ≡ lower_path path → spelt ≡ spelt_more (stands_at old key) path
    → stands_at new (lower_path from) ≡ cond (is_eq (path_cmp key (lower_path from))) (Some spelt) (stands_at old (lower_path from))
    → has_other (stands_at new (lower_path from)) to ≡ (has_other (stands_at old (lower_path from)) to || not (is_path path to) && same_caseless_path path from)
put-spelt path key from to spelt old new key_is spelt_is put =
    put-spelt-at (same_caseless_path path from) path from to spelt old new refl (spelt_is ∙ ap (λ (k : Path). spelt_more (stands_at old k) path) key_is)
    (put ∙ ap (λ b. cond b (Some spelt) (stands_at old (lower_path from))) (ap (λ (k : Path). is_eq (path_cmp k (lower_path from))) key_is ∙ key-told path from))

-- ---- the least path of a spelling
less-so : (o : Ordering) → is_lt o ≡ true → o ≡ Less
less-so Less is = refl
less-so Equal is = absurd (false≢true is)
less-so Greater is = absurd (false≢true is)

less-through : (a b c : Path) → is_lt (path_cmp a b) ≡ true → is_lt (path_cmp b c) ≡ true → is_lt (path_cmp a c) ≡ true
less-through a b c first second = ap is_lt (paths-total.trans a b c (less-so (path_cmp a b) first) (less-so (path_cmp b c) second))

-- a smaller one is known
kept-at : (t u : Bool) (p path q : Path) → is_lt (path_cmp p path) ≡ true → is_lt (path_cmp path q) ≡ u → is_lt (path_cmp p q) ≡ (is_lt (path_cmp p q) || t && u)
kept-at false u p path q less is = sym (or-false (is_lt (path_cmp p q)))
kept-at true false p path q less is = sym (or-false (is_lt (path_cmp p q)))
kept-at true true p path q less is = let below = less-through p path q less is in below ∙ sym (or-true (is_lt (path_cmp p q)))

kept-before : (t : Bool) (known : Option Path) (path q : Path) → is_before known path ≡ true → is_before known q ≡ (is_before known q || t && is_lt (path_cmp path q))
kept-before t None path q before = absurd (false≢true before)
kept-before t (Some p) path q before = kept-at t (is_lt (path_cmp path q)) p path q before refl

kept-least-at : (t : Bool) (path q : Path) (old : List (Path × Path)) → same_caseless_path path q ≡ t → is_before (stands_at old (lower_path path)) path ≡ true
    → is_before (stands_at old (lower_path q)) q ≡ (is_before (stands_at old (lower_path q)) q || t && is_lt (path_cmp path q))
kept-least-at true path q old is before =
    kept-before true (stands_at old (lower_path q)) path q (subst (λ (k : Path). is_before (stands_at old k) path ≡ true) (same-key path q is) before)
kept-least-at false path q old is before = sym (or-false (is_before (stands_at old (lower_path q)) q))

pub kept-least : (path key q : Path) (old : List (Path × Path)) → key ≡ lower_path path → is_before (stands_at old key) path ≡ true
    → is_before (stands_at old (lower_path q)) q ≡ (is_before (stands_at old (lower_path q)) q || same_caseless_path path q && is_lt (path_cmp path q))
kept-least path key q old key_is before =
    kept-least-at (same_caseless_path path q) path q old refl (subst (λ (k : Path). is_before (stands_at old k) path ≡ true) key_is before)

-- no smaller one is known
not-less-at : (o : Ordering) (p path q : Path) → path_cmp p path ≡ o → is_lt o ≡ false → is_lt (path_cmp p q) ≡ true → is_lt (path_cmp path q) ≡ true
not-less-at Less p path q is not_less less = absurd (true≢false not_less)
not-less-at Equal p path q is not_less less = subst (λ (a : Path). is_lt (path_cmp a q) ≡ true) (exact-paths p path is) less
not-less-at Greater p path q is not_less less = less-through path p q (ap is_lt (turned-order p path is)) less

or-within : (a b : Bool) → (a ≡ true → b ≡ true) → b ≡ (a || b)
or-within true b within = within refl
or-within false b within = refl

put-before : (known : Option Path) (path q : Path) → is_before known path ≡ false → is_lt (path_cmp path q) ≡ (is_before known q || is_lt (path_cmp path q))
put-before None path q before = refl
put-before (Some p) path q before = or-within (is_lt (path_cmp p q)) (is_lt (path_cmp path q)) (not-less-at (path_cmp p path) p path q refl before)

put-least-at : (t : Bool) (path q : Path) (old new : List (Path × Path)) → same_caseless_path path q ≡ t → is_before (stands_at old (lower_path path)) path ≡ false
    → stands_at new (lower_path q) ≡ cond t (Some path) (stands_at old (lower_path q)) → is_before (stands_at new (lower_path q)) q ≡ (is_before (stands_at old (lower_path q)) q || t && is_lt (path_cmp path q))
put-least-at true path q old new is before put =
    ap (λ (s : Option Path). is_before s q) put
    ∙ put-before (stands_at old (lower_path q)) path q (subst (λ (k : Path). is_before (stands_at old k) path ≡ false) (same-key path q is) before)
put-least-at false path q old new is before put = ap (λ (s : Option Path). is_before s q) put ∙ sym (or-false (is_before (stands_at old (lower_path q)) q))

pub put-least : (path key copy q : Path) (old new : List (Path × Path)) → key ≡ lower_path path → copy ≡ path → is_before (stands_at old key) path ≡ false
    → stands_at new (lower_path q) ≡ cond (is_eq (path_cmp key (lower_path q))) (Some copy) (stands_at old (lower_path q))
    → is_before (stands_at new (lower_path q)) q ≡ (is_before (stands_at old (lower_path q)) q || same_caseless_path path q && is_lt (path_cmp path q))
put-least path key copy q old new key_is copy_is before put =
    put-least-at (same_caseless_path path q) path q old new refl (subst (λ (k : Path). is_before (stands_at old k) path ≡ false) key_is before)
    (put ∙ (ap (λ b. cond b (Some copy) (stands_at old (lower_path q))) (ap (λ (k : Path). is_eq (path_cmp k (lower_path q))) key_is ∙ key-told path q)
    ∙ ap (λ (p : Path). cond (same_caseless_path path q) (Some p) (stands_at old (lower_path q))) copy_is))

-- ---- one more path in an index, and what is left
or-over : (a b c : Bool) → ((a || b) || c) ≡ (a || (b || c))
or-over true b c = refl
or-over false b c = refl

turn-four : (a b c d : Bool) → ((a || b) || (c || d)) ≡ ((a || c) || (b || d))
turn-four true b c d = refl
turn-four false true true d = refl
turn-four false true false d = refl
turn-four false false c d = refl

pub any-more : (f : Path → Bool) (old new whole : Bool) (path : Path) (left rest : List Path) → left ≡ path ∷ rest → (old || list_any f left) ≡ whole → new ≡ (old || f path) → (new || list_any f rest) ≡ whole
any-more f old new whole path left rest left_is before put =
    ap (λ b. b || list_any f rest) put ∙ (or-over old (f path) (list_any f rest) ∙ (ap (λ (ps : List Path). old || list_any f ps) (sym left_is) ∙ before))

pub none-left : (a whole : Bool) → (a || false) ≡ whole → a ≡ whole
none-left a whole is = sym (or-false a) ∙ is

-- ---- what bars a path
any-either : (f g : Path → Bool) (paths : List Path) → (list_any f paths || list_any g paths) ≡ list_any (λ o. f o || g o) paths
any-either f g [] = refl
any-either f g (path ∷ paths) = turn-four (f path) (list_any f paths) (g path) (list_any g paths) ∙ ap (λ b. (f path || g path) || b) (any-either f g paths)

pub any-alike : (f g : Path → Bool) → ((path : Path) → f path ≡ g path) → (paths : List Path) → list_any f paths ≡ list_any g paths
any-alike f g same [] = refl
any-alike f g same (path ∷ paths) = ap (λ b. b || list_any f paths) (same path) ∙ ap (λ b. g path || b) (any-alike f g same paths)

less-apart : (other path : Path) → is_lt (path_cmp other path) ≡ true → is_path other path ≡ false
less-apart other path less = false_from_ne_true (is_path other path)
    (λ same. true≢false (sym less ∙ (ap (λ (p : Path). is_lt (path_cmp p path)) (same-path other path same) ∙ ap is_lt (tied_itself paths-total path))))

bars-by : (c d k t l : Bool) → (l ≡ true → d ≡ false) → (((not d && c) && k) || ((c && l) && t)) ≡ ((c && not d) && (k || t && l))
bars-by false true k t l apart = refl
bars-by false false k t l apart = refl
bars-by true true k t true apart = absurd (true≢false (apart refl))
bars-by true true k t false apart = refl
bars-by true false true t l apart = refl
bars-by true false false true true apart = refl
bars-by true false false true false apart = refl
bars-by true false false false true apart = refl
bars-by true false false false false apart = refl

pub barred-is : (m : Sides) (path : Path) (staying : List (Path × Spelt)) (least : List (Path × Path))
    → IsSpelt (filter (stays_there m) (all_paths m)) staying → IsLeast (filter (has_target m) (all_paths m)) least
    → (has_other (stands_at staying (lower_path path)) path || is_before (stands_at least (lower_path path)) path) ≡ list_any (bars m path) (all_paths m)
barred-is m path staying least spelt small =
    let f = λ (o : Path). not (is_path o path) && same_caseless_path o path in
    let g = λ (o : Path). same_caseless_path o path && is_lt (path_cmp o path) in
    ap (λ b. b || is_before (stands_at least (lower_path path)) path) (spelt.has path path ∙ any-filter f (stays_there m) (all_paths m))
    ∙ (ap (λ b. list_any (λ o. f o && stays_there m o) (all_paths m) || b) (small.has path ∙ any-filter g (has_target m) (all_paths m))
    ∙ (any-either (λ o. f o && stays_there m o) (λ o. g o && has_target m o) (all_paths m)
    ∙ any-alike (λ o. (f o && stays_there m o) || (g o && has_target m o)) (bars m path)
    (λ o. bars-by (same_caseless_path o path) (is_path o path) (stays_there m o) (has_target m o) (is_lt (path_cmp o path)) (less-apart o path)) (all_paths m)))
