-- The rename that a path moves with, found by the sources at the path and above it.
use Rattle.std.proofs.Common.{◌≡◌, ℕ, suc, ◌+◌, min, Bool, true, false, ◌||◌, cond, List, [], ◌∷◌, ◌++◌, length, drop, arith, Option, Some, None, refl, ap, sym, ◌∙◌}
use Rattle.std.specs.Option.{option_map}
use Rattle.od_merge.specs.Merging.{moved}
use Rattle.od_merge.specs.Sides.{is_from, is_path}
use Rattle.od_merge.proofs.Lists.{Path, in-joined, is_in}
use Rattle.od_reconcile.specs.Above.{fronts_from, or_else}
use Rattle.od_reconcile.specs.Holding.{stands_at}
use Rattle.od_reconcile.specs.Places.{HasPlaces, Renames, earlier, first_place, moved_by, place_of, rename_at, tops}
use Rattle.od_reconcile.proofs.Fronts.{from-either, fronts-in}
use Rattle.od_reconcile.proofs.Indexes.{or-else-over}

-- ---- the index
place-step : (t : Bool) (i : ℕ) (x : Option ℕ)
    → or_else (cond t (Some i) None) (option_map (λ n. (i + 1) + n) x) ≡ option_map (λ n. i + n) (cond t (Some 0) (option_map (λ n. suc n) x))
place-step true i x = let same : i ≡ i + 0 = omega arith in ap (λ (n : ℕ). Some n) same
place-step false i None = refl
place-step false i (Some n) = let same : i + 1 + n ≡ i + suc n = omega arith in ap (λ (m : ℕ). Some m) same

pub place-more : (q : Path) (i : ℕ) (old new goal : Option ℕ) (rename : Path × Path) (left rest : Renames) → left ≡ rename ∷ rest
    → or_else old (option_map (λ n. i + n) (place_of left q)) ≡ goal → new ≡ or_else old (cond (is_path rename.0 q) (Some i) None)
    → or_else new (option_map (λ n. (i + 1) + n) (place_of rest q)) ≡ goal
place-more q i old new goal rename left rest left_is before put =
    ap (λ x. or_else x (option_map (λ n. (i + 1) + n) (place_of rest q))) put
    ∙ (or-else-over old (cond (is_path rename.0 q) (Some i) None) (option_map (λ n. (i + 1) + n) (place_of rest q))
    ∙ (ap (λ x. or_else old x) (place-step (is_path rename.0 q) i (place_of rest q))
    ∙ (ap (λ (rs : Renames). or_else old (option_map (λ n. i + n) (place_of rs q))) (sym left_is) ∙ before)))

place-none : (x : Option ℕ) → option_map (λ n. 0 + n) x ≡ x
place-none None = refl
place-none (Some n) = let same : 0 + n ≡ n = omega arith in ap (λ (m : ℕ). Some m) same

pub place-first : (q : Path) (renames : Renames) (index : List (Path × ℕ)) → index ≡ [] → or_else (stands_at index q) (option_map (λ n. 0 + n) (place_of renames q)) ≡ place_of renames q
place-first q renames index none =
    ap (λ (es : List (Path × ℕ)). or_else (stands_at es q) (option_map (λ n. 0 + n) (place_of renames q))) none ∙ place-none (place_of renames q)

or-none : (x : Option ℕ) → x ≡ or_else x None
or-none None = refl
or-none (Some n) = refl

pub place-last : (q : Path) (i : ℕ) (x goal : Option ℕ) (left : Renames) → left ≡ [] → or_else x (option_map (λ n. i + n) (place_of left q)) ≡ goal → x ≡ goal
place-last q i x goal left none is = or-none x ∙ (ap (λ (rs : Renames). or_else x (option_map (λ n. i + n) (place_of rs q))) (sym none) ∙ is)

-- ---- the first of the places
earlier-over : (a b c : Option ℕ) → earlier (earlier a b) c ≡ earlier a (earlier b c)
earlier-over None b c = refl
earlier-over (Some x) None c = refl
earlier-over (Some x) (Some y) None = refl
earlier-over (Some x) (Some y) (Some z) = let same : min (min x y) z ≡ min x (min y z) = omega arith in ap (λ (m : ℕ). Some m) same

pub above-more : (f : Path → Option ℕ) (place goal x new : Option ℕ) (above next : Path) (name : List ℕ) (left rest : Path) → left ≡ name ∷ rest → next ≡ above ++ name ∷ []
    → earlier place (first_place f (fronts_from above left)) ≡ goal → x ≡ f above → new ≡ earlier place x → earlier new (first_place f (fronts_from next rest)) ≡ goal
above-more f place goal x new above next name left rest left_is next_is before x_is new_is =
    ap (λ y. earlier y (first_place f (fronts_from next rest))) (new_is ∙ ap (λ y. earlier place y) x_is)
    ∙ (earlier-over place (f above) (first_place f (fronts_from next rest))
    ∙ (ap (λ (p : Path). earlier place (earlier (f above) (first_place f (fronts_from p rest)))) next_is
    ∙ (ap (λ (ns : Path). earlier place (first_place f (fronts_from above ns))) (sym left_is) ∙ before)))

earlier-none : (x : Option ℕ) → earlier x None ≡ x
earlier-none None = refl
earlier-none (Some n) = refl

pub above-first : (f : Path → Option ℕ) (above names : Path) → above ≡ [] → earlier None (first_place f (fronts_from above names)) ≡ first_place f (fronts_from [] names)
above-first f above names is = ap (λ (p : Path). first_place f (fronts_from p names)) is

pub above-last : (f : Path → Option ℕ) (place goal : Option ℕ) (above left : Path) → left ≡ [] → earlier place (first_place f (fronts_from above left)) ≡ goal → place ≡ goal
above-last f place goal above left none before =
    sym (earlier-none place) ∙ (ap (λ (ns : Path). earlier place (first_place f (fronts_from above ns))) (sym none) ∙ before)

first-joined : (f : Path → Option ℕ) (paths more : List Path) → first_place f (paths ++ more) ≡ earlier (first_place f paths) (first_place f more)
first-joined f [] more = refl
first-joined f (path ∷ paths) more = ap (λ x. earlier (f path) x) (first-joined f paths more) ∙ sym (earlier-over (f path) (first_place f paths) (first_place f more))

pub first-top : (f : Path → Option ℕ) (path names : Path) (above here result : Option ℕ) → names ≡ path → above ≡ first_place f (fronts_from [] names) → here ≡ f path
    → result ≡ earlier above here → result ≡ first_place f (tops path)
first-top f path names above here result names_is above_is here_is is =
    is ∙ (ap (λ x. earlier x here) (above_is ∙ ap (λ (ns : Path). first_place f (fronts_from [] ns)) names_is)
    ∙ (ap (λ x. earlier (first_place f (fronts_from [] path)) x) (here_is ∙ sym (earlier-none (f path))) ∙ sym (first-joined f (fronts_from [] path) (path ∷ []))))

first-same : (f g : Path → Option ℕ) (paths : List Path) → ((path : Path) → f path ≡ g path) → first_place f paths ≡ first_place g paths
first-same f g [] same = refl
first-same f g (path ∷ paths) same = ap (λ x. earlier x (first_place f paths)) (same path) ∙ ap (λ x. earlier (g path) x) (first-same f g paths same)

first-none : (paths : List Path) → first_place (place_of []) paths ≡ None
first-none [] = refl
first-none (path ∷ paths) = first-none paths

zero-first : (x : Option ℕ) → earlier (Some 0) x ≡ Some 0
zero-first None = refl
zero-first (Some n) = let same : min 0 n ≡ 0 = omega arith in ap (λ (m : ℕ). Some m) same

zero-second : (x : Option ℕ) → earlier (option_map (λ n. suc n) x) (Some 0) ≡ Some 0
zero-second None = refl
zero-second (Some n) = let same : min (suc n) 0 ≡ 0 = omega arith in ap (λ (m : ℕ). Some m) same

both-later : (x y : Option ℕ) → earlier (option_map (λ n. suc n) x) (option_map (λ n. suc n) y) ≡ option_map (λ n. suc n) (earlier x y)
both-later None y = refl
both-later (Some a) None = refl
both-later (Some a) (Some b) = let same : min (suc a) (suc b) ≡ suc (min a b) = omega arith in ap (λ (m : ℕ). Some m) same

first-step : (t u : Bool) (x y : Option ℕ)
    → earlier (cond t (Some 0) (option_map (λ n. suc n) x)) (cond u (Some 0) (option_map (λ n. suc n) y)) ≡ cond (t || u) (Some 0) (option_map (λ n. suc n) (earlier x y))
first-step true u x y = zero-first (cond u (Some 0) (option_map (λ n. suc n) y))
first-step false true x y = zero-second x
first-step false false x y = both-later x y

first-of : (rename : Path × Path) (renames : Renames) (paths : List Path)
    → first_place (place_of (rename ∷ renames)) paths ≡ cond (is_in rename.0 paths) (Some 0) (option_map (λ n. suc n) (first_place (place_of renames) paths))
first-of rename renames [] = refl
first-of rename renames (path ∷ paths) =
    ap (λ x. earlier (place_of (rename ∷ renames) path) x) (first-of rename renames paths)
    ∙ first-step (is_path rename.0 path) (is_in rename.0 paths) (place_of renames path) (first_place (place_of renames) paths)

-- ---- the path that it makes
top-in : (q path : Path) → is_in q (tops path) ≡ is_from q path
top-in q path = in-joined q (fronts_from [] path) (path ∷ []) ∙ (ap (λ b. b || is_in q (path ∷ [])) (fronts-in q path) ∙ from-either q path)

move-later : (rename : Path × Path) (renames : Renames) (x : Option ℕ) → rename_at (rename ∷ renames) (option_map (λ n. suc n) x) ≡ rename_at renames x
move-later rename renames None = refl
move-later rename renames (Some n) = refl

move-step : (t : Bool) (rename : Path × Path) (renames : Renames) (path : Path) (x : Option ℕ) → is_from rename.0 path ≡ t → moved renames path ≡ moved_by (rename_at renames x) path
    → cond t (rename.1 ++ drop (length rename.0) path) (moved renames path) ≡ moved_by (rename_at (rename ∷ renames) (cond t (Some 0) (option_map (λ n. suc n) x))) path
move-step true rename renames path x is rest = sym (ap (λ b. cond b (rename.1 ++ drop (length rename.0) path) path) is)
move-step false rename renames path x is rest = rest ∙ ap (λ (o : Option (Path × Path)). moved_by o path) (sym (move-later rename renames x))

moved-so : (renames : Renames) (path : Path) → moved renames path ≡ moved_by (rename_at renames (first_place (place_of renames) (tops path))) path
moved-so [] path = ap (λ x. moved_by (rename_at [] x) path) (sym (first-none (tops path)))
moved-so (rename ∷ renames) path =
    move-step (is_from rename.0 path) rename renames path (first_place (place_of renames) (tops path)) refl (moved-so renames path)
    ∙ ap (λ x. moved_by (rename_at (rename ∷ renames) x) path)
    (sym (first-of rename renames (tops path) ∙ ap (λ b. cond b (Some 0) (option_map (λ n. suc n) (first_place (place_of renames) (tops path)))) (top-in rename.0 path)))

pub moved-is : (renames : Renames) (index : List (Path × ℕ)) (path : Path) (place : Option ℕ) → HasPlaces renames index → place ≡ first_place (stands_at index) (tops path)
    → moved_by (rename_at renames place) path ≡ moved renames path
moved-is renames index path place has is =
    ap (λ x. moved_by (rename_at renames x) path) (is ∙ first-same (stands_at index) (place_of renames) (tops path) has) ∙ sym (moved-so renames path)
