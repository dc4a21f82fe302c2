-- What is wanted, needed and unwanted, by what is known of a path.
use Rattle.std.proofs.Common.{◌≡◌, Bool, true, false, ◌&&◌, ◌||◌, List, [], ◌∷◌, ◌++◌, filter, is_some, Option, refl, ap, sym, ◌∙◌}
use Rattle.std.specs.List.{list_any}
use Rattle.od_merge.specs.Core.{is_in}
use Rattle.od_merge.specs.declared.content.Content.{Content}
use Rattle.od_merge.specs.Sides.{Sides, Tree, at, is_below, is_from, is_kept, paths_of}
use Rattle.od_merge.specs.Merging.{all_paths, both_paths, is_left, is_needed, is_staying, is_unwanted, target, wanted}
use Rattle.od_merge.proofs.Lists.{Path}
use Rattle.od_merge.proofs.Cores.{any-filter, any-order}
use Rattle.od_reconcile.specs.Looks.{unwanted_by, wanted_by}
use Rattle.od_reconcile.proofs.Indexes.{any-paths}

pub wanted-is : (s : Sides) (q : Path) → {left kept_here kept_there : Bool} {base here there : Option Content}
    → left ≡ is_left s q → kept_here ≡ is_kept s.passes s.local q → kept_there ≡ is_kept s.passes s.remote q → base ≡ s.base q → here ≡ at s.local q → there ≡ at s.remote q
    → wanted_by left kept_here kept_there base here there ≡ wanted s q
wanted-is s q left_is here_kept there_kept base_is here_is there_is = rw (left_is, here_kept, there_kept, base_is, here_is, there_is) refl

pub unwanted-is : (s : Sides) (side : Tree) (q : Path) → {kept left : Bool} {there wants : Option Content}
    → kept ≡ is_kept s.passes side q → left ≡ is_left s q → there ≡ at side q → wants ≡ target s q → unwanted_by kept left there wants ≡ is_unwanted s side q
unwanted-is s side q kept_is left_is there_is wants_is = rw (kept_is, left_is, there_is, wants_is) refl

or-over : (a b c : Bool) → ((a || b) || c) ≡ (a || (b || c))
or-over true b c = refl
or-over false b c = refl

pub any-joined : (f : Path → Bool) (a b : List Path) → list_any f (a ++ b) ≡ (list_any f a || list_any f b)
any-joined f [] b = refl
any-joined f (o ∷ a) b = ap (λ x. f o || x) (any-joined f a b) ∙ sym (or-over (f o) (list_any f a) (list_any f b))

-- what passes a test on either of two trees
pub skipped-any : (f test other : Path → Bool) (a b : Tree) → list_any f (filter test (paths_of a) ++ filter other (paths_of b))
    ≡ (list_any (λ (entry : Path × Content). f entry.0 && test entry.0) a || list_any (λ (entry : Path × Content). f entry.0 && other entry.0) b)
skipped-any f test other a b =
    any-joined f (filter test (paths_of a)) (filter other (paths_of b))
    ∙ (ap (λ x. x || list_any f (filter other (paths_of b))) (any-filter f test (paths_of a) ∙ any-paths (λ p. f p && test p) a)
    ∙ ap (λ x. list_any (λ (entry : Path × Content). f entry.0 && test entry.0) a || x) (any-filter f other (paths_of b) ∙ any-paths (λ p. f p && other p) b))

pub turn-four : (a b c d : Bool) → ((a || b) || (c || d)) ≡ ((a || c) || (b || d))
turn-four true b c d = refl
turn-four false true true d = refl
turn-four false true false d = refl
turn-four false false c d = refl

either-any : (f g : Path → Bool) (paths : List Path) → (list_any f paths || list_any g paths) ≡ list_any (λ o. f o || g o) paths
either-any f g [] = refl
either-any f g (o ∷ paths) = turn-four (f o) (list_any f paths) (g o) (list_any g paths) ∙ ap (λ b. (f o || g o) || b) (either-any f g paths)

swap-last : (a b c : Bool) → ((a || b) || c) ≡ ((a || c) || b)
swap-last true b c = refl
swap-last false true true = refl
swap-last false true false = refl
swap-last false false true = refl
swap-last false false false = refl

pub needed-is : (s : Sides) (q : Path) (above staying : List Path) → is_in q above ≡ list_any (λ other. is_below q other) (filter (λ p. is_some (wanted s p)) (all_paths s) ++ s.left)
    → is_in q staying ≡ list_any (λ other. is_from q other) (filter (is_staying s) (all_paths s)) → (is_in q above || is_in q staying) ≡ is_needed s q
needed-is s q above staying above_is staying_is =
    let wants = λ (o : Path). is_below q o && is_some (wanted s o) in
    let stays = λ (o : Path). is_from q o && is_staying s o in
    let first : is_in q above ≡ (list_any wants (both_paths s) || list_any (λ top. is_below q top) s.left) =
    above_is ∙ (any-joined (λ o. is_below q o) (filter (λ p. is_some (wanted s p)) (all_paths s)) s.left
    ∙ ap (λ b. b || list_any (λ top. is_below q top) s.left) (any-filter (λ o. is_below q o) (λ p. is_some (wanted s p)) (all_paths s) ∙ any-order wants [] (both_paths s))) in
    let second : is_in q staying ≡ list_any stays (both_paths s) = staying_is ∙ (any-filter (λ o. is_from q o) (is_staying s) (all_paths s) ∙ any-order stays [] (both_paths s)) in
    ap (λ b. b || is_in q staying) first
    ∙ (ap (λ b. (list_any wants (both_paths s) || list_any (λ top. is_below q top) s.left) || b) second
    ∙ (swap-last (list_any wants (both_paths s)) (list_any (λ top. is_below q top) s.left) (list_any stays (both_paths s))
    ∙ ap (λ b. b || list_any (λ top. is_below q top) s.left) (either-any wants stays (both_paths s))))
