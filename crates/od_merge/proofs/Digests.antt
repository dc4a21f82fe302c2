-- What goes from the folder or is replaced there is as the base, and nothing is carried where both sides are the same.
use Rattle.std.proofs.Common.{◌≡◌, ◌⊎◌, inl, inr, Bool, true, false, not, ◌&&◌, ◌||◌, cond, is_none, is_some, Option, Some, None, refl, ap, sym, subst, ◌∙◌}
use Rattle.std.proofs.lemmas.Bool.{true≢false, false≢true, and_parts, false_from_ne_true, true_from_ne_false, not-true}
use Rattle.od_merge.specs.declared.content.Content.{Content}
use Rattle.od_merge.specs.declared.content.Content.TheVariants.{Folder}
use Rattle.od_merge.specs.Sides.{Sides, at, is_file, is_folder, same}
use Rattle.od_merge.specs.Merging.{is_needed, merged, seen, target, wanted}
use Rattle.od_merge.specs.Steps.{IsClear, is_fetched, is_sent}
use Rattle.od_merge.proofs.Lists.{Path}
use Rattle.od_merge.proofs.Cases.{same-nodes}
use Rattle.od_merge.proofs.Needs.{file-from, file-needs, wanted-is}
use Rattle.od_merge.proofs.SideFacts.{file-beside, file-of, here-file-kept, is-folder}
use Rattle.od_merge.proofs.Doing.{seen-kept}

-- ---- nothing is carried where both sides are the same
pub none-fetched : (s : Sides) (q : Path) → same (at s.local q) (at s.remote q) ≡ true → is_fetched s q ≡ false
none-fetched s q alike = false_from_ne_true (is_fetched s q)
    (λ fetched.
    let parts = and_parts (is_file (target s q) && same (target s q) (at s.remote q)) (not (same (target s q) (at s.local q))) fetched in
    let there = (and_parts (is_file (target s q)) (same (target s q) (at s.remote q)) parts.0).1 in
    let both : same (target s q) (at s.local q) ≡ true = subst (λ (x : Option Content). same (target s q) x ≡ true) (sym (same-nodes (at s.local q) (at s.remote q) alike)) there in
    true≢false (sym both ∙ not-true (same (target s q) (at s.local q)) parts.1))

sent-by : (s : Sides) (q : Path) → same (at s.local q) (at s.remote q) ≡ true → (target s q ≡ at s.local q) ⊎ (target s q ≡ at s.remote q) → same (target s q) (at s.remote q) ≡ true
sent-by s q alike (inl is) = ap (λ x. same x (at s.remote q)) is ∙ alike
sent-by s q alike (inr is) = ap (λ x. same x (at s.remote q)) (is ∙ sym (same-nodes (at s.local q) (at s.remote q) alike)) ∙ alike

pub none-sent : (s : Sides) (q : Path) → IsClear s q → same (at s.local q) (at s.remote q) ≡ true → is_sent s q ≡ false
none-sent s q clear alike = false_from_ne_true (is_sent s q)
    (λ sent.
    let parts = and_parts (is_file (target s q)) (not (same (target s q) (at s.remote q))) sent in
    true≢false (sym (sent-by s q alike (file-from s q clear.kept clear.not_left parts.0)) ∙ not-true (same (target s q) (at s.remote q)) parts.1))

-- ---- what goes or is replaced is as the base
second : {X : Type 0} (t : Bool) (x : X) → cond t x x ≡ x
second true x = refl
second false x = refl

pub keeps-changed : (b x y : Option Content) → same x b ≡ false → is_some x ≡ true → merged b x y ≡ x
keeps-changed b None y changed some = absurd (false≢true some)
keeps-changed b (Some x) y changed some = rw changed (second (same y b || same (Some x) y) (Some x))

pub some-file : (x : Option Content) → is_file x ≡ true → is_some x ≡ true
some-file None file = absurd (false≢true file)
some-file (Some x) file = refl

-- a changed file is wanted for its own sake
pub changed-wanted : (s : Sides) (q : Path) → IsClear s q → is_file (at s.local q) ≡ true → same (at s.local q) (s.base q) ≡ false → wanted s q ≡ at s.local q
changed-wanted s q clear file changed =
    let seen_is = seen-kept s s.local q (here-file-kept s q clear file) in
    wanted-is s q clear.kept clear.not_left
    ∙ (keeps-changed (s.base q) (seen s s.local q) (seen s s.remote q) (ap (λ x. same x (s.base q)) seen_is ∙ changed) (ap (λ (x : Option Content). is_some x) seen_is ∙ some-file (at s.local q) file) ∙ seen_is)

pub none-wanted : (t : Bool) (x : Option Content) → is_none (cond t (Some Folder) x) ≡ true → x ≡ None
none-wanted true x none = absurd (false≢true none)
none-wanted false None none = refl
none-wanted false (Some x) none = absurd (false≢true none)

-- a local file that is taken away
pub removed-as-base : (s : Sides) (q : Path) → IsClear s q → is_file (at s.local q) ≡ true → is_none (target s q) ≡ true → same (at s.local q) (s.base q) ≡ true
removed-as-base s q clear file none = true_from_ne_false (same (at s.local q) (s.base q))
    (λ changed.
    let is : at s.local q ≡ None = sym (changed-wanted s q clear file changed) ∙ none-wanted (is_needed s q) (wanted s q) none in
    false≢true (sym (ap (λ x. is_file x) is) ∙ file))

-- one in whose place the drive's folder comes
pub folder-over-as-base : (s : Sides) (q : Path) → IsClear s q → is_file (at s.local q) ≡ true → is_folder (at s.remote q) ≡ true → same (at s.local q) (s.base q) ≡ true
folder-over-as-base s q clear file folder =
    let here = file-of (at s.local q) file in
    (file-beside s q here.0 here.1 (is-folder (at s.remote q) folder) clear.kept clear.no_conflict).same_base

-- and one that a fetch replaces
pub replaced-as-base : (s : Sides) (q : Path) → IsClear s q → is_file (at s.local q) ≡ true → is_fetched s q ≡ true → same (at s.local q) (s.base q) ≡ true
replaced-as-base s q clear file fetched = true_from_ne_false (same (at s.local q) (s.base q))
    (λ changed.
    let parts = and_parts (is_file (target s q) && same (target s q) (at s.remote q)) (not (same (target s q) (at s.local q))) fetched in
    let first = and_parts (is_file (target s q)) (same (target s q) (at s.remote q)) parts.0 in
    let is : target s q ≡ at s.local q = (file-needs s q first.0).1 ∙ changed-wanted s q clear file changed in
    let there : target s q ≡ at s.remote q = same-nodes (target s q) (at s.remote q) first.1 in
    let both : same (target s q) (at s.local q) ≡ true = subst (λ (x : Option Content). same (target s q) x ≡ true) (sym there ∙ is) first.1 in
    true≢false (sym both ∙ not-true (same (target s q) (at s.local q)) parts.1))
