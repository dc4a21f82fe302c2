-- Names by their folders: what is put there, and what the paths that are taken have in a folder.
use Rattle.std.proofs.Common.{◌≡◌, ℕ, Bool, true, false, ◌&&◌, cond, List, [], ◌∷◌, ◌++◌, nat_eq, Option, Some, None, refl, ap, sym, ◌∙◌, append_assoc}
use Rattle.std.proofs.lemmas.List.Elements.{filter_map-append}
use Rattle.std.specs.Cmp.Lexicographic.{pointwise}
use Rattle.std.specs.List.{cons_option}
use Rattle.std.specs.Map.{lookup}
use Rattle.std.specs.Option.{option_map, option_to_list}
use Rattle.std.specs.Ordering.{is_eq}
use Rattle.gd_names.specs.Ordered.{path_cmp}
use Rattle.od_merge.specs.Merging.{and_taken}
use Rattle.od_merge.specs.Sides.{Tree, is_path, paths_of}
use Rattle.od_merge.specs.declared.content.Content.{Content}
use Rattle.od_merge.proofs.Lists.{Path, same-path}
use Rattle.od_reconcile.specs.Copying.{name_in, names_in}
use Rattle.od_reconcile.specs.Taken.{HasNames, Names, NamesByFolder, and_copies, names_at, names_or_none}
use Rattle.od_reconcile.proofs.Indexes.{turned}
use Rattle.od_reconcile.proofs.Lookups.{eq-path}

abbrev pub found : NamesByFolder → Path → Option Names
found index folder = lookup (λ key. is_eq (path_cmp folder key)) index

append-none : (xs : Names) → xs ++ [] ≡ xs
append-none [] = refl
append-none (x ∷ xs) = ap (λ (ns : Names). x ∷ ns) (append-none xs)

-- ---- a name that is put behind those of its folder
put-name-at : (t : Bool) (folder q : Path) (names : Names) (name : List ℕ) (old mid new : NamesByFolder) → is_eq (path_cmp folder q) ≡ t → names ≡ names_at old folder ++ name ∷ []
    → found mid q ≡ cond t None (found old q) → found new q ≡ cond t (Some names) (found mid q) → names_at new q ≡ cond t (names_at old q ++ name ∷ []) (names_at old q)
put-name-at true folder q names name old mid new is names_is gone put =
    ap names_or_none put ∙ (names_is ∙ ap (λ (f : Path). names_at old f ++ name ∷ []) (same-path folder q (sym (eq-path folder q) ∙ is)))
put-name-at false folder q names name old mid new is names_is gone put = ap names_or_none (put ∙ gone)

pub put-name : (folder q : Path) (names : Names) (name : List ℕ) (old mid new : NamesByFolder) → names ≡ names_at old folder ++ name ∷ []
    → found mid q ≡ cond (is_eq (path_cmp folder q)) None (found old q) → found new q ≡ cond (is_eq (path_cmp folder q)) (Some names) (found mid q)
    → names_at new q ≡ cond (is_eq (path_cmp folder q)) (names_at old q ++ name ∷ []) (names_at old q)
put-name folder q names name old mid new names_is gone put = put-name-at (is_eq (path_cmp folder q)) folder q names name old mid new refl names_is gone put

-- ---- the name of a path in a folder
no-name : (q : Path) → name_in q [] ≡ None
no-name [] = refl
no-name (z ∷ q) = refl

both-none : (t : Bool) (x : Option (List ℕ)) → x ≡ None → cond t x None ≡ None
both-none true x is = is
both-none false x is = refl

and-name : (t b : Bool) (x : Option (List ℕ)) (name : List ℕ) → x ≡ cond b (Some name) None → cond t x None ≡ cond (t && b) (Some name) None
and-name true b x name is = is
and-name false b x name is = refl

name-in : (q above : Path) (name : List ℕ) → name_in q (above ++ name ∷ []) ≡ cond (is_path q above) (Some name) None
name-in [] [] name = refl
name-in [] (x ∷ []) name = refl
name-in [] (x ∷ (y ∷ above)) name = refl
name-in (z ∷ q) [] name = both-none (pointwise nat_eq z name) (name_in q []) (no-name q)
name-in (z ∷ q) (x ∷ above) name = and-name (pointwise nat_eq z x) (is_path q above) (name_in q (above ++ name ∷ [])) name (name-in q above name)

one-more : (t : Bool) (old : Names) (name : List ℕ) → cond t (old ++ name ∷ []) old ≡ old ++ cons_option (cond t (Some name) None) []
one-more true old name = refl
one-more false old name = sym (append-none old)

pub add-name : (q path folder above : Path) (name : List ℕ) (old new : NamesByFolder) → path ≡ above ++ name ∷ [] → folder ≡ above
    → names_at new q ≡ cond (is_eq (path_cmp folder q)) (names_at old q ++ name ∷ []) (names_at old q) → names_at new q ≡ names_at old q ++ names_in q (path ∷ [])
add-name q path folder above name old new path_is folder_is put =
    put ∙ (ap (λ b. cond b (names_at old q ++ name ∷ []) (names_at old q)) (ap (λ (f : Path). is_eq (path_cmp f q)) folder_is ∙ (eq-path above q ∙ turned above q))
    ∙ (one-more (is_path q above) (names_at old q) name
    ∙ ap (λ x. names_at old q ++ cons_option x []) (sym (ap (λ (p : Path). name_in q p) path_is ∙ name-in q above name))))

pub no-path : (q path : Path) (old : Names) → path ≡ [] → old ≡ old ++ names_in q (path ∷ [])
no-path q path old is = sym (ap (λ (p : Path). old ++ names_in q (p ∷ [])) is ∙ (ap (λ x. old ++ cons_option x []) (no-name q) ∙ append-none old))

cons-front : (x : Option (List ℕ)) (names : Names) → cons_option x [] ++ names ≡ cons_option x names
cons-front None names = refl
cons-front (Some name) names = refl

pub tree-more : (q : Path) (old new goal : Names) (entry : Path × Content) (left rest : Tree) → left ≡ entry ∷ rest → old ++ names_in q (paths_of left) ≡ goal
    → new ≡ old ++ names_in q (entry.0 ∷ []) → new ++ names_in q (paths_of rest) ≡ goal
tree-more q old new goal entry left rest left_is before put =
    ap (λ (ns : Names). ns ++ names_in q (paths_of rest)) put
    ∙ (append_assoc old (names_in q (entry.0 ∷ [])) (names_in q (paths_of rest))
    ∙ (ap (λ (ns : Names). old ++ ns) (cons-front (name_in q entry.0) (names_in q (paths_of rest)))
    ∙ (ap (λ (es : Tree). old ++ names_in q (paths_of es)) (sym left_is) ∙ before)))

pub names-of-two : (q : Path) (none first second : NamesByFolder) (a b : List Path) → none ≡ [] → names_at first q ≡ names_at none q ++ names_in q a
    → names_at second q ≡ names_at first q ++ names_in q b → names_at second q ≡ names_in q (a ++ b)
names-of-two q none first second a b none_is first_is second_is =
    second_is ∙ (ap (λ (ns : Names). ns ++ names_in q b) (first_is ∙ ap (λ (es : NamesByFolder). names_at es q ++ names_in q a) none_is)
    ∙ sym (filter_map-append (name_in q) a b))

-- ---- one more copy
and-last : (paths : List Path) (renames : List (Path × Path)) (rename : Path × Path) → and_copies paths (renames ++ rename ∷ []) ≡ and_copies paths renames ++ rename.1 ∷ []
and-last paths [] rename = refl
and-last paths (first ∷ renames) rename = and-last (paths ++ first.1 ∷ []) renames rename

renames-none : (renames : List (Path × Path)) → renames ++ [] ≡ renames
renames-none [] = refl
renames-none (rename ∷ renames) = ap (λ (rs : List (Path × Path)). rename ∷ rs) (renames-none renames)

pub copies-more : (paths : List Path) (path : Path) (to : Option Path) (old new : List (Path × Path)) → new ≡ old ++ option_to_list (option_map (λ n. (path, n)) to)
    → and_copies paths new ≡ and_taken to (and_copies paths old)
copies-more paths path None old new is = ap (λ (rs : List (Path × Path)). and_copies paths rs) (is ∙ renames-none old)
copies-more paths path (Some to) old new is = ap (λ (rs : List (Path × Path)). and_copies paths rs) is ∙ and-last paths old (path, to)

names-more-at : (q : Path) (taken : List Path) (to : Option Path) → names_in q taken ++ names_in q (option_to_list to) ≡ names_in q (and_taken to taken)
names-more-at q taken None = append-none (names_in q taken)
names-more-at q taken (Some to) = sym (filter_map-append (name_in q) taken (to ∷ []))

pub names-more : (taken now : List Path) (to : Option Path) (old new : NamesByFolder) → HasNames taken old → now ≡ and_taken to taken
    → ((q : Path) → names_at new q ≡ names_at old q ++ names_in q (option_to_list to)) → HasNames now new
names-more taken now to old new before now_is put = record {
  has = λ q. put q ∙ (ap (λ (ns : Names). ns ++ names_in q (option_to_list to)) (before.has q) ∙ (names-more-at q taken to ∙ ap (λ (ps : List Path). names_in q ps) (sym now_is)));
}
