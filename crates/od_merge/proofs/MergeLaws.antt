-- Laws of the merge where all passes.
use Rattle.std.proofs.Common.{◌≡◌, Bool, true, false, not, ◌&&◌, ◌||◌, cond, List, [], ◌∷◌, ◌++◌, length, map, filter, is_some, is_none, nat_lt, Option, Some, None, refl, ap, sym, ◌∙◌, arith}
use Rattle.std.proofs.lemmas.Bool.{true≢false, false≢true, and_parts, and_left, and_right, or_parts, or_from, false_from_ne_true, lt-ltb}
use Rattle.std.specs.List.{list_any}
use Rattle.od_merge.specs.declared.content.Content.{Content}
use Rattle.od_merge.specs.declared.content.Content.TheVariants.{Folder, File}
use Rattle.od_merge.specs.Sides.{Sides, at, is_below, is_file, is_folder, is_other_kind, paths_of, same}
use Rattle.od_merge.specs.Merging.{all_paths, both_paths, is_going, is_needed, is_unwanted, merged, target, wanted}
use Rattle.od_merge.specs.Steps.{deepest_first, is_fetched, is_sent, needs_folder, steps_at, steps_here, steps_there}
use Rattle.od_merge.specs.Core.{IsTree, core}
use Rattle.od_merge.proofs.Cases.{same-nodes}
use Rattle.od_merge.proofs.Lists.{text-self, Path, at-in, deepest-in, in-joined, in-order, is_in}
use Rattle.od_merge.proofs.Doing.{none-of-list}
use Rattle.od_merge.proofs.SideFacts.{going-at}
use Rattle.od_merge.proofs.Cores.{any-filter, core-needed, core-unwanted, core-wanted, is_wanted, sides}

both : {x : Option Content} (t : Bool) → cond t x x ≡ x
both true = refl
both false = refl

or-self : (a : Bool) → (a || a) ≡ true → a ≡ true
or-self true is = refl
or-self false is = is

three-and : (a b : Bool) → (a && b && not b) ≡ false
three-and true true = refl
three-and true false = refl
three-and false b = refl

no-three : {X : Type 0} (a b c : List X) → a ≡ [] → b ≡ [] → c ≡ [] → (a ++ (b ++ c)) ≡ []
no-three a b c a_is b_is c_is = rw (a_is, b_is, c_is) refl

pub filter-one-none : (t : Bool) (path : Path) (rest : List Path) → t ≡ false → rest ≡ [] → cond t (path ∷ rest) rest ≡ []
filter-one-none true path rest is none = absurd (true≢false is)
filter-one-none false path rest is none = none

filter-none : (test : Path → Bool) (paths : List Path) → list_any test paths ≡ false → filter test paths ≡ []
filter-none test [] none = refl
filter-none test (path ∷ paths) none =
    let parts = or_parts (test path) (list_any test paths) none in filter-one-none (test path) path (filter test paths) parts.0 (filter-none test paths parts.1)

-- what is wanted is a tree: then it is the target
needed-at : (t : Bool) (base local remote tree : List (Path × Content)) → IsTree tree → ((q : Path) → wanted (sides base local remote) q ≡ at tree q) → (q o : Path) → nat_lt 0 (length q) ≡ true
    → is_below q o ≡ t → (at tree q ≡ Some Folder → ⊥) → (t && is_wanted base local remote o) ≡ false
needed-at false base local remote tree is_tree wants q o long below no_folder = refl
needed-at true base local remote tree is_tree wants q o long below no_folder =
    false_from_ne_true (is_wanted base local remote o) (λ some. no_folder (is_tree.above q o long below (sym (ap (λ (x : Option Content). is_some x) (wants o)) ∙ some)))

not-needed : (base local remote tree : List (Path × Content)) → IsTree tree → ((q : Path) → wanted (sides base local remote) q ≡ at tree q) → (q : Path) → nat_lt 0 (length q) ≡ true
    → (at tree q ≡ Some Folder → ⊥) → is_needed (sides base local remote) q ≡ false
not-needed base local remote tree is_tree wants q long no_folder =
    core-needed base local remote q
    ∙ (any-filter (λ o. is_below q o) (is_wanted base local remote) (all_paths (sides base local remote))
    ∙ none-of-list (λ o. is_below q o && is_wanted base local remote o) (all_paths (sides base local remote)) (λ o has. needed-at (is_below q o) base local remote tree is_tree wants q o long refl no_folder))

target-by : (base local remote tree : List (Path × Content)) → IsTree tree → ((q : Path) → wanted (sides base local remote) q ≡ at tree q) → (q : Path) (x : Option Content) → nat_lt 0 (length q) ≡ true
    → at tree q ≡ x → (is_folder x ≡ false → is_needed (sides base local remote) q ≡ false) → cond (is_needed (sides base local remote) q) (Some Folder) x ≡ x
target-by base local remote tree is_tree wants q None long is free = rw (free refl) refl
target-by base local remote tree is_tree wants q (Some (File d)) long is free = rw (free refl) refl
target-by base local remote tree is_tree wants q (Some Folder) long is free = both (is_needed (sides base local remote) q)

no-folder : (x : Option Content) → is_folder x ≡ false → x ≡ Some Folder → ⊥
no-folder x not_folder is = true≢false (sym (ap (λ y. is_folder y) is) ∙ not_folder)

pub target-is : (base local remote tree : List (Path × Content)) → IsTree tree → ((q : Path) → wanted (sides base local remote) q ≡ at tree q) → (q : Path) → nat_lt 0 (length q) ≡ true
    → target (sides base local remote) q ≡ at tree q
target-is base local remote tree is_tree wants q long =
    ap (λ x. cond (is_needed (sides base local remote) q) (Some Folder) x) (wants q)
    ∙ target-by base local remote tree is_tree wants q (at tree q) long refl (λ not_folder. not-needed base local remote tree is_tree wants q long (no-folder (at tree q) not_folder))

-- ---- where one side is as the base, the other side is the target
wants-there : (b x y : Option Content) → same x b ≡ true → cond (is_some x || is_some y) (merged b x y) None ≡ y
wants-there b None None is = refl
wants-there b None (Some y) is = rw is refl
wants-there b (Some x) y is = rw is refl

wants-here : (t : Bool) (b x y : Option Content) → same x b ≡ t → same y b ≡ true → cond (is_some x || is_some y) (merged b x y) None ≡ x
wants-here true b x y same_x same_y = wants-there b x y same_x ∙ (same-nodes y b same_y ∙ sym (same-nodes x b same_x))
wants-here false b None None same_x same_y = refl
wants-here false b None (Some y) same_x same_y = rw (same_x, same_y) refl
wants-here false b (Some x) y same_x same_y = rw (same_x, same_y) refl

pub drive-alone : (base local remote : List (Path × Content)) → IsTree remote → ((q : Path) → same (at local q) (at base q) ≡ true) → (q : Path) → nat_lt 0 (length q) ≡ true
    → target (core base local remote) q ≡ at remote q
drive-alone base local remote is_tree unchanged q long =
    target-is base local remote remote is_tree (λ p. core-wanted base local remote p ∙ wants-there (at base p) (at local p) (at remote p) (unchanged p)) q long

pub user-alone : (base local remote : List (Path × Content)) → IsTree local → ((q : Path) → same (at remote q) (at base q) ≡ true) → (q : Path) → nat_lt 0 (length q) ≡ true
    → target (core base local remote) q ≡ at local q
user-alone base local remote is_tree unchanged q long =
    target-is base local remote local is_tree (λ p. core-wanted base local remote p ∙ wants-here (same (at local p) (at base p)) (at base p) (at local p) (at remote p) refl (unchanged p)) q long

-- ---- where both sides are the same, that is the target, and there is nothing to do
three-same : (a b c : Bool) (x : Option Content) → cond a x (cond b x (cond c x x)) ≡ x
three-same true b c x = refl
three-same false true c x = refl
three-same false false true x = refl
three-same false false false x = refl

wants-both : (b x : Option Content) → cond (is_some x || is_some x) (merged b x x) None ≡ x
wants-both b None = refl
wants-both b (Some x) = three-same (same (Some x) b) (same (Some x) b || same (Some x) (Some x)) false (Some x)

pub same-sides : (base tree : List (Path × Content)) → IsTree tree → (q : Path) → nat_lt 0 (length q) ≡ true → target (core base tree tree) q ≡ at tree q
same-sides base tree is_tree q long = target-is base tree tree tree is_tree (λ p. core-wanted base tree tree p ∙ wants-both (at base p) (at tree p)) q long

long-from : (tree : List (Path × Content)) → IsTree tree → (q : Path) → is_some (at tree q) ≡ true → nat_lt 0 (length q) ≡ true
long-from tree is_tree [] some = absurd (false≢true (sym (ap (λ (x : Option Content). is_some x) is_tree.root) ∙ some))
long-from tree is_tree (name ∷ names) some = lt-ltb 0 (length (name ∷ names)) (omega arith)

none-filtered : (test : Path → Bool) (leaves : Path → Option Content) (paths : List Path) → ((q : Path) → is_in q paths ≡ true → test q ≡ false) → steps_at test leaves paths ≡ []
none-filtered test leaves paths none = ap (λ ps. map (λ path. (path, leaves path)) ps) (filter-none test paths (none-of-list test paths none))

pub no-kind : (x : Option Content) → is_other_kind x x ≡ false
no-kind None = refl
no-kind (Some Folder) = refl
no-kind (Some (File d)) = refl

some-not-none : (x : Option Content) → is_some x ≡ true → is_none x ≡ false
some-not-none None is = absurd (false≢true is)
some-not-none (Some x) is = refl

not-both : (b : Bool) → (b && not b) ≡ false
not-both true = refl
not-both false = refl

not-going : (s : Sides) (side : List (Path × Content)) (q : Path) → is_unwanted s side q ≡ false → is_going s side q ≡ false
not-going s side q wanted = false_from_ne_true (is_going s side q) (λ going. true≢false (sym (going-at s side q (at side q) refl going) ∙ wanted))

known-self : (x : Option Content) → (x ≡ Some (File None) → ⊥) → is_file x ≡ true → same x x ≡ true
known-self None known file = absurd (false≢true file)
known-self (Some Folder) known file = absurd (false≢true file)
known-self (Some (File None)) known file = absurd (known refl)
known-self (Some (File (Some d))) known file = text-self d.0

module _ (base tree : List (Path × Content)) (is_tree : IsTree tree) (q : Path) (has : is_in q (both_paths (core base tree tree)) ≡ true) where
  there : is_some (at tree q) ≡ true
  there = at-in q tree ∙ or-self (is_in q (paths_of tree)) (sym (in-joined q (paths_of tree) (paths_of tree)) ∙ has)

  is : target (core base tree tree) q ≡ at tree q
  is = same-sides base tree is_tree q (long-from tree is_tree q there)

  stays : is_unwanted (core base tree tree) tree q ≡ false
  stays = core-unwanted base tree tree tree q
      ∙ and_right (is_some (at tree q)) (is_none (target (core base tree tree) q) || is_other_kind (at tree q) (target (core base tree tree) q))
      (ap (λ t. is_none t || is_other_kind (at tree q) t) is ∙ or_from (is_none (at tree q)) (is_other_kind (at tree q) (at tree q)) (some-not-none (at tree q) there) (no-kind (at tree q)))

  pub none-goes : is_going (core base tree tree) tree q ≡ false
  none-goes = not-going (core base tree tree) tree q stays

  pub no-folder-needed : needs_folder (core base tree tree) tree q ≡ false
  no-folder-needed = ap (λ t. is_folder t && not (is_folder (at tree q))) is ∙ not-both (is_folder (at tree q))

  pub none-fetched : is_fetched (core base tree tree) q ≡ false
  none-fetched = ap (λ t. is_file t && same t (at tree q) && not (same t (at tree q))) is ∙ three-and (is_file (at tree q)) (same (at tree q) (at tree q))

  pub none-sent : is_sent (core base tree tree) q ≡ false
  none-sent = ap (λ t. is_file t && not (same t (at tree q))) is
      ∙ false_from_ne_true (is_file (at tree q) && not (same (at tree q) (at tree q)))
      (λ sent.
      let parts = and_parts (is_file (at tree q)) (not (same (at tree q) (at tree q))) sent in
      false≢true (sym (ap (λ b. not b) (known-self (at tree q) (is_tree.known q) parts.0)) ∙ parts.1))

pub nothing-here : (base tree : List (Path × Content)) → IsTree tree → steps_here (core base tree tree) ≡ []
nothing-here base tree is_tree =
    let s = core base tree tree in
    let known : (q : Path) → is_in q (all_paths s) ≡ true → is_in q (both_paths s) ≡ true = λ q has. sym (in-order q (both_paths s)) ∙ has in
    no-three (steps_at (is_going s s.local) (λ path. None) (deepest_first (all_paths s))) (steps_at (needs_folder s s.local) (λ path. Some Folder) (all_paths s)) (steps_at (is_fetched s) (target s) (all_paths s))
    (none-filtered (is_going s s.local) (λ path. None) (deepest_first (all_paths s)) (λ q has. none-goes base tree is_tree q (known q (sym (deepest-in q (all_paths s)) ∙ has))))
    (none-filtered (needs_folder s s.local) (λ path. Some Folder) (all_paths s) (λ q has. no-folder-needed base tree is_tree q (known q has)))
    (none-filtered (is_fetched s) (target s) (all_paths s) (λ q has. none-fetched base tree is_tree q (known q has)))

pub nothing-there : (base tree : List (Path × Content)) → IsTree tree → steps_there (λ path. false) (core base tree tree) ≡ []
nothing-there base tree is_tree =
    let s = core base tree tree in
    let known : (q : Path) → is_in q (all_paths s) ≡ true → is_in q (both_paths s) ≡ true = λ q has. sym (in-order q (both_paths s)) ∙ has in
    no-three (steps_at (is_going s s.remote) (λ path. None) (deepest_first (all_paths s))) (steps_at (λ path. needs_folder s s.remote path && true) (λ path. Some Folder) (all_paths s)) (steps_at (λ path. is_sent s path && true) (target s) (all_paths s))
    (none-filtered (is_going s s.remote) (λ path. None) (deepest_first (all_paths s)) (λ q has. none-goes base tree is_tree q (known q (sym (deepest-in q (all_paths s)) ∙ has))))
    (none-filtered (λ path. needs_folder s s.remote path && true) (λ path. Some Folder) (all_paths s) (λ q has. and_left (needs_folder s s.remote q) true (no-folder-needed base tree is_tree q (known q has))))
    (none-filtered (λ path. is_sent s path && true) (target s) (all_paths s) (λ q has. and_left (is_sent s q) true (none-sent base tree is_tree q (known q has))))
