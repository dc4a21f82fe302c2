-- Indexes of trees and rows, in which the first entry of a path counts, and what is kept by them.
use Rattle.std.proofs.Common.{◌≡◌, ◌<◌, ◌+◌, suc, length, drop, drop-cons, add-one, get_or, ℕ, Bool, true, false, ◌&&◌, ◌||◌, cond, List, [], ◌∷◌, filter, is_some, Option, Some, None, refl, ap, sym, subst, ◌∙◌}
use Rattle.std.proofs.lemmas.Bool.{true≢false, false≢true}
use Rattle.std.specs.List.{list_any}
use Rattle.od_merge.specs.declared.content.Content.{Content}
use Rattle.od_merge.specs.declared.content.Content.TheVariants.{Folder, File}
use Rattle.od_merge.specs.Sides.{Tree, at, entry_passes, is_from, is_kept, is_kept_node, is_path, paths_of, row_at}
use Rattle.od_merge.proofs.Lists.{Path, path-self, same-path}
use Rattle.od_reconcile.specs.Above.{or_else}
use Rattle.od_reconcile.specs.Ready.{Mark, kept_by, mark_or}
use Rattle.od_reconcile.proofs.Lookups.{eq-path, map-has}
use Rattle.od_keeper.specs.declared.image.BaseRow.{BaseRow}
use Rattle.std.specs.Map.{lookup}
use Rattle.std.specs.Ordering.{is_eq}
use Rattle.gd_names.specs.Ordered.{path_cmp}

or-else-none : {X : Type 0} (x : Option X) → or_else x None ≡ x
or-else-none None = refl
or-else-none (Some x) = refl

-- an index that has what the whole tree has, once nothing is left
pub indexed : (x t : Option Content) → or_else x None ≡ t → x ≡ t
indexed x t is = sym (or-else-none x) ∙ is

kept-node : (passes : Path → Bool → Bool) (tree : Tree) (q : Path) (x : Option Content)
    → kept_by passes q (list_any (λ (entry : Path × Content). is_from q entry.0 && entry_passes passes entry) tree) x ≡ is_kept_node passes tree q x
kept-node passes tree q None = refl
kept-node passes tree q (Some Folder) = refl
kept-node passes tree q (Some (File digest)) = refl

pub kept-is : (passes : Path → Bool → Bool) (tree : Tree) (q : Path) → {content : Option Content} {folder : Bool} → content ≡ at tree q
    → folder ≡ list_any (λ (entry : Path × Content). is_from q entry.0 && entry_passes passes entry) tree → kept_by passes q folder content ≡ is_kept passes tree q
kept-is passes tree q content_is folder_is = rw (content_is, folder_is) (kept-node passes tree q (at tree q))

-- a test of the paths of the entries that pass one
any-one : (t a b : Bool) (f : Path → Bool) (entry : Path × Content) (rest : Tree) → f entry.0 ≡ a → list_any f (paths_of rest) ≡ b → list_any f (paths_of (cond t (entry ∷ rest) rest)) ≡ ((a && t) || b)
any-one true true b f entry rest here more = rw here refl
any-one true false b f entry rest here more = rw here more
any-one false true b f entry rest here more = more
any-one false false b f entry rest here more = more

pub any-passing : (f : Path → Bool) (test : Path × Content → Bool) (tree : Tree) → list_any f (paths_of (filter test tree)) ≡ list_any (λ (entry : Path × Content). f entry.0 && test entry) tree
any-passing f test [] = refl
any-passing f test (entry ∷ tree) =
    any-one (test entry) (f entry.0) (list_any (λ (e : Path × Content). f e.0 && test e) tree) f entry (filter test tree) refl (any-passing f test tree)

pub any-paths : (f : Path → Bool) (tree : Tree) → list_any f (paths_of tree) ≡ list_any (λ (entry : Path × Content). f entry.0) tree
any-paths f [] = refl
any-paths f (entry ∷ tree) = ap (λ b. f entry.0 || b) (any-paths f tree)

-- ---- what is put where nothing stands
turned-at : (t u : Bool) (a b : Path) → is_path a b ≡ t → is_path b a ≡ u → t ≡ u
turned-at true true a b ab ba = refl
turned-at false false a b ab ba = refl
turned-at true false a b ab ba = absurd (true≢false (sym (subst (λ (p : Path). is_path p a ≡ true) (same-path a b ab) (path-self a)) ∙ ba))
turned-at false true a b ab ba = absurd (true≢false (sym (subst (λ (p : Path). is_path p b ≡ true) (same-path b a ba) (path-self b)) ∙ ab))

pub turned : (a b : Path) → is_path a b ≡ is_path b a
turned a b = turned-at (is_path a b) (is_path b a) a b refl refl

abbrev pub found_at : {X : Type 0} → List (Path × X) → Path → Option X
found_at entries path = lookup (λ key. is_eq (path_cmp path key)) entries

some-kept : {X : Type 0} (x other : Option X) → is_some x ≡ true → x ≡ or_else x other
some-kept None other some = absurd (false≢true some)
some-kept (Some x) other some = refl

kept-first-at : {X : Type 0} (t : Bool) (q path : Path) (x : X) (old : List (Path × X)) → is_path path q ≡ t → is_some (found_at old path) ≡ true
    → found_at old q ≡ or_else (found_at old q) (cond t (Some x) None)
kept-first-at true q path x old is some = some-kept (found_at old q) (Some x) (subst (λ (p : Path). is_some (found_at old p) ≡ true) (same-path path q is) some)
kept-first-at false q path x old is some = sym (or-else-none (found_at old q))

pub kept-first : {X : Type 0} (q path : Path) (x : X) (old : List (Path × X)) → is_some (found_at old path) ≡ true
    → found_at old q ≡ or_else (found_at old q) (cond (is_path path q) (Some x) None)
kept-first q path x old some = kept-first-at (is_path path q) q path x old refl some

none-of : {X : Type 0} (x : Option X) → is_some x ≡ false → x ≡ None
none-of None none = refl
none-of (Some x) none = absurd (true≢false none)

put-first-at : {X : Type 0} (t : Bool) (q path : Path) (x : X) (old new : List (Path × X)) → is_path path q ≡ t → is_some (found_at old path) ≡ false
    → found_at new q ≡ cond t (Some x) (found_at old q) → found_at new q ≡ or_else (found_at old q) (cond t (Some x) None)
put-first-at true q path x old new is none put =
    put ∙ ap (λ y. or_else y (Some x)) (sym (subst (λ (p : Path). found_at old p ≡ None) (same-path path q is) (none-of (found_at old path) none)))
put-first-at false q path x old new is none put = put ∙ sym (or-else-none (found_at old q))

pub put-first : {X : Type 0} (q path : Path) (x : X) (old new : List (Path × X)) → is_some (found_at old path) ≡ false
    → found_at new q ≡ cond (is_eq (path_cmp path q)) (Some x) (found_at old q) → found_at new q ≡ or_else (found_at old q) (cond (is_path path q) (Some x) None)
put-first q path x old new none put = put-first-at (is_path path q) q path x old new refl none (put ∙ ap (λ b. cond b (Some x) (found_at old q)) (eq-path path q))

one-at : (q path : Path) (x : Content) (t : Bool) → is_path q path ≡ t → cond t (Some x) None ≡ at ((path, x) ∷ []) q
one-at q path x true is = rw is refl
one-at q path x false is = rw is refl

-- the same of a tree
pub as-entry : (q path : Path) (x : Content) (old new : Tree) → found_at new q ≡ or_else (found_at old q) (cond (is_path path q) (Some x) None) → at new q ≡ or_else (at old q) (at ((path, x) ∷ []) q)
as-entry q path x old new put =
    sym (map-has q new) ∙ (put ∙ (ap (λ y. or_else y (cond (is_path path q) (Some x) None)) (map-has q old)
    ∙ ap (λ y. or_else (at old q) y) (ap (λ b. cond b (Some x) None) (turned path q) ∙ one-at q path x (is_path q path) refl)))

pub or-else-over : {X : Type 0} (a b c : Option X) → or_else (or_else a b) c ≡ or_else a (or_else b c)
or-else-over None b c = refl
or-else-over (Some x) b c = refl

first-or : (t : Bool) (q : Path) (entry : Path × Content) (rest : Tree) → is_path q entry.0 ≡ t → or_else (at (entry ∷ []) q) (at rest q) ≡ at (entry ∷ rest) q
first-or true q entry rest is = rw is refl
first-or false q entry rest is = rw is refl

-- one more entry in an index
pub index-more : (q : Path) (old new : Option Content) (entry : Path × Content) (left rest tree : Tree) → left ≡ entry ∷ rest → or_else old (at left q) ≡ at tree q
    → new ≡ or_else old (at (entry ∷ []) q) → or_else new (at rest q) ≡ at tree q
index-more q old new entry left rest tree left_is before put =
    ap (λ x. or_else x (at rest q)) put
    ∙ (or-else-over old (at (entry ∷ []) q) (at rest q)
    ∙ (ap (λ x. or_else old x) (first-or (is_path q entry.0) q entry rest refl) ∙ (ap (λ (es : Tree). or_else old (at es q)) (sym left_is) ∙ before)))

mark-step : (t : Bool) (mark : Option Mark) (row next : BaseRow) → mark_or (or_else mark (cond t (Some (row.what, row.flight)) None)) next ≡ mark_or mark (cond t row next)
mark-step true None row next = refl
mark-step false None row next = refl
mark-step true (Some mark) row next = refl
mark-step false (Some mark) row next = refl

pub marks-more : (q : Path) (old new : Option Mark) (row : BaseRow) (left rest rows : List BaseRow) → left ≡ row ∷ rest → mark_or old (row_at left q) ≡ mark_or None (row_at rows q)
    → new ≡ or_else old (cond (is_path row.path q) (Some (row.what, row.flight)) None) → mark_or new (row_at rest q) ≡ mark_or None (row_at rows q)
marks-more q old new row left rest rows left_is before put =
    ap (λ m. mark_or m (row_at rest q)) put
    ∙ (mark-step (is_path row.path q) old row (row_at rest q) ∙ (ap (λ (rs : List BaseRow). mark_or old (row_at rs q)) (sym left_is) ∙ before))

pub put-key : {X : Type 0} (q path key : Path) (x : X) (old new : List (Path × X)) → is_some (found_at old path) ≡ false → key ≡ path
    → found_at new q ≡ cond (is_eq (path_cmp key q)) (Some x) (found_at old q) → found_at new q ≡ or_else (found_at old q) (cond (is_path path q) (Some x) None)
put-key q path key x old new none key_is put = put-first q path x old new none (put ∙ ap (λ (k : Path). cond (is_eq (path_cmp k q)) (Some x) (found_at old q)) key_is)

pub drop-next : {X : Type 0} (xs : List X) (i : ℕ) (x : X) → i < length xs → x ≡ get_or xs i x → drop i xs ≡ x ∷ drop (i + 1) xs
drop-next xs i x less is = rw (add-one, drop-cons xs i x) (ap (λ y. y ∷ drop (suc i) xs) (sym is))
