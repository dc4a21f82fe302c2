-- The entries of a folder: which are among them, that no two stand at one path, and what is left of them.
use Rattle.std.proofs.Common.{◌≡◌, ◌⊎◌, inl, inr, ⊎_elim, Bool, true, false, cond, is_some, filter, List, [], ◌∷◌, ◌++◌, Option, Some, refl, ap, sym, ◌∙◌, true≢false}
use Rattle.std.proofs.lemmas.Bool.{cond-true, cond-false, or_parts}
use Rattle.std.specs.List.{AllByRecursion, list_any}
use Rattle.od_tree.specs.Local.{is_path, spot_at, without_spot, moved_path, moved_from}
use Rattle.od_tree.specs.declared.local.Spot.{Spot}
use Rattle.od_tree.proofs.Paths.{Path, path-self, same-path, path-apart, apart-from}

abbrev pub In : Spot → List Spot → Type 0
In spot [] = ⊥
In spot (first ∷ spots) = (spot ≡ first) ⊎ In spot spots

-- no entry stands at a path, and no two at one
abbrev pub Free : Path → List Spot → Type 0
Free path spots = (spot : Spot) → In spot spots → spot.path ≡ path → ⊥

abbrev pub Distinct : List Spot → Type 0
Distinct [] = Unit {0}
Distinct (spot ∷ spots) = Free spot.path spots × Distinct spots

pub all-of-in : (Q : Spot → Type 0) (spots : List Spot) → ((spot : Spot) → In spot spots → Q spot) → AllByRecursion Q spots
all-of-in Q [] told = tt
all-of-in Q (spot ∷ spots) told = (told spot (inl refl), all-of-in Q spots (λ other is. told other (inr is)))

pub none-in : (test : Spot → Bool) (spots : List Spot) (spot : Spot) → list_any test spots ≡ false → In spot spots → test spot ≡ false
none-in test [] spot none is = absurd is
none-in test (first ∷ spots) spot none (inl same) = ap test same ∙ (or_parts (test first) (list_any test spots) none).0
none-in test (first ∷ spots) spot none (inr more) = none-in test spots spot (or_parts (test first) (list_any test spots) none).1 more

-- ---- the entry at a path
pub stands : (spots : List Spot) (spot : Spot) → Distinct spots → In spot spots → spot_at spot.path spots ≡ Some spot
stands [] spot distinct is = absurd is
stands (first ∷ spots) spot distinct (inl same) =
    cond-true (is_path first.path spot.path) (Some first) (spot_at spot.path spots) (ap (λ (s : Spot). is_path first.path s.path) same ∙ path-self first.path) ∙ ap (λ s. Some s) (sym same)
stands (first ∷ spots) spot distinct (inr more) =
    cond-false (is_path first.path spot.path) (Some first) (spot_at spot.path spots) (path-apart first.path spot.path (λ same. distinct.0 spot more (sym same))) ∙ stands spots spot distinct.1 more

found-if : (b : Bool) (path : Path) (first spot : Spot) (spots : List Spot) → is_path first.path path ≡ b → cond b (Some first) (spot_at path spots) ≡ Some spot
    → (spot_at path spots ≡ Some spot → In spot spots × (spot.path ≡ path)) → In spot (first ∷ spots) × (spot.path ≡ path)
found-if true path first spot spots here is later =
    let same : first ≡ spot = cc is in
    (inl (sym same), sym (ap (λ (s : Spot). s.path) same) ∙ same-path first.path path here)
found-if false path first spot spots here is later = let more = later is in (inr more.0, more.1)

pub found-in : (path : Path) (spots : List Spot) (spot : Spot) → spot_at path spots ≡ Some spot → In spot spots × (spot.path ≡ path)
found-in path [] spot is = absurd (cc is)
found-in path (first ∷ spots) spot is = found-if (is_path first.path path) path first spot spots refl is (found-in path spots spot)

some-if : (b : Bool) (first : Spot) (rest : Option Spot) → (b ≡ false → is_some rest ≡ true) → is_some (cond b (Some first) rest) ≡ true
some-if true first rest later = refl
some-if false first rest later = later refl

some-there : (path : Path) (spots : List Spot) (spot : Spot) → In spot spots → spot.path ≡ path → is_some (spot_at path spots) ≡ true
some-there path [] spot is same = absurd is
some-there path (first ∷ spots) spot (inl here) same =
    some-if (is_path first.path path) first (spot_at path spots) (λ apart. absurd (apart-from first.path path apart (sym (ap (λ (s : Spot). s.path) here) ∙ same)))
some-there path (first ∷ spots) spot (inr more) same = some-if (is_path first.path path) first (spot_at path spots) (λ apart. some-there path spots spot more same)

pub free-at : (path : Path) (spots : List Spot) → is_some (spot_at path spots) ≡ false → Free path spots
free-at path spots none = λ spot is same. true≢false (sym (some-there path spots spot is same) ∙ none)

-- ---- without the first at a path
without-if : (b : Bool) (spot first : Spot) (spots rest : List Spot) → (In spot rest → In spot spots) → In spot (cond b spots (first ∷ rest)) → In spot (first ∷ spots)
without-if true spot first spots rest later is = inr is
without-if false spot first spots rest later (inl same) = inl same
without-if false spot first spots rest later (inr more) = inr (later more)

pub without-in : (at : Path) (spots : List Spot) (spot : Spot) → In spot (without_spot at spots) → In spot spots
without-in at [] spot is = absurd is
without-in at (first ∷ spots) spot is = without-if (is_path first.path at) spot first spots (without_spot at spots) (without-in at spots spot) is

keeps-if : (b : Bool) (at : Path) (spot first : Spot) (spots rest : List Spot) → is_path first.path at ≡ b → (spot.path ≡ at → ⊥) → (In spot spots → In spot rest) → In spot (first ∷ spots)
    → In spot (cond b spots (first ∷ rest))
keeps-if true at spot first spots rest here apart later (inl same) = absurd (apart (ap (λ (s : Spot). s.path) same ∙ same-path first.path at here))
keeps-if true at spot first spots rest here apart later (inr more) = more
keeps-if false at spot first spots rest here apart later (inl same) = inl same
keeps-if false at spot first spots rest here apart later (inr more) = inr (later more)

pub without-keeps : (at : Path) (spots : List Spot) (spot : Spot) → (spot.path ≡ at → ⊥) → In spot spots → In spot (without_spot at spots)
without-keeps at [] spot apart is = absurd is
without-keeps at (first ∷ spots) spot apart is = keeps-if (is_path first.path at) at spot first spots (without_spot at spots) refl apart (without-keeps at spots spot apart) is

free-more : (at : Path) (first : Spot) (rest : List Spot) → (first.path ≡ at → ⊥) → Free at rest → (spot : Spot) → In spot (first ∷ rest) → spot.path ≡ at → ⊥
free-more at first rest apart free spot (inl here) same = apart (sym (ap (λ (s : Spot). s.path) here) ∙ same)
free-more at first rest apart free spot (inr more) same = free spot more same

gone-if : (b : Bool) (at : Path) (first : Spot) (spots rest : List Spot) → is_path first.path at ≡ b → Free first.path spots → Free at rest → Free at (cond b spots (first ∷ rest))
gone-if true at first spots rest here free later = λ spot is same. free spot is (same ∙ sym (same-path first.path at here))
gone-if false at first spots rest here free later = free-more at first rest (apart-from first.path at here) later

pub without-gone : (at : Path) (spots : List Spot) → Distinct spots → Free at (without_spot at spots)
without-gone at [] distinct = λ spot is same. is
without-gone at (first ∷ spots) distinct = gone-if (is_path first.path at) at first spots (without_spot at spots) refl distinct.0 (without-gone at spots distinct.1)

distinct-if : (b : Bool) (first : Spot) (spots rest : List Spot) → ((spot : Spot) → In spot rest → In spot spots) → Free first.path spots → Distinct spots → Distinct rest → Distinct (cond b spots (first ∷ rest))
distinct-if true first spots rest part free whole left = whole
distinct-if false first spots rest part free whole left = (λ spot is same. free spot (part spot is) same, left)

pub distinct-without : (at : Path) (spots : List Spot) → Distinct spots → Distinct (without_spot at spots)
distinct-without at [] distinct = tt
distinct-without at (first ∷ spots) distinct =
    distinct-if (is_path first.path at) first spots (without_spot at spots) (without-in at spots) distinct.0 distinct.1 (distinct-without at spots distinct.1)

-- ---- those that pass a test
kept-if : (b : Bool) (test : Spot → Bool) (spot first : Spot) (spots rest : List Spot) → test first ≡ b → (In spot rest → In spot spots × (test spot ≡ true)) → In spot (cond b (first ∷ rest) rest)
    → In spot (first ∷ spots) × (test spot ≡ true)
kept-if true test spot first spots rest pass later (inl same) = (inl same, ap test same ∙ pass)
kept-if true test spot first spots rest pass later (inr more) = let found = later more in (inr found.0, found.1)
kept-if false test spot first spots rest pass later is = let found = later is in (inr found.0, found.1)

pub in-kept : (test : Spot → Bool) (spots : List Spot) (spot : Spot) → In spot (filter test spots) → In spot spots × (test spot ≡ true)
in-kept test [] spot is = absurd is
in-kept test (first ∷ spots) spot is = kept-if (test first) test spot first spots (filter test spots) refl (in-kept test spots spot) is

stays-if : (b : Bool) (test : Spot → Bool) (spot first : Spot) (spots rest : List Spot) → test first ≡ b → test spot ≡ true → (In spot spots → In spot rest) → In spot (first ∷ spots)
    → In spot (cond b (first ∷ rest) rest)
stays-if true test spot first spots rest is pass later (inl same) = inl same
stays-if true test spot first spots rest is pass later (inr more) = inr (later more)
stays-if false test spot first spots rest is pass later (inl same) = absurd (true≢false (sym pass ∙ (ap test same ∙ is)))
stays-if false test spot first spots rest is pass later (inr more) = later more

pub kept-in : (test : Spot → Bool) (spots : List Spot) (spot : Spot) → test spot ≡ true → In spot spots → In spot (filter test spots)
kept-in test [] spot pass is = absurd is
kept-in test (first ∷ spots) spot pass is = stays-if (test first) test spot first spots (filter test spots) refl pass (kept-in test spots spot pass) is

distinct-kept-if : (b : Bool) (first : Spot) (rest : List Spot) → Free first.path rest → Distinct rest → Distinct (cond b (first ∷ rest) rest)
distinct-kept-if true first rest free left = (free, left)
distinct-kept-if false first rest free left = left

pub distinct-kept : (test : Spot → Bool) (spots : List Spot) → Distinct spots → Distinct (filter test spots)
distinct-kept test [] distinct = tt
distinct-kept test (first ∷ spots) distinct =
    distinct-kept-if (test first) first (filter test spots) (λ spot is same. distinct.0 spot (in-kept test spots spot is).0 same) (distinct-kept test spots distinct.1)

-- ---- one more, last
pub in-last : (spots : List Spot) (last spot : Spot) → In spot (spots ++ last ∷ []) → In spot spots ⊎ (spot ≡ last)
in-last [] last spot (inl same) = inr same
in-last [] last spot (inr more) = absurd more
in-last (first ∷ spots) last spot (inl same) = inl (inl same)
in-last (first ∷ spots) last spot (inr more) = ⊎_elim (λ front. inl (inr front)) (λ same. inr same) (in-last spots last spot more)

pub in-front : (spots more : List Spot) (spot : Spot) → In spot spots → In spot (spots ++ more)
in-front [] more spot is = absurd is
in-front (first ∷ spots) more spot (inl same) = inl same
in-front (first ∷ spots) more spot (inr is) = inr (in-front spots more spot is)

pub distinct-last : (spots : List Spot) (last : Spot) → Distinct spots → Free last.path spots → Distinct (spots ++ last ∷ [])
distinct-last [] last distinct free = (λ spot is same. is, tt)
distinct-last (first ∷ spots) last distinct free = (
  λ spot is same.
      ⊎_elim (λ front. distinct.0 spot front same) (λ here. free first (inl refl) (sym same ∙ ap (λ (s : Spot). s.path) here)) (in-last spots last spot is),
  distinct-last spots last distinct.1 (λ spot is same. free spot (inr is) same),
)

-- ---- moved
abbrev pub moved_spot : Path → Path → Spot → Spot
moved_spot from to spot = record spot { path = moved_path from to spot.path }

pub in-moved : (from to : Path) (spots : List Spot) (spot : Spot) → In spot (moved_from from to spots) → (old : Spot) × In old spots × (spot ≡ moved_spot from to old)
in-moved from to [] spot is = absurd is
in-moved from to (first ∷ spots) spot (inl same) = (first, inl refl, same)
in-moved from to (first ∷ spots) spot (inr more) = let found = in-moved from to spots spot more in (found.0, inr found.1, found.2)

pub moved-in : (from to : Path) (spots : List Spot) (spot : Spot) → In spot spots → In (moved_spot from to spot) (moved_from from to spots)
moved-in from to [] spot is = absurd is
moved-in from to (first ∷ spots) spot (inl same) = inl (ap (moved_spot from to) same)
moved-in from to (first ∷ spots) spot (inr more) = inr (moved-in from to spots spot more)

pub distinct-moved : (from to : Path) (spots : List Spot) → Distinct spots
    → ((a b : Spot) → In a spots → In b spots → moved_path from to a.path ≡ moved_path from to b.path → a.path ≡ b.path) → Distinct (moved_from from to spots)
distinct-moved from to [] distinct one = tt
distinct-moved from to (first ∷ spots) distinct one = (
  λ spot is same.
      let old = in-moved from to spots spot is in
      distinct.0 old.0 old.1 (one old.0 first (inr old.1) (inl refl) (sym (ap (λ (s : Spot). s.path) old.2) ∙ same)),
  distinct-moved from to spots distinct.1 (λ a b is_a is_b same. one a b (inr is_a) (inr is_b) same),
)
