-- The entries of every folder make a tree: no two stand at one path, and each stands in a folder.
use Rattle.std.proofs.Common.{◌≡◌, ◌⊎◌, inl, inr, ⊎_elim, ℕ, zero, suc, ◌+◌, ◌-◌, ◌^◌, ◌≤◌, Bool, true, false, not, ◌&&◌, ◌||◌, cond, nat_eq, is_some, is_none, List, [], ◌∷◌, ◌++◌, length, drop, Option, Some, None, refl, ap, sym, subst, ◌∙◌, true≢false, arith}
use Rattle.std.proofs.lemmas.Bool.{and_parts, and_from, or_parts, or_cases, cond-true, cond-false, not-true, not-false, both_ways, false_from_ne_true, false≢true, not_from_false}
use Rattle.std.proofs.lemmas.List.{append-nil, append_cancel_left, drop_at, nil_from_length}
use Rattle.std.specs.List.{list_any}
use Rattle.gd_item.specs.Places.{names_above}
use Rattle.od_tree.specs.Local.{Local, empty_folder, is_path, is_from, spot_at, is_folder_spot, file_in, file_at, is_folder_at, has_parent, is_taken_at, held_at, greatest_number, with_spot, without_spot, without_from, moved_path, moved_from, may_move, has_place, after_placed_edit, set_aside, put_back, op_refusal, after_done_op, after_op, after_step, after_steps, local_of}
use Rattle.od_tree.specs.Shape.{IsTree}
use Rattle.od_tree.specs.declared.edit.UserEdit.{UserEdit}
use Rattle.od_tree.specs.declared.edit.UserEdit.TheVariants.{Write, Remove, Move, MakeFolder}
use Rattle.od_tree.specs.declared.fault.TreeFault.{TreeFault}
use Rattle.od_tree.specs.declared.fault.TreeFault.TheVariants.{Taken, Missing, NotEmpty}
use Rattle.od_tree.specs.declared.local.HeldFile.{HeldFile}
use Rattle.od_tree.specs.declared.local.LocalFile.{LocalFile}
use Rattle.od_tree.specs.declared.local.Spot.{Spot}
use Rattle.od_tree.specs.declared.step.LocalStep.{LocalStep}
use Rattle.od_tree.specs.declared.step.LocalStep.TheVariants.{User, Op}
use Rattle.od_tree.specs.declared.step.TreeOp.{TreeOp}
use Rattle.od_tree.specs.declared.step.TreeOp.TheVariants as op
use Rattle.od_tree.proofs.Entries.{In, Free, Distinct, all-of-in, none-in, stands, found-in, free-at, without-in, without-keeps, without-gone, distinct-without, in-kept, kept-in, distinct-kept, in-last, in-front, distinct-last, moved_spot, in-moved, moved-in, distinct-moved}
use Rattle.od_tree.proofs.Paths.{Path, same-path, path-apart, apart-from, from-all, from-split, from-root, front-empty, above-from, from-above, not-itself, above-append, above-shorter, above-other}

-- the root or a folder stands at a path
abbrev pub FolderAt : Path → List Spot → Type 0
FolderAt path spots = (path ≡ []) ⊎ ((spot : Spot) × In spot spots × (spot.path ≡ path) × (spot.file ≡ None))

pub record Standing (spots : List Spot) : Type 0 where
  pub distinct : Distinct spots
  pub named : Free [] spots
  pub parents : (spot : Spot) → In spot spots → FolderAt (names_above spot.path) spots

no-file : (file : Option LocalFile) → is_none file ≡ true → file ≡ None
no-file None none = refl
no-file (Some file) none = absurd (false≢true none)

folder-spot : (found : Option Spot) → is_folder_spot found ≡ true → (spot : Spot) × (found ≡ Some spot) × (spot.file ≡ None)
folder-spot None is = absurd (false≢true is)
folder-spot (Some spot) is = (spot, refl, no-file spot.file is)

pub folder-given : (path : Path) (spots : List Spot) → is_folder_at path spots ≡ true → FolderAt path spots
folder-given [] spots is = inl refl
folder-given (name ∷ path) spots is =
    let some = folder-spot (spot_at (name ∷ path) spots) is in
    let there = found-in (name ∷ path) spots some.0 some.1 in
    inr (some.0, there.0, there.1, some.2)

folder-found : (path : Path) (spots : List Spot) (spot : Spot) → spot_at path spots ≡ Some spot → spot.file ≡ None → is_folder_at path spots ≡ true
folder-found [] spots spot found none = refl
folder-found (name ∷ path) spots spot found none = ap is_folder_spot found ∙ ap (λ (file : Option LocalFile). is_none file) none

pub folder-there : (path : Path) (spots : List Spot) → Distinct spots → FolderAt path spots → is_folder_at path spots ≡ true
folder-there path spots distinct (inl root) = ap (λ (p : Path). is_folder_at p spots) root
folder-there path spots distinct (inr some) =
    folder-found path spots some.0 (subst (λ (p : Path). spot_at p spots ≡ Some some.0) some.2 (stands spots some.0 distinct some.1)) some.3

-- ---- above each entry there are folders alone
up-to : (b : Bool) (top above : Path) (spots : List Spot) → is_path top above ≡ b → is_from top above ≡ true → FolderAt above spots
    → ((folder : Spot) → In folder spots → folder.path ≡ above → is_from top folder.path ≡ true → (top ≡ folder.path → ⊥) → FolderAt top spots) → FolderAt top spots
up-to true top above spots here from folder further = subst (λ (p : Path). FolderAt p spots) (sym (same-path top above here)) folder
up-to false top above spots here from (inl root) further = inl (from-root top (ap (λ (p : Path). is_from top p) (sym root) ∙ from))
up-to false top above spots here from (inr some) further =
    further some.0 some.1 some.2 (ap (λ (p : Path). is_from top p) some.2 ∙ from) (λ same. apart-from top above here (same ∙ some.2))

shorter : (n : ℕ) (folder path : Path) → folder ≡ names_above path → length path ≤ suc n → length folder ≤ n
shorter n folder path same short =
    let long : length folder ≡ length (names_above path) = ap (λ (p : Path). length p) same in
    let low = above-shorter path in
    omega arith

tops : (n : ℕ) (spots : List Spot) (standing : Standing spots) (top : Path) (spot : Spot) → In spot spots → length spot.path ≤ n → is_from top spot.path ≡ true → (top ≡ spot.path → ⊥) → FolderAt top spots
tops zero spots standing top spot is short from apart = absurd (standing.named spot is (nil_from_length spot.path (omega arith)))
tops (suc n) spots standing top spot is short from apart =
    up-to (is_path top (names_above spot.path)) top (names_above spot.path) spots refl (not-itself top spot.path from apart) (standing.parents spot is)
    (λ folder there same from_it other. tops n spots standing top folder there (shorter n folder.path spot.path same short) from_it other)

pub folder-above : (spots : List Spot) (standing : Standing spots) (top : Path) (spot : Spot) → In spot spots → is_from top spot.path ≡ true → (top ≡ spot.path → ⊥) → FolderAt top spots
folder-above spots standing top spot is from apart = tops (length spot.path) spots standing top spot is (omega arith) from apart

pub shaped : (spots : List Spot) → Standing spots → IsTree spots
shaped spots standing = record {
  apart = all-of-in (λ (spot : Spot). spot_at spot.path spots ≡ Some spot) spots (λ spot is. stands spots spot standing.distinct is);
  named = all-of-in (λ (spot : Spot). is_path [] spot.path ≡ false) spots (λ spot is. path-apart [] spot.path (λ same. standing.named spot is (sym same)));
  folders = all-of-in (λ (spot : Spot). (top : Path) → is_from top spot.path ≡ true → is_path top spot.path ≡ false → is_folder_at top spots ≡ true) spots
      (λ spot is top from apart. folder-there top spots standing.distinct (folder-above spots standing top spot is from (apart-from top spot.path apart)));
}

no-root : (spots : List Spot) → Standing spots → (spot : Spot) → spot_at [] spots ≡ Some spot → ⊥
no-root spots standing spot found = let there = found-in [] spots spot found in standing.named spot there.0 there.1

file-spot : (found : Option Spot) (file : LocalFile) → file_in found ≡ Some file → (spot : Spot) × (found ≡ Some spot) × (is_folder_spot found ≡ false)
file-spot None file is = absurd (cc is)
file-spot (Some spot) file is = (spot, refl, ap (λ (f : Option LocalFile). is_none f) is)

file-no-folder : (at : Path) (spots : List Spot) → Standing spots → (file : LocalFile) → file_at at spots ≡ Some file → is_folder_at at spots ≡ false
file-no-folder [] spots standing file is = let some = file-spot (spot_at [] spots) file is in absurd (no-root spots standing some.0 some.1)
file-no-folder (name ∷ at) spots standing file is = (file-spot (spot_at (name ∷ at) spots) file is).2

none-no-folder : (found : Option Spot) → is_some found ≡ false → is_folder_spot found ≡ false
none-no-folder None none = refl
none-no-folder (Some spot) none = absurd (true≢false none)

free-no-folder : (at : Path) (spots : List Spot) → is_taken_at at spots ≡ false → is_folder_at at spots ≡ false
free-no-folder [] spots free = absurd (true≢false free)
free-no-folder (name ∷ at) spots free = none-no-folder (spot_at (name ∷ at) spots) (or_parts (is_path [] (name ∷ at)) (is_some (spot_at (name ∷ at) spots)) free).1

-- ---- one more entry
more-folder : (path : Path) (spots more : List Spot) → FolderAt path spots → FolderAt path (spots ++ more)
more-folder path spots more (inl root) = inl root
more-folder path spots more (inr some) = inr (some.0, in-front spots more some.0 some.1, some.2, some.3)

one-more : (at : Path) (file : Option LocalFile) (spots : List Spot) → Standing spots → (at ≡ [] → ⊥) → Free at spots → FolderAt (names_above at) spots → Standing (with_spot at file spots)
one-more at file spots standing some free parent =
    let last : Spot = record { path = at; file = file } in
    record {
      distinct = distinct-last spots last standing.distinct free;
      named = λ spot is root. ⊎_elim (λ front. standing.named spot front root) (λ here. some (sym (ap (λ (s : Spot). s.path) here) ∙ root)) (in-last spots last spot is);
      parents = λ spot is.
          ⊎_elim (λ front. more-folder (names_above spot.path) spots (last ∷ []) (standing.parents spot front))
          (λ here. subst (λ (s : Spot). FolderAt (names_above s.path) (spots ++ last ∷ [])) (sym here) (more-folder (names_above at) spots (last ∷ []) parent)) (in-last spots last spot is);
    }

-- ---- without an entry that has none below
abbrev Leaf : Path → List Spot → Type 0
Leaf at spots = (spot : Spot) → In spot spots → names_above spot.path ≡ at → ⊥

without-folder : (path at : Path) (spots : List Spot) → (path ≡ at → ⊥) → FolderAt path spots → FolderAt path (without_spot at spots)
without-folder path at spots apart (inl root) = inl root
without-folder path at spots apart (inr some) = inr (some.0, without-keeps at spots some.0 (λ same. apart (sym some.2 ∙ same)) some.1, some.2, some.3)

without-leaf : (at : Path) (spots : List Spot) → Standing spots → Leaf at spots → Standing (without_spot at spots)
without-leaf at spots standing leaf = record {
  distinct = distinct-without at spots standing.distinct;
  named = λ spot is root. standing.named spot (without-in at spots spot is) root;
  parents = λ spot is.
      without-folder (names_above spot.path) at spots (λ same. leaf spot (without-in at spots spot is) same) (standing.parents spot (without-in at spots spot is));
}

no-folder : (at : Path) (spots : List Spot) → Standing spots → is_folder_at at spots ≡ false → Leaf at spots
no-folder at spots standing none = λ spot is same.
    true≢false (sym (folder-there at spots standing.distinct (subst (λ (p : Path). FolderAt p spots) same (standing.parents spot is))) ∙ none)

empty-folder : (at : Path) (spots : List Spot) → Standing spots → list_any (λ (spot : Spot). is_from at spot.path && not (is_path at spot.path)) spots ≡ false → Leaf at spots
empty-folder at spots standing none = λ spot is same.
    let below : (is_from at spot.path && not (is_path at spot.path)) ≡ false = none-in (λ (s : Spot). is_from at s.path && not (is_path at s.path)) spots spot none is in
    let from : is_from at spot.path ≡ true = subst (λ (p : Path). is_from p spot.path ≡ true) same (above-from spot.path) in
    let other : is_path at spot.path ≡ false = path-apart at spot.path (λ here. above-other spot.path (standing.named spot is) (same ∙ here)) in
    true≢false (sym (and_from (is_from at spot.path) (not (is_path at spot.path)) from (not_from_false (is_path at spot.path) other)) ∙ below)

-- ---- without all from a path on
kept-folder : (top path : Path) (spots : List Spot) → is_from top path ≡ false → FolderAt path spots → FolderAt path (without_from top spots)
kept-folder top path spots out (inl root) = inl root
kept-folder top path spots out (inr some) =
    inr (some.0, kept-in (λ (spot : Spot). not (is_from top spot.path)) spots some.0 (ap (λ (p : Path). not (is_from top p)) some.2 ∙ not_from_false (is_from top path) out) some.1, some.2, some.3)

without-below : (top : Path) (spots : List Spot) → Standing spots → Standing (without_from top spots)
without-below top spots standing =
    let test : Spot → Bool = λ spot. not (is_from top spot.path) in
    record {
      distinct = distinct-kept test spots standing.distinct;
      named = λ spot is root. standing.named spot (in-kept test spots spot is).0 root;
      parents = λ spot is.
          let found = in-kept test spots spot is in
          kept-folder top (names_above spot.path) spots
          (false_from_ne_true (is_from top (names_above spot.path)) (λ from. both_ways (is_from top spot.path) (not-true (is_from top spot.path) found.1) (from-above top spot.path from)))
          (standing.parents spot found.0);
    }

-- ---- a move to a free path
moved-out : (from to path : Path) → is_from from path ≡ false → moved_path from to path ≡ path
moved-out from to path out = cond-false (is_from from path) (to ++ drop (length from) path) path out

moved-on : (from to path : Path) → is_from from path ≡ true → moved_path from to path ≡ to ++ drop (length from) path
moved-on from to path on = cond-true (is_from from path) (to ++ drop (length from) path) path on

moved-rest : (from to rest : Path) → moved_path from to (from ++ rest) ≡ to ++ rest
moved-rest from to rest = moved-on from to (from ++ rest) (from-all from rest) ∙ ap (λ (p : Path). to ++ p) (drop_at from rest (length from) refl)

folder-stays : (from to path : Path) (spots : List Spot) → is_from from path ≡ false → FolderAt path spots → FolderAt path (moved_from from to spots)
folder-stays from to path spots out (inl root) = inl root
folder-stays from to path spots out (inr some) =
    inr (moved_spot from to some.0, moved-in from to spots some.0 some.1, moved-out from to some.0.path (ap (λ (p : Path). is_from from p) some.2 ∙ out) ∙ some.2, some.3)

folder-moves : (from to rest : Path) (spots : List Spot) → (from ≡ [] → ⊥) → FolderAt (from ++ rest) spots → FolderAt (to ++ rest) (moved_from from to spots)
folder-moves from to rest spots some (inl root) = absurd (some (front-empty from rest root))
folder-moves from to rest spots some (inr folder) =
    inr (moved_spot from to folder.0, moved-in from to spots folder.0 folder.1, ap (λ (p : Path). moved_path from to p) folder.2 ∙ moved-rest from to rest, folder.3)

module _ (from to : Path) (spots : List Spot) (standing : Standing spots) (some : to ≡ [] → ⊥) (free : Free to spots) (parent : FolderAt (names_above to) spots) (out : is_from from to ≡ false) where
  from-some : from ≡ [] → ⊥
  from-some root = both_ways (is_from from to) out (ap (λ (p : Path). is_from p to) root)

  above-out : (path : Path) → is_from from path ≡ false → is_from from (names_above path) ≡ false
  above-out path path_out = false_from_ne_true (is_from from (names_above path)) (λ on. both_ways (is_from from path) path_out (from-above from path on))

  no-folder-there : FolderAt to spots → ⊥
  no-folder-there (inl root) = some root
  no-folder-there (inr folder) = free folder.0 folder.1 folder.2

  none-if : (b : Bool) (spot : Spot) → is_path to spot.path ≡ b → In spot spots → is_from to spot.path ≡ true → ⊥
  none-if true spot here is on = free spot is (sym (same-path to spot.path here))
  none-if false spot here is on = no-folder-there (folder-above spots standing to spot is on (apart-from to spot.path here))

  none-below : (spot : Spot) → In spot spots → is_from to spot.path ≡ true → ⊥
  none-below spot is on = none-if (is_path to spot.path) spot refl is on

  no-clash : (moved other : Spot) → In other spots → is_from from moved.path ≡ true → is_from from other.path ≡ false → moved_path from to moved.path ≡ moved_path from to other.path → ⊥
  no-clash moved other is on other_out same =
      let there : to ++ drop (length from) moved.path ≡ other.path = sym (moved-on from to moved.path on) ∙ (same ∙ moved-out from to other.path other_out) in
      none-below other is (ap (λ (p : Path). is_from to p) (sym there) ∙ from-all to (drop (length from) moved.path))

  one-if : (p q : Bool) (a b : Spot) → is_from from a.path ≡ p → is_from from b.path ≡ q → In a spots → In b spots → moved_path from to a.path ≡ moved_path from to b.path → a.path ≡ b.path
  one-if true true a b on_a on_b is_a is_b same =
      let rest : drop (length from) a.path ≡ drop (length from) b.path =
      append_cancel_left to (drop (length from) a.path) (drop (length from) b.path) (sym (moved-on from to a.path on_a) ∙ (same ∙ moved-on from to b.path on_b)) in
      from-split from a.path on_a ∙ (ap (λ (p : Path). from ++ p) rest ∙ sym (from-split from b.path on_b))
  one-if true false a b on_a on_b is_a is_b same = absurd (no-clash a b is_b on_a on_b same)
  one-if false true a b on_a on_b is_a is_b same = absurd (no-clash b a is_a on_b on_a (sym same))
  one-if false false a b on_a on_b is_a is_b same = sym (moved-out from to a.path on_a) ∙ (same ∙ moved-out from to b.path on_b)

  named-if : (b : Bool) (old : Spot) → is_from from old.path ≡ b → In old spots → moved_path from to old.path ≡ [] → ⊥
  named-if true old on is root = some (front-empty to (drop (length from) old.path) (sym (moved-on from to old.path on) ∙ root))
  named-if false old on is root = standing.named old is (sym (moved-out from to old.path on) ∙ root)

  parent-rest : (rest : Path) → FolderAt (names_above (from ++ rest)) spots → FolderAt (names_above (to ++ rest)) (moved_from from to spots)
  parent-rest [] above =
      subst (λ (p : Path). FolderAt (names_above p) (moved_from from to spots)) (sym (append-nil to)) (folder-stays from to (names_above to) spots (above-out to out) parent)
  parent-rest (name ∷ rest) above =
      subst (λ (p : Path). FolderAt p (moved_from from to spots)) (sym (above-append to name rest))
      (folder-moves from to (names_above (name ∷ rest)) spots from-some (subst (λ (p : Path). FolderAt p spots) (above-append from name rest) above))

  parent-if : (b : Bool) (old : Spot) → is_from from old.path ≡ b → In old spots → FolderAt (names_above (moved_path from to old.path)) (moved_from from to spots)
  parent-if true old on is =
      subst (λ (p : Path). FolderAt (names_above p) (moved_from from to spots)) (sym (moved-on from to old.path on))
      (parent-rest (drop (length from) old.path) (subst (λ (p : Path). FolderAt (names_above p) spots) (from-split from old.path on) (standing.parents old is)))
  parent-if false old on is =
      subst (λ (p : Path). FolderAt (names_above p) (moved_from from to spots)) (sym (moved-out from to old.path on))
      (folder-stays from to (names_above old.path) spots (above-out old.path on) (standing.parents old is))

  moved : Standing (moved_from from to spots)
  moved = record {
    distinct = distinct-moved from to spots standing.distinct (λ a b is_a is_b same. one-if (is_from from a.path) (is_from from b.path) a b refl refl is_a is_b same);
    named = λ spot is root.
        let old = in-moved from to spots spot is in named-if (is_from from old.0.path) old.0 refl old.1 (sym (ap (λ (s : Spot). s.path) old.2) ∙ root);
    parents = λ spot is.
        let old = in-moved from to spots spot is in
        subst (λ (s : Spot). FolderAt (names_above s.path) (moved_from from to spots)) (sym old.2) (parent-if (is_from from old.0.path) old.0 refl old.1);
  }

-- ---- each edit of the user
written : (at : Path) (file : Option LocalFile) (spots : List Spot) → Standing spots → (not (is_path [] at) && has_parent at spots && not (is_folder_at at spots)) ≡ true
    → Standing (with_spot at file (without_spot at spots))
written at file spots standing place =
    let outer = and_parts (not (is_path [] at) && has_parent at spots) (not (is_folder_at at spots)) place in
    let inner = and_parts (not (is_path [] at)) (has_parent at spots) outer.0 in
    let some : at ≡ [] → ⊥ = λ root. apart-from [] at (not-true (is_path [] at) inner.0) (sym root) in
    one-more at file (without_spot at spots) (without-leaf at spots standing (no-folder at spots standing (not-true (is_folder_at at spots) outer.1))) some
    (without-gone at spots standing.distinct) (without-folder (names_above at) at spots (above-other at some) (folder-given (names_above at) spots inner.1))

put : (at : Path) (file : Option LocalFile) (spots : List Spot) → Standing spots → is_taken_at at spots ≡ false → has_parent at spots ≡ true → Standing (with_spot at file spots)
put at file spots standing free parent =
    let parts = or_parts (is_path [] at) (is_some (spot_at at spots)) free in
    one-more at file spots standing (λ root. apart-from [] at parts.0 (sym root)) (free-at at spots parts.1) (folder-given (names_above at) spots parent)

made : (at : Path) (spots : List Spot) → Standing spots → (not (is_path [] at) && has_parent at spots && not (is_taken_at at spots)) ≡ true → Standing (with_spot at None spots)
made at spots standing place =
    let outer = and_parts (not (is_path [] at) && has_parent at spots) (not (is_taken_at at spots)) place in
    let inner = and_parts (not (is_path [] at)) (has_parent at spots) outer.0 in
    put at None spots standing (not-true (is_taken_at at spots) outer.1) inner.1

file-there : (found : Option LocalFile) → is_some found ≡ true → (file : LocalFile) × (found ≡ Some file)
file-there None is = absurd (false≢true is)
file-there (Some file) is = (file, refl)

over-file : (from to : Path) (spots : List Spot) → Standing spots → (is_some (file_at from spots) && is_some (file_at to spots)) ≡ true → is_folder_at to spots ≡ false
over-file from to spots standing files =
    let there = file-there (file_at to spots) (and_parts (is_some (file_at from spots)) (is_some (file_at to spots)) files).1 in
    file-no-folder to spots standing there.0 there.1

no-folder-moved-over : (from to : Path) (spots : List Spot) → Standing spots → (not (is_taken_at to spots) || is_some (file_at from spots) && is_some (file_at to spots)) ≡ true
    → is_folder_at to spots ≡ false
no-folder-moved-over from to spots standing may =
    ⊎_elim (λ free. free-no-folder to spots (not-true (is_taken_at to spots) free)) (λ files. over-file from to spots standing files)
    (or_cases (not (is_taken_at to spots)) (is_some (file_at from spots) && is_some (file_at to spots)) may)

carried : (from to : Path) (spots : List Spot) → Standing spots → may_move from to spots ≡ true → Standing (moved_from from to (without_spot to spots))
carried from to spots standing may =
    let fourth = and_parts (is_taken_at from spots && has_parent to spots && not (is_from from to) && not (is_path [] to))
    (not (is_taken_at to spots) || is_some (file_at from spots) && is_some (file_at to spots)) may in
    let third = and_parts (is_taken_at from spots && has_parent to spots && not (is_from from to)) (not (is_path [] to)) fourth.0 in
    let second = and_parts (is_taken_at from spots && has_parent to spots) (not (is_from from to)) third.0 in
    let first = and_parts (is_taken_at from spots) (has_parent to spots) second.0 in
    let some : to ≡ [] → ⊥ = λ root. apart-from [] to (not-true (is_path [] to) third.1) (sym root) in
    moved from to (without_spot to spots) (without-leaf to spots standing (no-folder to spots standing (no-folder-moved-over from to spots standing fourth.1))) some
    (without-gone to spots standing.distinct) (without-folder (names_above to) to spots (above-other to some) (folder-given (names_above to) spots first.1))
    (not-true (is_from from to) second.1)

placed : (step : ℕ) (local : Local) (edit : UserEdit) → Standing local.spots → has_place local edit ≡ true → Standing (after_placed_edit step local edit).spots
placed step local (Write at bytes) standing place = written at (Some (record { bytes = bytes; origin = Some step })) local.spots standing place
placed step local (Remove at) standing place = without-below at local.spots standing
placed step local (Move from to) standing place = carried from to local.spots standing place
placed step local (MakeFolder at) standing place = made at local.spots standing place

by_place : (place : Bool) (done local : Local) → Standing local.spots → (place ≡ true → Standing done.spots) → Standing (cond place done local).spots
by_place true done local standing then = then refl
by_place false done local standing then = standing

-- ---- each operation
by_refusal : (refusal : Option TreeFault) (done local : Local) → Standing local.spots → (refusal ≡ None → Standing done.spots) → Standing (cond (is_none refusal) done local).spots
by_refusal None done local standing then = then refl
by_refusal (Some fault) done local standing then = standing

not-first : (b : Bool) (fault : TreeFault) (rest : Option TreeFault) → cond b (Some fault) rest ≡ None → (b ≡ false) × (rest ≡ None)
not-first true fault rest none = absurd (cc none)
not-first false fault rest none = (refl, none)

put-there : (at : Path) (file : Option LocalFile) (spots : List Spot) → Standing spots → cond (is_taken_at at spots) (Some Taken) (cond (not (has_parent at spots)) (Some Missing) None) ≡ None
    → Standing (with_spot at file spots)
put-there at file spots standing none =
    let free = not-first (is_taken_at at spots) Taken (cond (not (has_parent at spots)) (Some Missing) None) none in
    let parent = not-first (not (has_parent at spots)) Missing None free.1 in
    put at file spots standing free.0 (not-false (has_parent at spots) parent.0)

dir-removed : (at : Path) (spots : List Spot) → Standing spots
    → cond (not (is_folder_spot (spot_at at spots))) (Some Missing) (cond (list_any (λ (spot : Spot). is_from at spot.path && not (is_path at spot.path)) spots) (Some NotEmpty) None) ≡ None
    → Standing (without_spot at spots)
dir-removed at spots standing none =
    let low : Bool = list_any (λ (spot : Spot). is_from at spot.path && not (is_path at spot.path)) spots in
    let there = not-first (not (is_folder_spot (spot_at at spots))) Missing (cond low (Some NotEmpty) None) none in
    let empty = not-first low NotEmpty None there.1 in
    without-leaf at spots standing (empty-folder at spots standing empty.0)

renamed : (from to : Path) (spots : List Spot) → Standing spots
    → cond (not (is_taken_at from spots) || not (has_parent to spots) || is_from from (names_above to)) (Some Missing) (cond (is_taken_at to spots) (Some Taken) None) ≡ None
    → Standing (moved_from from to spots)
renamed from to spots standing none =
    let there = not-first (not (is_taken_at from spots) || not (has_parent to spots) || is_from from (names_above to)) Missing (cond (is_taken_at to spots) (Some Taken) None) none in
    let free = not-first (is_taken_at to spots) Taken None there.1 in
    let outer = or_parts (not (is_taken_at from spots) || not (has_parent to spots)) (is_from from (names_above to)) there.0 in
    let inner = or_parts (not (is_taken_at from spots)) (not (has_parent to spots)) outer.0 in
    let parts = or_parts (is_path [] to) (is_some (spot_at to spots)) free.0 in
    let taken : is_taken_at from spots ≡ true = not-false (is_taken_at from spots) inner.0 in
    let out : is_from from to ≡ false =
    false_from_ne_true (is_from from to) (λ on.
    both_ways (is_from from (names_above to)) outer.1 (not-itself from to on (λ same. both_ways (is_taken_at to spots) free.0 (subst (λ (p : Path). is_taken_at p spots ≡ true) same taken)))) in
    moved from to spots standing (λ root. apart-from [] to parts.0 (sym root)) (free-at to spots parts.1) (folder-given (names_above to) spots (not-false (has_parent to spots) inner.1)) out

aside : (at : Path) (local : Local) (found : Option LocalFile) → file_at at local.spots ≡ found → Standing local.spots → Standing (set_aside at local found).spots
aside at local None is standing = standing
aside at local (Some file) is standing =
    let after : Local = record { spots = without_spot at local.spots; held = local.held ++ record { number = greatest_number local.held + 1; from = at; file = file } ∷ [] } in
    elim (nat_eq (greatest_number local.held) (2 ^ 64 - 1)) as (λ b. Standing (cond b local after).spots)
    [ true ↦ standing | false ↦ without-leaf at local.spots standing (no-folder at local.spots standing (file-no-folder at local.spots standing file is)) ]

back : (number : ℕ) (to : Path) (local : Local) (found : Option HeldFile) → Standing local.spots
    → cond (is_none (held_at number local.held) || not (has_parent to local.spots)) (Some Missing) (cond (is_taken_at to local.spots) (Some Taken) None) ≡ None
    → Standing (put_back to local found).spots
back number to local None standing none = standing
back number to local (Some held) standing none =
    let there = not-first (is_none (held_at number local.held) || not (has_parent to local.spots)) Missing (cond (is_taken_at to local.spots) (Some Taken) None) none in
    let free = not-first (is_taken_at to local.spots) Taken None there.1 in
    let parent = or_parts (is_none (held_at number local.held)) (not (has_parent to local.spots)) there.0 in
    put to (Some held.file) local.spots standing free.0 (not-false (has_parent to local.spots) parent.1)

operated : (local : Local) (call : TreeOp) → Standing local.spots → Standing (after_op local call).spots
operated local (op.List at) standing = by_refusal (op_refusal local (op.List at)) local local standing (λ none. standing)
operated local (op.Read at) standing = by_refusal (op_refusal local (op.Read at)) local local standing (λ none. standing)
operated local (op.MakeDir at) standing =
    by_refusal (op_refusal local (op.MakeDir at)) (after_done_op local (op.MakeDir at)) local standing (λ none. put-there at None local.spots standing none)
operated local (op.RemoveDir at) standing =
    by_refusal (op_refusal local (op.RemoveDir at)) (after_done_op local (op.RemoveDir at)) local standing (λ none. dir-removed at local.spots standing none)
operated local (op.Place at bytes) standing =
    by_refusal (op_refusal local (op.Place at bytes)) (after_done_op local (op.Place at bytes)) local standing
    (λ none. put-there at (Some (record { bytes = bytes; origin = None })) local.spots standing none)
operated local (op.Rename from to) standing =
    by_refusal (op_refusal local (op.Rename from to)) (after_done_op local (op.Rename from to)) local standing (λ none. renamed from to local.spots standing none)
operated local (op.SetAside at) standing =
    by_refusal (op_refusal local (op.SetAside at)) (after_done_op local (op.SetAside at)) local standing (λ none. aside at local (file_at at local.spots) refl standing)
operated local (op.ReadAside number) standing = by_refusal (op_refusal local (op.ReadAside number)) local local standing (λ none. standing)
operated local (op.PutBack number to) standing =
    by_refusal (op_refusal local (op.PutBack number to)) (after_done_op local (op.PutBack number to)) local standing (λ none. back number to local (held_at number local.held) standing none)
operated local (op.Discard number) standing =
    by_refusal (op_refusal local (op.Discard number)) (after_done_op local (op.Discard number)) local standing (λ none. standing)
operated local op.Asides standing = standing

-- ---- the log
pub stepped : (step : ℕ) (local : Local) (first : LocalStep) → Standing local.spots → Standing (after_step step local first).spots
stepped step local (User edit) standing = by_place (has_place local edit) (after_placed_edit step local edit) local standing (λ place. placed step local edit standing place)
stepped step local (Op call) standing = operated local call standing

all-stepped : (step : ℕ) (local : Local) (steps : List LocalStep) → Standing local.spots → Standing (after_steps step local steps).spots
all-stepped step local [] standing = standing
all-stepped step local (first ∷ steps) standing = all-stepped (step + 1) (after_step step local first) steps (stepped step local first standing)

pub nothing-stands : Standing []
nothing-stands = record { distinct = tt; named = λ spot is root. is; parents = λ spot is. absurd is }

pub folder-standing : (log : List LocalStep) → Standing (local_of log).spots
folder-standing log = all-stepped 0 empty_folder log nothing-stands

pub folder_is_tree : (log : List LocalStep) → IsTree (local_of log).spots
folder_is_tree log = shaped (local_of log).spots (folder-standing log)
