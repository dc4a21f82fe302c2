-- The rows of what was placed are put into the image: those of one call, and of calls in a row.
use Rattle.std.proofs.Common.{◌≡◌, ℕ, true, List, [], ◌∷◌, ◌++◌, map, filter, Option, Some, refl, ap, sym, ◌∙◌, append_assoc}
use Rattle.std.proofs.lemmas.List.{append-nil, map-append}
use Rattle.std.specs.declared.cmp.Ordering.{Ordering}
use Rattle.od_keeper.specs.Images.{applied, by_path, put_all, put_in_order, without_paths}
use Rattle.od_keeper.specs.declared.image.BaseRow.{BaseRow}
use Rattle.od_keeper.specs.declared.image.Change.{Change}
use Rattle.od_keeper.specs.declared.image.Image.{Image}
use Rattle.od_tree.specs.declared.step.LocalStep.{LocalStep}
use Rattle.od_sync.specs.Batches.{change_of_rows}
use Rattle.od_sync.specs.Doing.{GivesRows, Makes, NoFile, PutsRows, placed_files, row_of_file}
use Rattle.od_sync.proofs.Placed.{placed-append, places-none}

-- ---- a change of rows alone
all-stay : {X : Type 0} (xs : List X) → filter (λ (x : X). true) xs ≡ xs
all-stay [] = refl
all-stay (x ∷ xs) = ap (λ those. x ∷ those) (all-stay xs)

rows-alone : (image : Image) (rows : List BaseRow) → applied (change_of_rows rows) image ≡ record image { rows = put_all by_path rows image.rows }
rows-alone image rows =
    ap (λ items. record image { items = items; rows = put_all by_path rows (without_paths [] image.rows) }) (all-stay image.items)
    ∙ ap (λ (those : List BaseRow). record image { rows = put_all by_path rows those }) (all-stay image.rows)

pub rows-applied : (image : Image) (rows : List BaseRow) (change : Change) (next : Image) → change ≡ change_of_rows rows → next ≡ applied change image → next ≡ record image { rows = put_all by_path rows image.rows }
rows-applied image rows change next change_is next_is = next_is ∙ (ap (λ (c : Change). applied c image) change_is ∙ rows-alone image rows)

-- ---- the rows of what was placed
pub puts-none : (image : Image) (log : Option (List LocalStep)) → PutsRows image image log log
puts-none image log = record { told = λ old told. record { part = []; grown = told ∙ ap (λ steps. Some steps) (sym (append-nil old)); next_is = refl } }

pub puts-folders : {IsFolder : List (List ℕ) → Type 0} (image : Image) (before after : Option (List LocalStep)) → Makes IsFolder NoFile before after → PutsRows image image before after
puts-folders {IsFolder} image before after makes = record {
  told = λ old told.
      let made = makes.told old told in
      record {
        part = made.part;
        grown = made.grown;
        next_is = ap (λ (files : List (List (List ℕ) × List ℕ)). record image { rows = put_all by_path (map row_of_file files) image.rows }) (sym (places-none IsFolder made.part made.makes));
      };
}

pub puts-rows : (image : Image) (rows : List BaseRow) (next : Image) (before after : Option (List LocalStep)) → GivesRows rows before after → next ≡ record image { rows = put_all by_path rows image.rows } → PutsRows image next before after
puts-rows image rows next before after gives is = record {
  told = λ old told.
      let given = gives.told old told in
      record {
        part = given.part;
        grown = given.grown;
        next_is = is ∙ ap (λ (those : List BaseRow). record image { rows = put_all by_path those image.rows }) given.rows_are;
      };
}

put-append : {X : Type 0} (compare : X → X → Ordering) (xs ys placed : List X) → put_all compare (xs ++ ys) placed ≡ put_all compare ys (put_all compare xs placed)
put-append compare [] ys placed = refl
put-append compare (x ∷ xs) ys placed = put-append compare xs ys (put_in_order compare x placed)

put-parts : (first second : List LocalStep) (rows : List BaseRow)
    → put_all by_path (map row_of_file (placed_files second)) (put_all by_path (map row_of_file (placed_files first)) rows) ≡ put_all by_path (map row_of_file (placed_files (first ++ second))) rows
put-parts first second rows =
    sym (put-append by_path (map row_of_file (placed_files first)) (map row_of_file (placed_files second)) rows)
    ∙ ap (λ (those : List BaseRow). put_all by_path those rows) (sym (map-append row_of_file (placed_files first) (placed_files second)) ∙ ap (λ (files : List (List (List ℕ) × List ℕ)). map row_of_file files) (sym (placed-append first second)))

pub puts-then : (image mid next : Image) (before now after : Option (List LocalStep)) → PutsRows image mid before now → PutsRows mid next now after → PutsRows image next before after
puts-then image mid next before now after first second = record {
  told = λ old told.
      let one = first.told old told in
      let two = second.told (old ++ one.part) one.grown in
      record {
        part = one.part ++ two.part;
        grown = two.grown ∙ ap (λ steps. Some steps) (append_assoc old one.part two.part);
        next_is = two.next_is
            ∙ (ap (λ (i : Image). record i { rows = put_all by_path (map row_of_file (placed_files two.part)) i.rows }) one.next_is
            ∙ ap (λ (rows : List BaseRow). record image { rows = rows }) (put-parts one.part two.part image.rows));
      };
}
