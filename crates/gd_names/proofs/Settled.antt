-- A name that is settled as free is no sibling's, and what stands over an item stands over a file of that name.
use Rattle.std.proofs.Common.{◌≡◌, ℕ, zero, suc, ◌+◌, ◌^◌, ◌<◌, ◌≤◌, Bool, true, false, not, ◌&&◌, cond, nat_le, eqb, leb, List, [], ◌∷◌, ◌++◌, map, length, codes, Option, Some, None, sym, refl, ap₂, ◌∙◌, subst, ⊎_elim, arith}
use Rattle.std.specs.Char.{to_ascii_lowercase, is_ascii_digit}
use Rattle.std.specs.Cmp.Lexicographic.{bytes_decides}
use Rattle.std.specs.Fmt.{decimal}
use Rattle.std.specs.List.{list_any, find}
use Rattle.std.specs.Str.{all_ascii_digits}
use Rattle.std.proofs.lemmas.Bool.{cond-true, cond-false, cases_Bool, cases_eq, both_ways, false_from_ne_true, and_parts, or_cases, or_left, or_right, eq-eqb, leb-true}
use Rattle.std.proofs.lemmas.Bool.Decides.{nat_tests}
use Rattle.std.proofs.lemmas.Fmt.{digits_decimal, decimal_injective}
use Rattle.std.proofs.lemmas.List.{length-map}
use Rattle.std.proofs.lemmas.Map.Steps.{le-length_from_below}
use Rattle.gd_names.specs.Caseless.{lower_case, equal_caseless}
use Rattle.gd_names.specs.Numbered.{extension, stem, numbered}
use Rattle.gd_names.specs.Settling.{is_taken, least_number, settled_at, settled}
use Rattle.gd_names.specs.declared.conflict.Conflict.{Conflict}
use Rattle.gd_names.specs.declared.conflict.Conflict.TheVariants.{Fail, Replace, Rename}
use Rattle.gd_names.specs.declared.conflict.Sibling.{Sibling}
use Rattle.gd_names.specs.declared.conflict.Settle.TheVariants.{Free, Over, Refuse}
use Rattle.gd_names.proofs.CaselessParts.{fronts_apart, ends_apart}
use Rattle.gd_names.proofs.Decimals.{own}
use Rattle.gd_names.proofs.Small.{none_found}

-- a file over a file
file_over : (folder other : Bool) (id number : ℕ) → cond (not folder && not other) (Over id) Refuse ≡ Over number → (id ≡ number) × (other ≡ false) × (folder ≡ false)
file_over true other id number is = cc
file_over false true id number is = cc
file_over false false id number is = (cc, refl, refl)

-- a test that gives a free name or none puts nothing over an item
free_is_not_over : (fits : Bool) (name : List ℕ) (number : ℕ) → cond fits (Free name) Refuse ≡ Over number → ⊥
free_is_not_over true name number is = cc
free_is_not_over false name number is = cc

over_at : (found : Option Sibling) (behaviour : Conflict) (siblings : List Sibling) (name : List ℕ) (folder : Bool) (number : ℕ) → settled_at found behaviour siblings name folder ≡ Over number → (sibling : Sibling) × (found ≡ Some sibling) × (sibling.id ≡ number) × (sibling.folder ≡ false) × (folder ≡ false)
over_at None behaviour siblings name folder number is = absurd cc
over_at (Some other) Fail siblings name folder number is = absurd cc
over_at (Some other) Replace siblings name folder number is =
    let parts = file_over folder other.folder other.id number is in
    (other, refl, parts.0, parts.1, parts.2)
over_at (Some other) Rename siblings name folder number is =
    let made = numbered name folder (least_number siblings siblings name folder 1) in
    absurd (free_is_not_over (nat_le (length made) 255) made number is)

-- what goes over an item goes as a file over the file that has the name
pub over-sibling : (behaviour : Conflict) (siblings : List Sibling) (name : List ℕ) (folder : Bool) (number : ℕ) → settled behaviour siblings name folder ≡ Over number → (sibling : Sibling) × (find (λ s. equal_caseless s.name name) siblings ≡ Some sibling) × (sibling.id ≡ number) × (sibling.folder ≡ false) × (folder ≡ false)
over-sibling behaviour siblings name folder number is =
    over_at (find (λ s. equal_caseless s.name name) siblings) behaviour siblings name folder number is

-- digits have no case
digit_in_lower_case : (d : ℕ) → is_ascii_digit d ≡ true → to_ascii_lowercase d ≡ d
digit_in_lower_case d is =
    let high : d ≤ 57 = leb-true d 57 (and_parts (leb 48 d) (leb d 57) is).1 in
    grind (arith, nat_tests)

pub digits_in_lower_case : (ds : List ℕ) → all_ascii_digits ds ≡ true → lower_case ds ≡ ds
digits_in_lower_case [] are = refl
digits_in_lower_case (d ∷ ds) are =
    let parts = and_parts _ _ are in
    ap₂ (λ x xs. x ∷ xs) (digit_in_lower_case d parts.0) (digits_in_lower_case ds parts.1)

same_decimal : (i j : ℕ) → i < 2 ^ 64 → j < 2 ^ 64 → equal_caseless (decimal i) (decimal j) ≡ true → i ≡ j
same_decimal i j i_fits j_fits same =
    decimal_injective i j i_fits j_fits
    (sym (digits_in_lower_case (decimal i) (digits_decimal own i i_fits))
    ∙ (bytes_decides (lower_case (decimal i)) (lower_case (decimal j))).0 same
    ∙ digits_in_lower_case (decimal j) (digits_decimal own j j_fits))

-- a name is equal to a numbered one for one number at most
one_number : (other name : List ℕ) (folder : Bool) (i j : ℕ) → i ≤ 100000 → j ≤ 100000 → equal_caseless other (numbered name folder i) ≡ true → equal_caseless other (numbered name folder j) ≡ true → i ≡ j
one_number other name folder i j i_fits j_fits first second =
    let i_small : i < 2 ^ 64 = omega arith in
    let j_small : j < 2 ^ 64 = omega arith in
    let front = stem name folder ++ codes " " in
    let end = extension name folder in
    let low = (bytes_decides (lower_case other) (lower_case (numbered name folder i))).0 first in
    let high = (bytes_decides (lower_case other) (lower_case (numbered name folder j))).0 second in
    let equal = (bytes_decides (lower_case (numbered name folder i)) (lower_case (numbered name folder j))).1 (sym low ∙ high) in
    let ends = and_parts _ _ (sym (ends_apart (front ++ decimal i) (front ++ decimal j) end end refl) ∙ equal) in
    let fronts = and_parts _ _ (sym (fronts_apart front front (decimal i) (decimal j) refl) ∙ ends.0) in
    same_decimal i j i_small j_small fronts.1

module _ (name : List ℕ) (folder : Bool) where
  -- whether the other name has the number
  abbrev has : List ℕ → ℕ → Bool
  has other n = equal_caseless other (numbered name folder n)

  -- one less than the number from 1 to n that the other name has
  index_of : ℕ → List ℕ → ℕ
  index_of zero other = 0
  index_of (suc n) other = cond (has other (n + 1)) n (index_of n other)

  index_is : (n q : ℕ) (other : List ℕ) → n ≤ 100000 → q < n → has other (q + 1) ≡ true → index_of n other ≡ q
  unfolding index_of
  index_is zero q other fits below is = absurd (omega arith)
  index_is (suc n) q other fits below is =
      ⊎_elim
      (λ here.
      let same : n + 1 ≡ q + 1 = one_number other name folder (n + 1) (q + 1) (omega arith) (omega arith) here is in
      cond-true (has other (n + 1)) n (index_of n other) here ∙ (omega arith))
      (λ not_here.
      let apart : q ≡ n → ⊥ = λ same. both_ways (has other (n + 1)) not_here (subst (λ (k : ℕ). has other (k + 1) ≡ true) same is) in
      cond-false (has other (n + 1)) n (index_of n other) not_here ∙ index_is n q other (omega arith) (omega arith) is)
      (cases_Bool (has other (n + 1)))

  index_found : (n q : ℕ) (others : List Sibling) → n ≤ 100000 → q < n → is_taken others (numbered name folder (q + 1)) ≡ true → list_any (eqb q) (map (λ other. index_of n other.name) others) ≡ true
  index_found n q [] fits below is = cc
  index_found n q (other ∷ others) fits below is =
      let at = eqb q (index_of n other.name) in
      let after = list_any (eqb q) (map (λ s. index_of n s.name) others) in
      ⊎_elim
      (λ here. or_left at after (eq-eqb q (index_of n other.name) (sym (index_is n q other.name fits below here))))
      (λ later. or_right at after (index_found n q others fits below later))
      (or_cases (has other.name (q + 1)) (is_taken others (numbered name folder (q + 1))) is)

  -- no more numbers are taken than there are siblings
  taken_fit : (n : ℕ) (siblings : List Sibling) → n ≤ 100000 → ((q : ℕ) → q < n → is_taken siblings (numbered name folder (q + 1)) ≡ true) → n ≤ length siblings
  taken_fit n siblings fits each =
      let indices = map (λ (other : Sibling). index_of n other.name) siblings in
      let long : n ≤ length indices = le-length_from_below indices n (λ q below. index_found n q siblings fits below (each q below)) in
      let same : length indices ≡ length siblings = length-map siblings (λ (other : Sibling). index_of n other.name) in
      omega arith

  module _ (siblings : List Sibling) where
    abbrev taken : ℕ → Bool
    taken n = is_taken siblings (numbered name folder n)

    abbrev least : List Sibling → ℕ → ℕ
    least fuel from = least_number fuel siblings name folder from

    least_if_taken : (other : Sibling) (fuel : List Sibling) (from : ℕ) → taken from ≡ true → least (other ∷ fuel) from ≡ least fuel (from + 1)
    least_if_taken other fuel from is = cond-true (taken from) (least fuel (from + 1)) from is

    least_if_free : (other : Sibling) (fuel : List Sibling) (from : ℕ) → taken from ≡ false → least (other ∷ fuel) from ≡ from
    least_if_free other fuel from is = cond-false (taken from) (least fuel (from + 1)) from is

    -- each number below the least is taken
    taken_below : (fuel : List Sibling) (from n : ℕ) → from ≤ n → n < least fuel from → taken n ≡ true
    taken_below [] from n low high = absurd (omega arith)
    taken_below (other ∷ fuel) from n low high =
        ⊎_elim
        (λ is.
        let step = least_if_taken other fuel from is in
        ⊎_elim
        (λ same. subst (λ (k : ℕ). taken k ≡ true) same is)
        (λ apart. taken_below fuel (from + 1) n (omega arith) (omega arith))
        (cases_eq from n))
        (λ is.
        let stop = least_if_free other fuel from is in
        absurd (omega arith))
        (cases_Bool (taken from))

    -- a least number that is taken is the last
    last_if_taken : (fuel : List Sibling) (from : ℕ) → taken (least fuel from) ≡ true → least fuel from ≡ from + length fuel
    last_if_taken [] from is = omega arith
    last_if_taken (other ∷ fuel) from is =
        ⊎_elim
        (λ here.
        let step = least_if_taken other fuel from here in
        let rest = last_if_taken fuel (from + 1) (subst (λ (k : ℕ). taken k ≡ true) step is) in
        step ∙ rest ∙ (omega arith))
        (λ here.
        let stop = least_if_free other fuel from here in
        absurd (both_ways (taken from) here (subst (λ (k : ℕ). taken k ≡ true) stop is)))
        (cases_Bool (taken from))

-- each number below the one of a renamed item is taken
pub number-least : (siblings : List Sibling) (name : List ℕ) (folder : Bool) (n : ℕ) → 1 ≤ n → n < least_number siblings siblings name folder 1 → is_taken siblings (numbered name folder n) ≡ true
number-least siblings name folder n some below = taken_below name folder siblings siblings 1 n some below

-- the name of a renamed item is free
pub renamed-free : (siblings : List Sibling) (name : List ℕ) (folder : Bool) → length siblings < 100000 → is_taken siblings (numbered name folder (least_number siblings siblings name folder 1)) ≡ false
renamed-free siblings name folder few =
    let number = least_number siblings siblings name folder 1 in
    false_from_ne_true (is_taken siblings (numbered name folder number))
    (λ is.
    let last : number ≡ 1 + length siblings = last_if_taken name folder siblings siblings 1 is in
    let each : (q : ℕ) → q < length siblings + 1 → is_taken siblings (numbered name folder (q + 1)) ≡ true = λ q below.
    ⊎_elim
    (λ same. subst (λ (k : ℕ). is_taken siblings (numbered name folder k) ≡ true) (sym same) is)
    (λ apart. number-least siblings name folder (q + 1) (omega arith) (omega arith))
    (cases_eq (q + 1) number) in
    let fit : length siblings + 1 ≤ length siblings = taken_fit name folder (length siblings + 1) siblings (omega arith) each in
    omega arith)

free_is_made : (fits : Bool) (made free : List ℕ) → cond fits (Free made) Refuse ≡ Free free → made ≡ free
free_is_made true made free is = cc
free_is_made false made free is = cc

pub over_is_not_free : (over : Bool) (id : ℕ) (free : List ℕ) → cond over (Over id) Refuse ≡ Free free → ⊥
over_is_not_free true id free is = cc
over_is_not_free false id free is = cc

free_at : (found : Option Sibling) (behaviour : Conflict) (siblings : List Sibling) (name free : List ℕ) (folder : Bool) → length siblings < 100000 → find (λ s. equal_caseless s.name name) siblings ≡ found → settled_at found behaviour siblings name folder ≡ Free free → is_taken siblings free ≡ false
free_at None behaviour siblings name free folder few looked is =
    let same : name ≡ free = cc in
    subst (λ (bs : List ℕ). is_taken siblings bs ≡ false) same (none_found (λ (s : Sibling). equal_caseless s.name name) siblings looked)
free_at (Some other) Fail siblings name free folder few looked is = absurd cc
free_at (Some other) Replace siblings name free folder few looked is =
    absurd (over_is_not_free (not folder && not other.folder) other.id free is)
free_at (Some other) Rename siblings name free folder few looked is =
    let made = numbered name folder (least_number siblings siblings name folder 1) in
    subst (λ (bs : List ℕ). is_taken siblings bs ≡ false) (free_is_made (nat_le (length made) 255) made free is) (renamed-free siblings name folder few)

-- a name that is settled as free is no sibling's
pub settled-free : (behaviour : Conflict) (siblings : List Sibling) (name free : List ℕ) (folder : Bool) → length siblings < 100000 → settled behaviour siblings name folder ≡ Free free → is_taken siblings free ≡ false
settled-free behaviour siblings name free folder few is =
    free_at (find (λ s. equal_caseless s.name name) siblings) behaviour siblings name free folder few refl is
