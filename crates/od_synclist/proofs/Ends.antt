-- Reaching an end is matching some of the first items.
use Rattle.std.proofs.Common.{◌≡◌, ℕ, zero, suc, ◌-◌, ◌<◌, ◌≤◌, Bool, true, false, ◌&&◌, ◌||◌, List, [], ◌∷◌, ◌++◌, length, take, drop, map, nat_eq, nat_lt, refl, sym, ap, ◌∙◌, inl, inr, arith, take_all, append-nil, length-drop}
use Rattle.std.proofs.lemmas.Bool.{ne_eqb, cases_Bool, or_cases, or_left, or_right, cases_order, false≢true}
use Rattle.std.proofs.lemmas.Bool.Decides.{nat_tests}
use Rattle.std.proofs.lemmas.List.{take-append-drop}
use Rattle.std.specs.List.{list_any}
use Rattle.od_synclist.specs.Matching.{matches, is_any_path, matches_name, matches_path}
use Rattle.od_synclist.specs.Rules.{folders_above}
use Rattle.od_synclist.specs.Search.{reaches, tails, takes_first, is_end}
use Rattle.od_synclist.proofs.Walking.{same_tests}
use Rattle.gd_names.proofs.Small.{both}

-- tests that hold
or_none : (a : Bool) → (a || false) ≡ true → a ≡ true
or_none a holds = grind arith

here : {X : Type 0} (test : List X → Bool) (xs : List X) → test xs ≡ true → list_any test (tails xs) ≡ true
here test [] holds = or_left _ _ holds
here test (x ∷ xs) holds = or_left _ _ holds

-- the first items, of this number, are matched, and the end serves that they reach
pub record Matched {P N : Type 0} (is_run : P → Bool) (takes : P → N → Bool) (serves : ℕ → Bool) (parts : List P) (items : List N) : Type 0 where
  pub count : ℕ
  pub within : count ≤ length items
  pub matched : matches is_run takes parts (take count items) ≡ true
  pub served : serves (length items - count) ≡ true

module _ {P N : Type 0} (is_run : P → Bool) (takes : P → N → Bool) where
  -- an end of the items alone
  end_of_all : (items : List N) → is_end true 0 (length items) ≡ matches is_run takes [] items
  end_of_all [] = refl
  end_of_all (item ∷ items) = grind (arith, nat_tests)

  reaches_run : (part : P) (parts : List P) → is_run part ≡ true
      → ((items : List N) → reaches is_run takes (is_end true 0) parts items ≡ matches is_run takes parts items)
      → (items : List N) → list_any (reaches is_run takes (is_end true 0) parts) (tails items) ≡ matches is_run takes (part ∷ parts) items
  reaches_run part parts run same [] = rw (run, same []) (grind arith)
  reaches_run part parts run same (item ∷ items) = rw (run, same (item ∷ items), reaches_run part parts run same items) refl

  reaches_one : (part : P) (parts : List P) → is_run part ≡ false
      → ((items : List N) → reaches is_run takes (is_end true 0) parts items ≡ matches is_run takes parts items)
      → (items : List N) → takes_first takes part (reaches is_run takes (is_end true 0) parts) items ≡ matches is_run takes (part ∷ parts) items
  reaches_one part parts one same [] = rw one refl
  reaches_one part parts one same (item ∷ items) = rw (one, same items) refl

  pub reaches_all : (parts : List P) (items : List N) → reaches is_run takes (is_end true 0) parts items ≡ matches is_run takes parts items
  reaches_all [] items = end_of_all items
  reaches_all (part ∷ parts) items = elim (cases_Bool (is_run part)) [
    | inl run ↦ rw run (reaches_run part parts run (reaches_all parts) items)
    | inr one ↦ rw one (reaches_one part parts one (reaches_all parts) items)
  ]

  -- a run matches nothing, and one more item
  run_none : (part : P) (parts : List P) (items : List N) → is_run part ≡ true → matches is_run takes parts items ≡ true → matches is_run takes (part ∷ parts) items ≡ true
  run_none part parts [] run found = rw (run, found) refl
  run_none part parts (item ∷ items) run found = rw (run, found) refl

  run_more : (part : P) (parts : List P) (item : N) (items : List N) → is_run part ≡ true → matches is_run takes (part ∷ parts) items ≡ true
      → matches is_run takes (part ∷ parts) (item ∷ items) ≡ true
  run_more part parts item items run found = rw (run, found) (grind arith)

  run_matched : (serves : ℕ → Bool) (part : P) (parts : List P) → is_run part ≡ true
      → ((items : List N) → reaches is_run takes serves parts items ≡ true → Matched is_run takes serves parts items)
      → (items : List N) → list_any (reaches is_run takes serves parts) (tails items) ≡ true → Matched is_run takes serves (part ∷ parts) items
  run_matched serves part parts run matched [] found =
      let some = matched [] (or_none (reaches is_run takes serves parts []) found) in
      record { count = some.count; within = some.within; matched = run_none part parts (take some.count []) run some.matched; served = some.served }
  run_matched serves part parts run matched (item ∷ items) found = elim (or_cases (reaches is_run takes serves parts (item ∷ items)) _ found) [
    | inl here ↦
        let some = matched (item ∷ items) here in
        record { count = some.count; within = some.within; matched = run_none part parts (take some.count (item ∷ items)) run some.matched; served = some.served }
    | inr later ↦
        let some = run_matched serves part parts run matched items later in
        let left : length (item ∷ items) - suc some.count ≡ length items - some.count = omega arith in
        record { count = suc some.count; within = omega arith; matched = run_more part parts item (take some.count items) run some.matched; served = rw left some.served }
  ]

  one_more_matched : (serves : ℕ → Bool) (part : P) (parts : List P) (item : N) (items : List N) → is_run part ≡ false → takes part item ≡ true
      → Matched is_run takes serves parts items → Matched is_run takes serves (part ∷ parts) (item ∷ items)
  one_more_matched serves part parts item items one takes_it some =
      let left : length (item ∷ items) - suc some.count ≡ length items - some.count = omega arith in
      record { count = suc some.count; within = omega arith; matched = rw (one, takes_it) some.matched; served = rw left some.served }

  one_matched : (serves : ℕ → Bool) (part : P) (parts : List P) → is_run part ≡ false
      → ((items : List N) → reaches is_run takes serves parts items ≡ true → Matched is_run takes serves parts items)
      → (items : List N) → takes_first takes part (reaches is_run takes serves parts) items ≡ true → Matched is_run takes serves (part ∷ parts) items
  one_matched serves part parts one matched [] found = absurd (false≢true found)
  one_matched serves part parts one matched (item ∷ items) found =
      let pair = both (takes part item) (reaches is_run takes serves parts items) found in
      one_more_matched serves part parts item items one pair.0 (matched items pair.1)

  pub matched_from_reaches : (serves : ℕ → Bool) (parts : List P) (items : List N) → reaches is_run takes serves parts items ≡ true → Matched is_run takes serves parts items
  matched_from_reaches serves [] items found =
      let all : length items - 0 ≡ length items = omega arith in
      record { count = 0; within = omega arith; matched = refl; served = rw all found }
  matched_from_reaches serves (part ∷ parts) items found = elim (cases_Bool (is_run part)) [
    | inl run ↦ run_matched serves part parts run (matched_from_reaches serves parts) items (rw run at found)
    | inr one ↦ one_matched serves part parts one (matched_from_reaches serves parts) items (rw one at found)
  ]

  -- and back, with the items that were matched as a list
  run_reached : (serves : ℕ → Bool) (part : P) (parts : List P) → is_run part ≡ true
      → ((first left : List N) → matches is_run takes parts first ≡ true → serves (length left) ≡ true → reaches is_run takes serves parts (first ++ left) ≡ true)
      → (first left : List N) → matches is_run takes (part ∷ parts) first ≡ true → serves (length left) ≡ true
      → list_any (reaches is_run takes serves parts) (tails (first ++ left)) ≡ true
  run_reached serves part parts run reached [] left found served =
      here (reaches is_run takes serves parts) left (reached [] left (rw run at found) served)
  run_reached serves part parts run reached (item ∷ first) left found served =
      elim (or_cases (matches is_run takes parts (item ∷ first)) (matches is_run takes (part ∷ parts) first) (rw run at found)) [
        | inl here ↦ or_left _ _ (reached (item ∷ first) left here served)
        | inr later ↦ or_right _ _ (run_reached serves part parts run reached first left later served)
      ]

  one_reached : (serves : ℕ → Bool) (part : P) (parts : List P) → is_run part ≡ false
      → ((first left : List N) → matches is_run takes parts first ≡ true → serves (length left) ≡ true → reaches is_run takes serves parts (first ++ left) ≡ true)
      → (first left : List N) → matches is_run takes (part ∷ parts) first ≡ true → serves (length left) ≡ true
      → takes_first takes part (reaches is_run takes serves parts) (first ++ left) ≡ true
  one_reached serves part parts one reached [] left found served = absurd (false≢true (rw one at found))
  one_reached serves part parts one reached (item ∷ first) left found served =
      let pair = both (takes part item) (matches is_run takes parts first) (rw one at found) in
      rw (pair.0, reached first left pair.1 served) refl

  pub reaches_from_matched : (serves : ℕ → Bool) (parts : List P) (first left : List N) → matches is_run takes parts first ≡ true → serves (length left) ≡ true
      → reaches is_run takes serves parts (first ++ left) ≡ true
  reaches_from_matched serves [] [] left found served = served
  reaches_from_matched serves [] (item ∷ first) left found served = absurd (false≢true found)
  reaches_from_matched serves (part ∷ parts) first left found served = elim (cases_Bool (is_run part)) [
    | inl run ↦ rw run (run_reached serves part parts run (reaches_from_matched serves parts) first left found served)
    | inr one ↦ rw one (one_reached serves part parts one (reaches_from_matched serves parts) first left found served)
  ]

-- a test of what is made of elements
any-map : {X Y : Type 0} (test : Y → Bool) (f : X → Y) (xs : List X) → list_any test (map f xs) ≡ list_any (λ x. test (f x)) xs
any-map test f [] = refl
any-map test f (x ∷ xs) = ap (λ found. test (f x) || found) (any-map test f xs)

-- a folder above an entry passes a test: as many of the names as are its own
record Above (test : List (List ℕ) → Bool) (names : List (List ℕ)) : Type 0 where
  count : ℕ
  some : 0 < count
  below : count < length names
  passes : test (take count names) ≡ true

above_from_any : (test : List (List ℕ) → Bool) (names : List (List ℕ)) → list_any test (folders_above names) ≡ true → Above test names
above_from_any test [] found = absurd (false≢true found)
above_from_any test (name ∷ []) found = absurd (false≢true found)
above_from_any test (name ∷ (next ∷ names)) found =
    elim (or_cases (test (name ∷ [])) (list_any test (map (λ above. name ∷ above) (folders_above (next ∷ names)))) found) [
      | inl here ↦ record { count = 1; some = omega arith; below = omega arith; passes = here }
      | inr later ↦
          let above = above_from_any (λ above. test (name ∷ above)) (next ∷ names) (sym (any-map test (λ above. name ∷ above) (folders_above (next ∷ names))) ∙ later) in
          record { count = suc above.count; some = omega arith; below = omega arith; passes = above.passes }
    ]

any_from_above : (test : List (List ℕ) → Bool) (count : ℕ) (names : List (List ℕ)) → 0 < count → count < length names → test (take count names) ≡ true
    → list_any test (folders_above names) ≡ true
any_from_above test count [] some below passes = absurd (omega arith)
any_from_above test count (name ∷ []) some below passes = absurd (omega arith)
any_from_above test zero (name ∷ (next ∷ names)) some below passes = absurd (omega arith)
any_from_above test (suc zero) (name ∷ (next ∷ names)) some below passes = or_left _ _ passes
any_from_above test (suc (suc count)) (name ∷ (next ∷ names)) some below passes =
    or_right _ _ (any-map test (λ above. name ∷ above) (folders_above (next ∷ names))
    ∙ any_from_above (λ above. test (name ∷ above)) (suc count) (next ∷ names) (omega arith) (omega arith) passes)

-- an end before the last item serves, if it is not before the first
is_end_within : (whole : Bool) (count all : ℕ) → 0 < count → count < all → is_end whole all (all - count) ≡ true
is_end_within whole count all some below =
    let left : nat_eq (all - count) 0 ≡ false = ne_eqb _ _ (omega arith) in
    let fewer : nat_lt (all - count) all ≡ true = grind (arith, nat_tests) in
    rw (left, fewer) refl

some_within : (whole : Bool) (count all : ℕ) → count < all → is_end whole all (all - count) ≡ true → 0 < count
some_within whole count all below serves =
    let left : nat_eq (all - count) 0 ≡ false = ne_eqb _ _ (omega arith) in
    let fewer : nat_lt (all - count) all ≡ true = rw left at serves in
    grind (arith, nat_tests)

entry_from_matched : (components names : List (List ℕ)) (whole : Bool) → Matched is_any_path matches_name (is_end whole (length names)) components names
    → (whole && matches_path components names || list_any (matches_path components) (folders_above names)) ≡ true
entry_from_matched components names whole some = elim (cases_order some.count (length names)) [
  | inl all ↦
      let none : length names - some.count ≡ 0 = omega arith in
      let may : whole ≡ true = rw none at some.served in
      let matched : matches_path components names ≡ true = rw (take_all some.count names (omega arith)) at some.matched in
      let itself : (whole && matches_path components names) ≡ true = rw (may, matched) refl in
      or_left _ _ itself
  | inr other ↦ elim other [
    | inl below ↦ or_right _ _ (any_from_above (matches_path components) some.count names (some_within whole some.count (length names) below some.served) below some.matched)
    | inr past ↦ absurd (omega arith)
  ]
]

entry_reached : (components names : List (List ℕ)) (whole : Bool) → (whole && matches_path components names || list_any (matches_path components) (folders_above names)) ≡ true
    → reaches is_any_path matches_name (is_end whole (length names)) components names ≡ true
entry_reached components names whole found =
    let reach = reaches_from_matched is_any_path matches_name (is_end whole (length names)) components in
    elim (or_cases (whole && matches_path components names) (list_any (matches_path components) (folders_above names)) found) [
      | inl itself ↦
          let pair = both whole (matches_path components names) itself in
          rw append-nil at (reach names [] pair.1 pair.0)
      | inr above ↦
          let folder = above_from_any (matches_path components) names above in
          let left : length (drop folder.count names) ≡ length names - folder.count = length-drop folder.count names in
          let serves : is_end whole (length names) (length (drop folder.count names)) ≡ true = rw left (is_end_within whole folder.count (length names) folder.some folder.below) in
          rw take-append-drop at (reach (take folder.count names) (drop folder.count names) folder.passes serves)
    ]

-- a rule that reaches an end along the names of an entry matches it
pub entry_is : (components names : List (List ℕ)) (whole : Bool)
    → reaches is_any_path matches_name (is_end whole (length names)) components names ≡ (whole && matches_path components names || list_any (matches_path components) (folders_above names))
entry_is components names whole = same_tests _ _
    (λ reached. entry_from_matched components names whole (matched_from_reaches is_any_path matches_name (is_end whole (length names)) components names reached))
    (entry_reached components names whole)
