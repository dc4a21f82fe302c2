-- The first records of a feed, from the first living items and the first tombstones.
use Rattle.std.proofs.Common.{◌≡◌, ℕ, ◌+◌, ◌-◌, ◌<◌, ◌≤◌, ◌⊎◌, ◌^◌, zero, suc, inl, inr, Bool, true, false, ◌&&◌, cond, not, max, nat_eq, nat_lt, leb, List, [], ◌∷◌, ◌++◌, length, take, drop, map, filter, slice_index, get_or, min, Some, None, refl, sym, ap, ◌∙◌, subst, arith}
use Rattle.std.specs.List.{AllPairs, AllByRecursion, AllWithin}
use Rattle.std.specs.List.Sorted.{IsNonDecreasingBy, IsPartitionPoint}
use Rattle.std.specs.Ordering.{nat_cmp, match_ordering}
use Rattle.std.specs.declared.cmp.Ordering.{Ordering}
use Rattle.std.specs.BTreeMap.{insert_entry}
use Rattle.std.specs.Map.{keys_of, values_of}
use Rattle.std.specs.declared.cmp.Ordering.TheVariants.{Less, Equal, Greater}
use Rattle.std.proofs.lemmas.Bool.{cases_Bool, cases_eq}
use Rattle.std.proofs.lemmas.Bool.Decides.{nat_tests}
use Rattle.std.proofs.lemmas.List.{length-map, take-map, take-take}
use Rattle.std.proofs.lemmas.List.Kept.{AllPairs-filter}
use Rattle.std.proofs.lemmas.Map.Lookups.{exact_unsigned}
use Rattle.gd_names.proofs.Each.{AllPairs-tail, each, each-later, each-so}
use Rattle.gd_names.proofs.Small.{not-below}
use Rattle.gd_item.specs.Inventory.{Inventory}
use Rattle.gd_item.specs.Records.{in_change_order_from, root_change, root_record, record_of, live_changes, removals, feed, first_of, last_of}
use Rattle.gd_item.specs.Sound.{IsWithin}
use Rattle.gd_item.specs.declared.item.Item.{Item}
use Rattle.gd_item.specs.declared.live.LiveItem.{LiveItem}
use Rattle.gd_item.specs.declared.live.Tombstone.{Tombstone}
use Rattle.gd_index.specs.Dated.{in_date_order_from, changed_past}
use Rattle.gd_index.proofs.Sorting.{each-kept}
use Rattle.gd_store.specs.Kept.{IsKept}
use Rattle.gd_store.specs.Recorded.{live_entry, stone_entry, stones_past}
use Rattle.gd_store.proofs.Folds.{by-order, each-key, each-value, each-values}
use Rattle.gd_store.proofs.Merging.{Above, Up, each-take, up-take, up-put, behind, by-themselves, first-merged}

-- ---- what a list of references shows
pub shown : {R : Type 0} {X : Type 0} (see : R → LiveItem) (f : LiveItem → X) (rs : List R) → map (λ r. f (see r)) rs ≡ map f (map see rs)
shown see f [] = refl
shown see f (r ∷ rs) = ap (λ xs. f (see r) ∷ xs) (shown see f rs)

-- ---- records that are put among others in two parts
parts : (placed a b : List (ℕ × Item)) → in_change_order_from (in_change_order_from placed a) b ≡ in_change_order_from placed (a ++ b)
parts placed [] b = refl
parts placed (entry ∷ a) b = parts (insert_entry nat_cmp placed entry.0 entry.1) a b

-- ---- living items in order of change
module _ (all : List LiveItem) where
  abbrev seen : List (ℕ × LiveItem) → List (ℕ × Item)
  seen es = map (λ (e : ℕ × LiveItem). (e.0, record_of all e.1)) es

  seen-by : (o : Ordering) (a b c : List (ℕ × LiveItem)) (more : List (ℕ × Item)) → more ≡ seen c → match_ordering o (seen a) (seen b) more ≡ seen (match_ordering o a b c)
  seen-by Less a b c more same = refl
  seen-by Equal a b c more same = refl
  seen-by Greater a b c more same = same

  seen-insert : (es : List (ℕ × LiveItem)) (k : ℕ) (v : LiveItem) → insert_entry nat_cmp (seen es) k (record_of all v) ≡ seen (insert_entry nat_cmp es k v)
  seen-insert [] k v = refl
  seen-insert (e ∷ es) k v =
      seen-by (nat_cmp k e.0) ((k, v) ∷ e ∷ es) ((e.0, v) ∷ es) (e ∷ insert_entry nat_cmp es k v) ((e.0, record_of all e.1) ∷ insert_entry nat_cmp (seen es) k (record_of all v))
      (ap (λ more. (e.0, record_of all e.1) ∷ more) (seen-insert es k v))

  abbrev after_position : ℕ → List LiveItem → List LiveItem
  after_position position items = filter (λ (item : LiveItem). nat_lt position item.change) items

  dated-from : (position : ℕ) (placed : List (ℕ × LiveItem)) (items : List LiveItem) → in_change_order_from (seen placed) (live_changes position all items) ≡ seen (in_date_order_from placed (after_position position items))
  dated-from position placed [] = refl
  dated-from position placed (item ∷ items) =
      let rest : List LiveItem = after_position position items in
      elim (nat_lt position item.change) as (λ b. in_change_order_from (seen placed) (cond b ((item.change, record_of all item) ∷ live_changes position all items) (live_changes position all items))
      ≡ seen (in_date_order_from placed (cond b (item ∷ rest) rest))) [
        | true ↦ ap (λ es. in_change_order_from es (live_changes position all items)) (seen-insert placed item.change item) ∙ dated-from position (insert_entry nat_cmp placed item.change item) items
        | false ↦ dated-from position placed items
      ]

  abbrev Keyed : List (ℕ × LiveItem) → Type 0
  Keyed es = AllByRecursion (λ (e : ℕ × LiveItem). e.0 ≡ e.1.change) es

  keyed-insert : (es : List (ℕ × LiveItem)) (item : LiveItem) → Keyed es → Keyed (insert_entry nat_cmp es item.change item)
  keyed-insert [] item keyed = (refl, tt)
  keyed-insert (e ∷ es) item keyed =
      by-order Keyed (nat_cmp item.change e.0) ((item.change, item) ∷ e ∷ es) ((e.0, item) ∷ es) (e ∷ insert_entry nat_cmp es item.change item)
      (λ is. (refl, keyed)) (λ is. (sym (exact_unsigned item.change e.0 is), keyed.1)) (λ is. (keyed.0, keyed-insert es item keyed.1))

  keyed-from : (placed : List (ℕ × LiveItem)) (items : List LiveItem) → Keyed placed → Keyed (in_date_order_from placed items)
  keyed-from placed [] keyed = keyed
  keyed-from placed (item ∷ items) keyed = keyed-from (insert_entry nat_cmp placed item.change item) items (keyed-insert placed item keyed)

  entries-seen : (es : List (ℕ × LiveItem)) → Keyed es → map (live_entry all) (values_of es) ≡ seen es
  entries-seen [] keyed = refl
  entries-seen (e ∷ es) keyed = ap (λ (k : ℕ). (k, record_of all e.1) ∷ map (live_entry all) (values_of es)) (sym keyed.0) ∙ ap (λ fs. (e.0, record_of all e.1) ∷ fs) (entries-seen es keyed.1)

  -- the changes of living items are those of the items in order of change
  dated : (position : ℕ) (items : List LiveItem) → in_change_order_from [] (live_changes position all items) ≡ map (live_entry all) (changed_past position items)
  dated position items =
      let placed : List (ℕ × LiveItem) = in_date_order_from [] (after_position position items) in
      dated-from position [] items ∙ sym (entries-seen placed (keyed-from [] (after_position position items) tt))

  later-changes : (position : ℕ) (items : List LiveItem) → AllByRecursion (λ (item : LiveItem). 1 < item.change) items → Above 1 (live_changes position all items)
  later-changes position [] later = tt
  later-changes position (item ∷ items) later =
      elim (nat_lt position item.change) as (λ b. Above 1 (cond b ((item.change, record_of all item) ∷ live_changes position all items) (live_changes position all items))) [
        | true ↦ (later.0, later-changes position items later.1)
        | false ↦ later-changes position items later.1
      ]

-- what holds of each item holds of each that changed
module _ (P : LiveItem → Type 0) where
  each-dated : (placed : List (ℕ × LiveItem)) (items : List LiveItem) → AllByRecursion (λ (e : ℕ × LiveItem). P e.1) placed → AllByRecursion P items
      → AllByRecursion (λ (e : ℕ × LiveItem). P e.1) (in_date_order_from placed items)
  each-dated placed [] stood all = stood
  each-dated placed (item ∷ items) stood all = each-dated (insert_entry nat_cmp placed item.change item) items (each-value nat_cmp P placed item.change item all.0 stood) all.1

  pub each-changed : (position : ℕ) (items : List LiveItem) → AllByRecursion P items → AllByRecursion P (changed_past position items)
  each-changed position items all =
      let test : LiveItem → Bool = λ item. nat_lt position item.change in
      each-values P (in_date_order_from [] (filter test items)) (each-dated [] (filter test items) tt (each-kept P test items all))

-- ---- the root's record comes before them
above-put : (placed es : List (ℕ × Item)) → Above 1 placed → Above 1 es → Above 1 (in_change_order_from placed es)
above-put placed [] stood all = stood
above-put placed (e ∷ es) stood all = above-put (insert_entry nat_cmp placed e.0 e.1) es (each-key nat_cmp (λ (k : ℕ). 1 < k) placed e.0 e.1 all.0 stood) all.1

above-take : (n : ℕ) (es : List (ℕ × Item)) → Above 1 es → Above 1 (take n es)
above-take n es above = each-take (λ (e : ℕ × Item). 1 < e.0) n es above

abbrev living : ℕ → List LiveItem → List (ℕ × Item)
living position items = in_change_order_from (in_change_order_from [] (root_change position items)) (live_changes position items items)

living-up : (position : ℕ) (items : List LiveItem) → Up (living position items)
living-up position items = up-put (in_change_order_from [] (root_change position items)) (live_changes position items items) (up-put [] (root_change position items) tt)

first-living : (position n : ℕ) (items first : List LiveItem) → AllByRecursion (λ (item : LiveItem). 1 < item.change) items → first ≡ take n (changed_past position items)
    → (i : ℕ) × (n ≤ i) × (in_change_order_from (in_change_order_from [] (root_change position items)) (map (live_entry items) first) ≡ take i (living position items))
first-living position n items first later is =
    let changes : List (ℕ × Item) = live_changes position items items in
    let order : List (ℕ × Item) = in_change_order_from [] changes in
    let root : ℕ × Item = (1, root_record items) in
    let up : Up order = up-put [] changes tt in
    let entries : map (live_entry items) first ≡ take n order =
    ap (map (live_entry items)) is ∙ sym (take-map (live_entry items) n (changed_past position items)) ∙ ap (take n) (sym (dated items position items)) in
    let alone : in_change_order_from [] (map (live_entry items) first) ≡ take n order = ap (in_change_order_from []) entries ∙ by-themselves (take n order) (up-take n order up) in
    let put_in : List (ℕ × Item) → List (ℕ × Item) = λ es. in_change_order_from (in_change_order_from [] es) (map (live_entry items) first) in
    let whole : List (ℕ × Item) → List (ℕ × Item) = λ es. in_change_order_from (in_change_order_from [] es) changes in
    elim (nat_eq position 0) as (λ b. (i : ℕ) × (n ≤ i) × (put_in (cond b (root ∷ []) []) ≡ take i (whole (cond b (root ∷ []) [])))) [
      | true ↦
          let past : Above 1 order = above-put [] changes tt (later-changes items position items later) in
          let past_first : Above 1 (map (live_entry items) first) = subst (Above 1) (sym entries) (above-take n order past) in (
            suc n,
            omega arith,
            behind root [] (map (live_entry items) first) past_first ∙ ap (λ es. root ∷ es) alone
                ∙ ap (take (suc n)) (sym (behind root [] changes (later-changes items position items later))),
          )
      | false ↦ (n, omega arith, alone)
    ]

-- ---- tombstones
stone-changes : (position removed_after : ℕ) (stones : List Tombstone) → removals position removed_after stones ≡ map stone_entry (stones_past position removed_after stones)
stone-changes position removed_after [] = refl
stone-changes position removed_after (stone ∷ stones) =
    let rest : List Tombstone = stones_past position removed_after stones in
    elim (nat_lt position stone.change && nat_lt removed_after stone.change) as (λ b. cond b (stone_entry stone ∷ removals position removed_after stones) (removals position removed_after stones) ≡ map stone_entry (cond b (stone ∷ rest) rest)) [
      | true ↦ ap (λ es. stone_entry stone ∷ es) (stone-changes position removed_after stones)
      | false ↦ stone-changes position removed_after stones
    ]

abbrev Later : Tombstone → Tombstone → Type 0
Later x y = x.change < y.change

above-stones : (k : ℕ) (stones : List Tombstone) → AllByRecursion (λ (stone : Tombstone). k < stone.change) stones → Above k (map stone_entry stones)
above-stones k [] all = tt
above-stones k (stone ∷ stones) all = (all.0, above-stones k stones all.1)

up-stones : (stones : List Tombstone) → AllPairs Later stones → Up (map stone_entry stones)
up-stones [] rise = tt
up-stones (stone ∷ stones) rise = (above-stones stone.change stones (each-later Later stone stones rise), up-stones stones (AllPairs-tail Later stone stones rise))

-- ---- the first of the feed
pub first-changes : (held : Inventory) (position removed_after n : ℕ) (items first : List LiveItem) (removed stones : List Tombstone) (start one two three : List (ℕ × Item)) → IsKept held → items ≡ held.items → removed ≡ held.removed
    → first ≡ take n (changed_past position items) → stones ≡ take n (stones_past position removed_after removed) → start ≡ [] → one ≡ in_change_order_from start (root_change position items)
    → two ≡ in_change_order_from one (map (live_entry items) first) → three ≡ in_change_order_from two (map stone_entry stones)
    → take n three ≡ take n (feed held position removed_after)
first-changes held position removed_after n items first removed stones start one two three kept are gone first-is stones-is none one-is two-is three-is =
    let old : List LiveItem = held.items in
    let past : List Tombstone = stones_past position removed_after held.removed in
    let later : AllByRecursion (λ (item : LiveItem). 1 < item.change) old =
    each-so (IsWithin held) (λ (item : LiveItem). 1 < item.change) (λ item w. w.later) old (each (IsWithin held) old kept.map.within) in
    let rise : AllPairs Later past = AllPairs-filter Later (λ (stone : Tombstone). nat_lt position stone.change && nat_lt removed_after stone.change) held.removed kept.numbered.rise in
    let cut = first-living position n old first later (first-is ∙ ap (λ xs. take n (changed_past position xs)) are) in
    let two-same : two ≡ take cut.0 (living position old) =
    two-is ∙ ap (λ es. in_change_order_from es (map (live_entry items) first)) (one-is ∙ ap (λ es. in_change_order_from es (root_change position items)) none)
    ∙ ap (λ (xs : List LiveItem). in_change_order_from (in_change_order_from [] (root_change position xs)) (map (live_entry xs) first)) are ∙ cut.2 in
    let stones-same : map stone_entry stones ≡ take n (map stone_entry past) =
    ap (map stone_entry) (stones-is ∙ ap (λ xs. take n (stones_past position removed_after xs)) gone) ∙ sym (take-map stone_entry n past) in
    let whole : in_change_order_from (living position old) (map stone_entry past) ≡ feed held position removed_after =
    ap (in_change_order_from (living position old)) (sym (stone-changes position removed_after held.removed))
    ∙ ap (λ es. in_change_order_from es (removals position removed_after held.removed)) (parts [] (root_change position old) (live_changes position old old))
    ∙ parts [] (root_change position old ++ live_changes position old old) (removals position removed_after held.removed) in
    ap (take n) (three-is ∙ ap (λ es. in_change_order_from es (map stone_entry stones)) two-same ∙ ap (in_change_order_from (take cut.0 (living position old))) stones-same)
    ∙ first-merged n cut.0 n (living position old) (map stone_entry past) cut.1 (omega arith) (living-up position old) (up-stones past rise)
    ∙ ap (take n) whole

-- ---- where more of them than wanted tell the rest
short : {X : Type 0} (n : ℕ) (xs : List X) → length (take n xs) < n → take n xs ≡ xs
short zero xs lt = absurd (omega arith)
short (suc n) [] lt = refl
short (suc n) (x ∷ xs) lt = ap (λ ys. x ∷ ys) (short n xs (omega arith))

pub whole-of : {X : Type 0} (n : ℕ) (xs : List X) → length xs ≤ n → take n xs ≡ xs
whole-of zero [] le = refl
whole-of zero (x ∷ xs) le = absurd (omega arith)
whole-of (suc n) [] le = refl
whole-of (suc n) (x ∷ xs) le = ap (λ ys. x ∷ ys) (whole-of n xs (omega arith))

full : {X : Type 0} (n : ℕ) (xs : List X) → n ≤ length xs → length (take n xs) ≡ n
full zero xs le = refl
full (suc n) [] le = absurd (omega arith)
full (suc n) (x ∷ xs) le = ap suc (full n xs (omega arith))

pub more-same : {X : Type 0} (most : ℕ) (xs : List X) → nat_lt most (length (take (suc most) xs)) ≡ nat_lt most (length xs)
more-same most xs =
    elim (cases_Bool (nat_lt most (length xs))) [
      | inl lt ↦
          let less : most < length xs = grind (arith, nat_tests) in
          let le : suc most ≤ length xs = omega arith in
          let one : nat_lt most (suc most) ≡ true = grind (arith, nat_tests) in
          ap (nat_lt most) (full (suc most) xs le) ∙ one ∙ sym lt
      | inr ge ↦
          let le : length xs ≤ most = not-below most (length xs) ge in
          let within : length xs ≤ suc most = omega arith in
          ap (λ ys. nat_lt most (length ys)) (whole-of (suc most) xs within)
    ]

first-same : (most : ℕ) (es : List (ℕ × Item)) → first_of most (take (suc most) es) ≡ first_of most es
first-same zero es = refl
first-same (suc most) [] = refl
first-same (suc most) (e ∷ es) = ap (λ items. e.1 ∷ items) (first-same most es)

key-same : (k most : ℕ) (es : List (ℕ × Item)) → k < most → slice_index (keys_of (take most es)) k ≡ slice_index (keys_of es) k
key-same k zero es lt = absurd (omega arith)
key-same k (suc most) [] lt = refl
key-same zero (suc most) (e ∷ es) lt = refl
key-same (suc k) (suc most) (e ∷ es) lt = key-same k most es (omega arith)

last-same : (most : ℕ) (es : List (ℕ × Item)) → 0 < most → last_of most (take (suc most) es) ≡ last_of most es
last-same most es some =
    let within : most - 1 < suc most = omega arith in
    ap (λ b. cond b (Some (slice_index (keys_of (take (suc most) es)) (most - 1))) None) (more-same most es)
    ∙ ap (λ k. cond (nat_lt most (length es)) (Some k) None) (key-same (most - 1) (suc most) es within)

-- the changes that were made stand for all of the feed
pub enough : (most count : ℕ) (made all : List (ℕ × Item)) → 0 < most → (count ≡ suc most) ⊎ (length made < count) → take count made ≡ take count all
    → (first_of most made ≡ first_of most all) × (last_of most made ≡ last_of most all)
enough most count made all some (inl is) same =
    let cut : take (suc most) made ≡ take (suc most) all = subst (λ (n : ℕ). take n made ≡ take n all) is same in (
      sym (first-same most made) ∙ ap (first_of most) cut ∙ first-same most all,
      sym (last-same most made some) ∙ ap (last_of most) cut ∙ last-same most all some,
    )
enough most count made all some (inr few) same =
    let le : length made ≤ count = omega arith in
    let is : made ≡ take count all = sym (whole-of count made le) ∙ same in
    let less : length (take count all) < count = subst (λ (es : List (ℕ × Item)). length es < count) is few in
    let one : made ≡ all = is ∙ short count all less in
    (ap (first_of most) one, ap (last_of most) one)

-- one more than wanted, or more than there are
pub count-of : (most count n : ℕ) → n < 2 ^ 63 → count ≡ min (most + 1) (2 ^ 64 - 1) → (count ≡ suc most) ⊎ (n < count)
count-of most count n few is =
    elim (cases_Bool (nat_lt (most + 1) (2 ^ 64 - 1))) [
      | inl lt ↦
          let less : most + 1 < 2 ^ 64 - 1 = grind (arith, nat_tests) in
          let e : min (most + 1) (2 ^ 64 - 1) ≡ most + 1 = grind arith in
          inl (omega (arith, is, e))
      | inr ge ↦
          let le : 2 ^ 64 - 1 ≤ most + 1 = not-below (most + 1) (2 ^ 64 - 1) ge in
          let e : min (most + 1) (2 ^ 64 - 1) ≡ 2 ^ 64 - 1 = grind arith in
          inr (omega (arith, is, e, few))
    ]

-- the first of what was listed, and whether there is more
pub listed : {R Y : Type 0} (see : R → LiveItem) (record_it : LiveItem → Y) (most count : ℕ) (rs : List R) (xs : List LiveItem) → (count ≡ suc most) ⊎ (length rs < count) → map see rs ≡ take count xs
    → (map (λ r. record_it (see r)) (take most rs) ≡ map record_it (take most xs)) × (nat_lt most (length rs) ≡ nat_lt most (length xs))
listed see record_it most count rs xs (inl is) are =
    let le : most ≤ count = omega arith in
    let long : length rs ≡ length (take (suc most) xs) = sym (length-map rs see) ∙ ap length are ∙ ap (λ n. length (take n xs)) is in (
      shown see record_it (take most rs) ∙ ap (map record_it) (sym (take-map see most rs) ∙ ap (take most) are ∙ take-take most count xs le),
      ap (nat_lt most) long ∙ more-same most xs,
    )
listed see record_it most count rs xs (inr few) are =
    let long : length (take count xs) ≡ length rs = sym (ap length are) ∙ length-map rs see in
    let less : length (take count xs) < count = omega (arith, long, few) in
    let all : map see rs ≡ xs = are ∙ short count xs less in (
      shown see record_it (take most rs) ∙ ap (map record_it) (sym (take-map see most rs) ∙ ap (take most) all),
      ap (nat_lt most) (sym (length-map rs see) ∙ ap length all),
    )

-- ---- the place from which tombstones are past both numbers
past-both : (position removed_after change : ℕ) → (nat_lt position change && nat_lt removed_after change) ≡ not (leb change (max position removed_after))
past-both position removed_after change = grind (arith, nat_tests)

all-past : (position removed_after : ℕ) (stones : List Tombstone) → AllByRecursion (λ (stone : Tombstone). leb stone.change (max position removed_after) ≡ false) stones → stones_past position removed_after stones ≡ stones
all-past position removed_after [] all = refl
all-past position removed_after (stone ∷ stones) all =
    ap (λ b. cond b (stone ∷ stones_past position removed_after stones) (stones_past position removed_after stones)) (past-both position removed_after stone.change ∙ ap not all.0)
    ∙ ap (λ xs. stone ∷ xs) (all-past position removed_after stones all.1)

pub from-place : (position removed_after i : ℕ) (stones : List Tombstone) → AllWithin (λ (stone : Tombstone). leb stone.change (max position removed_after) ≡ true) stones 0 i
    → AllWithin (λ (stone : Tombstone). leb stone.change (max position removed_after) ≡ false) stones i (length stones) → stones_past position removed_after stones ≡ drop i stones
from-place position removed_after zero stones early late =
    all-past position removed_after stones (each (λ (stone : Tombstone). leb stone.change (max position removed_after) ≡ false) stones (λ k d lt. late k d (omega arith) lt))
from-place position removed_after (suc i) [] early late = refl
from-place position removed_after (suc i) (stone ∷ stones) early late =
    ap (λ b. cond b (stone ∷ stones_past position removed_after stones) (stones_past position removed_after stones)) (past-both position removed_after stone.change ∙ ap not (early 0 stone (omega arith) (omega arith)))
    ∙ from-place position removed_after i stones (λ k d lo hi. early (suc k) d (omega arith) (omega arith)) (λ k d lo hi. late (suc k) d (omega arith) (omega arith))

-- ---- the place from which tombstones are past a floor
abbrev above : ℕ → List Tombstone → List Tombstone
above floor stones = filter (λ (stone : Tombstone). nat_lt floor stone.change) stones

past-floor : (floor change : ℕ) → nat_lt floor change ≡ not (leb change floor)
past-floor floor change = grind (arith, nat_tests)

all-above : (floor : ℕ) (stones : List Tombstone) → AllByRecursion (λ (stone : Tombstone). leb stone.change floor ≡ false) stones → above floor stones ≡ stones
all-above floor [] all = refl
all-above floor (stone ∷ stones) all =
    ap (λ b. cond b (stone ∷ above floor stones) (above floor stones)) (past-floor floor stone.change ∙ ap not all.0) ∙ ap (λ xs. stone ∷ xs) (all-above floor stones all.1)

pub from-floor : (floor i : ℕ) (stones : List Tombstone) → AllWithin (λ (stone : Tombstone). leb stone.change floor ≡ true) stones 0 i
    → AllWithin (λ (stone : Tombstone). leb stone.change floor ≡ false) stones i (length stones) → drop i stones ≡ above floor stones
from-floor floor zero stones early late = sym (all-above floor stones (each (λ (stone : Tombstone). leb stone.change floor ≡ false) stones (λ k d lt. late k d (omega arith) lt)))
from-floor floor (suc i) [] early late = refl
from-floor floor (suc i) (stone ∷ stones) early late =
    from-floor floor i stones (λ k d lo hi. early (suc k) d (omega arith) (omega arith)) (λ k d lo hi. late (suc k) d (omega arith) (omega arith))
    ∙ sym (ap (λ b. cond b (stone ∷ above floor stones) (above floor stones)) (past-floor floor stone.change ∙ ap not (early 0 stone (omega arith) (omega arith))))

-- as many of them as there are, at most
pub at-most : {X : Type 0} (n most : ℕ) (xs : List X) → n ≡ length xs → take (min n most) xs ≡ take most xs
at-most n most xs is =
    elim (cases_Bool (nat_lt most n)) [
      | inl lt ↦
          let less : most < n = grind (arith, nat_tests) in
          let e : min n most ≡ most = grind arith in
          ap (λ k. take k xs) e
      | inr ge ↦
          let le : n ≤ most = not-below most n ge in
          let e : min n most ≡ n = grind arith in
          let one : length xs ≤ n = omega (arith, is) in
          let other : length xs ≤ most = omega (arith, is, le) in
          ap (λ k. take k xs) e ∙ whole-of n xs one ∙ sym (whole-of most xs other)
    ]

-- tombstones in order of change do not fall
pub non-falling : (stones : List Tombstone) → AllPairs Later stones → IsNonDecreasingBy (λ (stone : Tombstone). stone.change) stones
non-falling stones rise i j d le lt =
    elim (cases_eq i j) [
      | inl same ↦ subst (λ (k : ℕ). (get_or stones i d).change ≤ (get_or stones k d).change) same (omega arith)
      | inr apart ↦
          let less : i < j = omega arith in
          let later : (get_or stones i d).change < (get_or stones j d).change = rise i j d less lt in
          omega arith
    ]

pub first-past : (position removed_after last i n most : ℕ) (stones past first : List Tombstone) → last ≡ max position removed_after
    → IsPartitionPoint (λ (stone : Tombstone). leb stone.change last ≡ true) (λ (stone : Tombstone). leb stone.change last ≡ false) stones i
    → past ≡ drop i stones → n ≡ length past → first ≡ take (min n most) past → first ≡ take most (stones_past position removed_after stones)
first-past position removed_after last i n most stones past first is point rest long cut =
    let P : ℕ → Type 0 = λ k. IsPartitionPoint (λ (stone : Tombstone). leb stone.change k ≡ true) (λ (stone : Tombstone). leb stone.change k ≡ false) stones i in
    let place : P (max position removed_after) = subst P is point in
    cut ∙ at-most n most past long ∙ ap (take most) (rest ∙ sym (from-place position removed_after i stones place.0 place.1))
