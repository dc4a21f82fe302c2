-- The feed rises in change number, and what of it is past a number is the feed past that number.
use Rattle.std.proofs.Common.{◌≡◌, ℕ, ◌-◌, ◌<◌, ◌≤◌, zero, suc, Bool, true, false, ◌&&◌, cond, nat_eq, nat_lt, List, [], ◌∷◌, ◌++◌, length, take, drop, filter, slice_index, Some, None, refl, sym, ap, ◌∙◌, subst, arith}
use Rattle.std.specs.Cmp.{ranked}
use Rattle.std.specs.BTreeMap.{insert_entry}
use Rattle.std.specs.List.{All, AllPairs}
use Rattle.std.specs.Map.{keys_of}
use Rattle.std.specs.Ordering.{nat_cmp, match_ordering}
use Rattle.std.specs.declared.cmp.Ordering.{Ordering}
use Rattle.std.specs.declared.cmp.Ordering.TheVariants.{Less, Equal, Greater}
use Rattle.std.proofs.lemmas.Bool.{eqb-true, ltb-true, ltb-false, lt-ltb, ne_eqb}
use Rattle.std.proofs.lemmas.List.{take-append-drop}
use Rattle.std.proofs.lemmas.List.Elements.{All-nil, All-cons, All-head, All-tail, All-weaker, All-append, filter-append}
use Rattle.std.proofs.lemmas.List.Kept.{AllPairs-cons}
use Rattle.gd_names.proofs.Each.{AllPairs-nil, AllPairs-head, AllPairs-tail}
use Rattle.gd_item.specs.Inventory.{Inventory}
use Rattle.gd_item.specs.Records.{record_of, root_record, deleted_record, in_change_order_from, root_change, live_changes, removals, feed, last_of}
use Rattle.gd_item.specs.declared.item.Item.{Item}
use Rattle.gd_item.specs.declared.live.LiveItem.{LiveItem}
use Rattle.gd_item.specs.declared.live.Tombstone.{Tombstone}

abbrev pub IsBefore : ℕ × Item → ℕ × Item → Type 0
IsBefore x y = x.0 < y.0

-- whether the numbers rise
abbrev pub Rises : List (ℕ × Item) → Type 0
Rises entries = AllPairs IsBefore entries

-- whether an entry is past a number
abbrev pub is_after : ℕ → ℕ × Item → Bool
is_after last entry = nat_lt last entry.0

abbrev pub put : List (ℕ × Item) → ℕ → Item → List (ℕ × Item)
put entries number item = insert_entry nat_cmp entries number item

not-lt : (a b : ℕ) → b ≤ a → nat_lt a b ≡ false
not-lt a b le = by (nat_lt a b) refl
  where
    by : (t : Bool) → nat_lt a b ≡ t → t ≡ false
    by true is = absurd (let lt : a < b = ltb-true a b is in omega (arith, le))
    by false is = refl

filter-yes : (last : ℕ) (entry : ℕ × Item) (entries : List (ℕ × Item)) → nat_lt last entry.0 ≡ true → filter (is_after last) (entry ∷ entries) ≡ entry ∷ filter (is_after last) entries
filter-yes last entry entries is = ap (λ b. cond b (entry ∷ filter (is_after last) entries) (filter (is_after last) entries)) is

filter-no : (last : ℕ) (entry : ℕ × Item) (entries : List (ℕ × Item)) → nat_lt last entry.0 ≡ false → filter (is_after last) (entry ∷ entries) ≡ filter (is_after last) entries
filter-no last entry entries is = ap (λ b. cond b (entry ∷ filter (is_after last) entries) (filter (is_after last) entries)) is

all-put : (P : ℕ → Type 0) (entries : List (ℕ × Item)) (number : ℕ) (item : Item) → All (λ (e : ℕ × Item). P e.0) entries → P number → All (λ (e : ℕ × Item). P e.0) (put entries number item)
all-put P [] number item all p = All-cons (λ (e : ℕ × Item). P e.0) (number, item) [] p all
all-put P (first ∷ entries) number item all p =
    by (nat_cmp number first.0) (all-put P entries number item (All-tail (λ (e : ℕ × Item). P e.0) first entries all) p)
  where
    Q : ℕ × Item → Type 0
    Q e = P e.0

    by : (o : Ordering) → All (λ (e : ℕ × Item). P e.0) (put entries number item)
        → All (λ (e : ℕ × Item). P e.0) (match_ordering o ((number, item) ∷ first ∷ entries) ((first.0, item) ∷ entries) (first ∷ put entries number item))
    by Less rest = All-cons (λ (e : ℕ × Item). P e.0) (number, item) (first ∷ entries) p all
    by Equal rest =
        All-cons (λ (e : ℕ × Item). P e.0) (first.0, item) entries (All-head (λ (e : ℕ × Item). P e.0) first entries all) (All-tail (λ (e : ℕ × Item). P e.0) first entries all)
    by Greater rest = All-cons (λ (e : ℕ × Item). P e.0) first (put entries number item) (All-head (λ (e : ℕ × Item). P e.0) first entries all) rest

rises-put : (entries : List (ℕ × Item)) (number : ℕ) (item : Item) → Rises entries → Rises (put entries number item)
rises-put [] number item rises = AllPairs-cons IsBefore (number, item) [] (All-nil (IsBefore (number, item))) rises
rises-put (first ∷ entries) number item rises =
    by (nat_cmp number first.0) refl (rises-put entries number item (AllPairs-tail IsBefore first entries rises))
  where
    by : (o : Ordering) → o ≡ nat_cmp number first.0 → Rises (put entries number item)
        → Rises (match_ordering o ((number, item) ∷ first ∷ entries) ((first.0, item) ∷ entries) (first ∷ put entries number item))
    by Less is rest =
        let lt : number < first.0 = ranked number first.0 Less is in
        AllPairs-cons IsBefore (number, item) (first ∷ entries)
        (All-cons (IsBefore (number, item)) first entries lt
        (All-weaker (IsBefore first) (IsBefore (number, item)) (λ y h. let le : first.0 < y.0 = h in omega (arith, le, lt)) entries (AllPairs-head IsBefore first entries rises))) rises
    by Equal is rest =
        AllPairs-cons IsBefore (first.0, item) entries (AllPairs-head IsBefore first entries rises) (AllPairs-tail IsBefore first entries rises)
    by Greater is rest =
        AllPairs-cons IsBefore first (put entries number item) (all-put (λ n. first.0 < n) entries number item (AllPairs-head IsBefore first entries rises) (ranked number first.0 Greater is)) rest

rises-from : (placed entries : List (ℕ × Item)) → Rises placed → Rises (in_change_order_from placed entries)
rises-from placed [] rises = rises
rises-from placed (entry ∷ entries) rises = rises-from (put placed entry.0 entry.1) entries (rises-put placed entry.0 entry.1 rises)

all-from : (P : ℕ → Type 0) (placed entries : List (ℕ × Item)) → All (λ (e : ℕ × Item). P e.0) placed → All (λ (e : ℕ × Item). P e.0) entries
    → All (λ (e : ℕ × Item). P e.0) (in_change_order_from placed entries)
all-from P placed [] here later = here
all-from P placed (entry ∷ entries) here later =
    all-from P (put placed entry.0 entry.1) entries
    (all-put P placed entry.0 entry.1 here (All-head (λ (e : ℕ × Item). P e.0) entry entries later)) (All-tail (λ (e : ℕ × Item). P e.0) entry entries later)

pub rises-feed : (held : Inventory) (position start : ℕ) → Rises (feed held position start)
rises-feed held position start =
    rises-from [] (root_change position held.items ++ live_changes position held.items held.items ++ removals position start held.removed) (AllPairs-nil IsBefore)

-- an entry past the number is put where it is put among those past it
put-after : (last : ℕ) (entries : List (ℕ × Item)) (number : ℕ) (item : Item) → nat_lt last number ≡ true
    → filter (is_after last) (put entries number item) ≡ put (filter (is_after last) entries) number item
put-after last [] number item is = filter-yes last (number, item) [] is
put-after last (first ∷ entries) number item is =
    by (nat_cmp number first.0) refl (nat_lt last first.0) refl (put-after last entries number item is)
  where
    by : (o : Ordering) → o ≡ nat_cmp number first.0 → (b : Bool) → nat_lt last first.0 ≡ b
        → filter (is_after last) (put entries number item) ≡ put (filter (is_after last) entries) number item
        → filter (is_after last) (match_ordering o ((number, item) ∷ first ∷ entries) ((first.0, item) ∷ entries) (first ∷ put entries number item))
        ≡ put (cond b (first ∷ filter (is_after last) entries) (filter (is_after last) entries)) number item
    by Less o true b rest =
        filter-yes last (number, item) (first ∷ entries) is
        ∙ ap (λ es. (number, item) ∷ es) (filter-yes last first entries b)
        ∙ ap (λ r. match_ordering r ((number, item) ∷ first ∷ filter (is_after last) entries) ((first.0, item) ∷ filter (is_after last) entries) (first ∷ put (filter (is_after last) entries) number item)) o
    by Less o false b rest =
        absurd (let lt : number < first.0 = ranked number first.0 Less o in let l : last < number = ltb-true last number is in let r : first.0 ≤ last = ltb-false last first.0 b in omega (arith, lt, l, r))
    by Equal o true b rest =
        filter-yes last (first.0, item) entries b
        ∙ ap (λ r. match_ordering r ((number, item) ∷ first ∷ filter (is_after last) entries) ((first.0, item) ∷ filter (is_after last) entries) (first ∷ put (filter (is_after last) entries) number item)) o
    by Equal o false b rest =
        absurd (let eq : number ≡ first.0 = ranked number first.0 Equal o in let l : last < number = ltb-true last number is in let r : first.0 ≤ last = ltb-false last first.0 b in omega (arith, eq, l, r))
    by Greater o true b rest =
        filter-yes last first (put entries number item) b
        ∙ ap (λ es. first ∷ es) rest
        ∙ ap (λ r. match_ordering r ((number, item) ∷ first ∷ filter (is_after last) entries) ((first.0, item) ∷ filter (is_after last) entries) (first ∷ put (filter (is_after last) entries) number item)) o
    by Greater o false b rest = filter-no last first (put entries number item) b ∙ rest

-- and one that is not past it leaves those past it
put-before : (last : ℕ) (entries : List (ℕ × Item)) (number : ℕ) (item : Item) → nat_lt last number ≡ false
    → filter (is_after last) (put entries number item) ≡ filter (is_after last) entries
put-before last [] number item is = filter-no last (number, item) [] is
put-before last (first ∷ entries) number item is = by (nat_cmp number first.0) refl (put-before last entries number item is)
  where
    by : (o : Ordering) → o ≡ nat_cmp number first.0 → filter (is_after last) (put entries number item) ≡ filter (is_after last) entries
        → filter (is_after last) (match_ordering o ((number, item) ∷ first ∷ entries) ((first.0, item) ∷ entries) (first ∷ put entries number item)) ≡ filter (is_after last) (first ∷ entries)
    by Less o rest = filter-no last (number, item) (first ∷ entries) is
    by Equal o rest =
        let same : nat_lt last first.0 ≡ false = ap (nat_lt last) (sym (ranked number first.0 Equal o)) ∙ is in
        filter-no last (first.0, item) entries same ∙ sym (filter-no last first entries same)
    by Greater o rest = ap (λ es. cond (nat_lt last first.0) (first ∷ es) es) rest

after-from : (last : ℕ) (placed entries : List (ℕ × Item))
    → filter (is_after last) (in_change_order_from placed entries) ≡ in_change_order_from (filter (is_after last) placed) (filter (is_after last) entries)
after-from last placed [] = refl
after-from last placed (entry ∷ entries) = by (nat_lt last entry.0) refl (after-from last (put placed entry.0 entry.1) entries)
  where
    by : (b : Bool) → nat_lt last entry.0 ≡ b
        → filter (is_after last) (in_change_order_from (put placed entry.0 entry.1) entries) ≡ in_change_order_from (filter (is_after last) (put placed entry.0 entry.1)) (filter (is_after last) entries)
        → filter (is_after last) (in_change_order_from (put placed entry.0 entry.1) entries)
        ≡ in_change_order_from (filter (is_after last) placed) (cond b (entry ∷ filter (is_after last) entries) (filter (is_after last) entries))
    by true is rest = rest ∙ ap (λ es. in_change_order_from es (filter (is_after last) entries)) (put-after last placed entry.0 entry.1 is)
    by false is rest = rest ∙ ap (λ es. in_change_order_from es (filter (is_after last) entries)) (put-before last placed entry.0 entry.1 is)

root-after : (position last : ℕ) (items : List LiveItem) → position < last → filter (is_after last) (root_change position items) ≡ root_change last items
root-after position last items lt = by (nat_eq position 0) ∙ sym (ap (λ b. cond b ((1, root_record items) ∷ []) []) (ne_eqb last 0 (λ e. omega (arith, lt, e))))
  where
    by : (b : Bool) → filter (is_after last) (cond b ((1, root_record items) ∷ []) []) ≡ []
    by true = filter-no last (1, root_record items) [] (not-lt last 1 (omega (arith, lt)))
    by false = refl

live-after : (position last : ℕ) (all items : List LiveItem) → position < last → filter (is_after last) (live_changes position all items) ≡ live_changes last all items
live-after position last all [] lt = refl
live-after position last all (item ∷ items) lt = by (nat_lt position item.change) refl (nat_lt last item.change) refl (live-after position last all items lt)
  where
    by : (a : Bool) → nat_lt position item.change ≡ a → (b : Bool) → nat_lt last item.change ≡ b → filter (is_after last) (live_changes position all items) ≡ live_changes last all items
        → filter (is_after last) (cond a ((item.change, record_of all item) ∷ live_changes position all items) (live_changes position all items))
        ≡ cond b ((item.change, record_of all item) ∷ live_changes last all items) (live_changes last all items)
    by true a true b rest = filter-yes last (item.change, record_of all item) (live_changes position all items) b ∙ ap (λ es. (item.change, record_of all item) ∷ es) rest
    by true a false b rest = filter-no last (item.change, record_of all item) (live_changes position all items) b ∙ rest
    by false a true b rest =
        absurd (let l : item.change ≤ position = ltb-false position item.change a in let r : last < item.change = ltb-true last item.change b in omega (arith, lt, l, r))
    by false a false b rest = rest

removals-after : (position last start : ℕ) (stones : List Tombstone) → position < last → filter (is_after last) (removals position start stones) ≡ removals last start stones
removals-after position last start [] lt = refl
removals-after position last start (stone ∷ stones) lt =
    by (nat_lt position stone.change) refl (nat_lt last stone.change) refl (nat_lt start stone.change) (removals-after position last start stones lt)
  where
    by : (a : Bool) → nat_lt position stone.change ≡ a → (b : Bool) → nat_lt last stone.change ≡ b → (s : Bool) → filter (is_after last) (removals position start stones) ≡ removals last start stones
        → filter (is_after last) (cond (a && s) ((stone.change, deleted_record stone) ∷ removals position start stones) (removals position start stones))
        ≡ cond (b && s) ((stone.change, deleted_record stone) ∷ removals last start stones) (removals last start stones)
    by true a true b true rest = filter-yes last (stone.change, deleted_record stone) (removals position start stones) b ∙ ap (λ es. (stone.change, deleted_record stone) ∷ es) rest
    by true a true b false rest = rest
    by true a false b true rest = filter-no last (stone.change, deleted_record stone) (removals position start stones) b ∙ rest
    by true a false b false rest = rest
    by false a true b s rest =
        absurd (let l : stone.change ≤ position = ltb-false position stone.change a in let r : last < stone.change = ltb-true last stone.change b in omega (arith, lt, l, r))
    by false a false b s rest = rest

-- what of a feed is past a later number is the feed past that number
feed-after : (held : Inventory) (position last start : ℕ) → position < last → filter (is_after last) (feed held position start) ≡ feed held last start
feed-after held position last start lt =
    let root = root_change position held.items in
    let live = live_changes position held.items held.items in
    let gone = removals position start held.removed in
    let p : ℕ × Item → Bool = is_after last in
    after-from last [] (root ++ live ++ gone)
    ∙ ap (in_change_order_from [])
    (filter-append p (root ++ live) gone
    ∙ ap (λ es. es ++ filter p gone) (filter-append p root live)
    ∙ ap (λ es. es ++ filter p live ++ filter p gone) (root-after position last held.items lt)
    ∙ ap (λ es. root_change last held.items ++ es ++ filter p gone) (live-after position last held.items held.items lt)
    ∙ ap (λ es. root_change last held.items ++ live_changes last held.items held.items ++ es) (removals-after position last start held.removed lt))

root-past : (position : ℕ) (items : List LiveItem) → All (λ (e : ℕ × Item). position < e.0) (root_change position items)
root-past position items = by (nat_eq position 0) refl
  where
    by : (b : Bool) → nat_eq position 0 ≡ b → All (λ (e : ℕ × Item). position < e.0) (cond b ((1, root_record items) ∷ []) [])
    by true is =
        let zero_position : position ≡ 0 = eqb-true position 0 is in
        All-cons (λ (e : ℕ × Item). position < e.0) (1, root_record items) [] (omega (arith, zero_position)) (All-nil (λ (e : ℕ × Item). position < e.0))
    by false is = All-nil (λ (e : ℕ × Item). position < e.0)

live-past : (position : ℕ) (all items : List LiveItem) → All (λ (e : ℕ × Item). position < e.0) (live_changes position all items)
live-past position all [] = All-nil (λ (e : ℕ × Item). position < e.0)
live-past position all (item ∷ items) = by (nat_lt position item.change) refl (live-past position all items)
  where
    by : (b : Bool) → nat_lt position item.change ≡ b → All (λ (e : ℕ × Item). position < e.0) (live_changes position all items)
        → All (λ (e : ℕ × Item). position < e.0) (cond b ((item.change, record_of all item) ∷ live_changes position all items) (live_changes position all items))
    by true is rest = All-cons (λ (e : ℕ × Item). position < e.0) (item.change, record_of all item) (live_changes position all items) (ltb-true position item.change is) rest
    by false is rest = rest

removals-past : (position start : ℕ) (stones : List Tombstone) → All (λ (e : ℕ × Item). position < e.0) (removals position start stones)
removals-past position start [] = All-nil (λ (e : ℕ × Item). position < e.0)
removals-past position start (stone ∷ stones) = by (nat_lt position stone.change) refl (nat_lt start stone.change) (removals-past position start stones)
  where
    by : (b : Bool) → nat_lt position stone.change ≡ b → (s : Bool) → All (λ (e : ℕ × Item). position < e.0) (removals position start stones)
        → All (λ (e : ℕ × Item). position < e.0) (cond (b && s) ((stone.change, deleted_record stone) ∷ removals position start stones) (removals position start stones))
    by true is true rest = All-cons (λ (e : ℕ × Item). position < e.0) (stone.change, deleted_record stone) (removals position start stones) (ltb-true position stone.change is) rest
    by true is false rest = rest
    by false is s rest = rest

feed-past : (held : Inventory) (position start : ℕ) → All (λ (e : ℕ × Item). position < e.0) (feed held position start)
feed-past held position start =
    let root = root_change position held.items in
    let live = live_changes position held.items held.items in
    let gone = removals position start held.removed in
    let P : ℕ × Item → Type 0 = λ e. position < e.0 in
    all-from (λ n. position < n) [] (root ++ live ++ gone) (All-nil P)
    (All-append P (root ++ live) gone (All-append P root live (root-past position held.items) (live-past position held.items held.items)) (removals-past position start held.removed))

filter-all : (last : ℕ) (entries : List (ℕ × Item)) → All (λ (e : ℕ × Item). last < e.0) entries → filter (is_after last) entries ≡ entries
filter-all last [] all = refl
filter-all last (entry ∷ entries) all =
    filter-yes last entry entries (lt-ltb last entry.0 (All-head (λ (e : ℕ × Item). last < e.0) entry entries all))
    ∙ ap (λ es. entry ∷ es) (filter-all last entries (All-tail (λ (e : ℕ × Item). last < e.0) entry entries all))

key-at : (P : ℕ → Type 0) (n : ℕ) (entries : List (ℕ × Item)) → All (λ (e : ℕ × Item). P e.0) entries → n < length entries → P (slice_index (keys_of entries) n)
key-at P n [] all lt = absurd (omega (arith, lt))
key-at P zero (entry ∷ entries) all lt = All-head (λ (e : ℕ × Item). P e.0) entry entries all
key-at P (suc n) (entry ∷ entries) all lt = key-at P n entries (All-tail (λ (e : ℕ × Item). P e.0) entry entries all) (omega (arith, lt))

-- in a list that rises what is past its n-th number follows it
after-nth : (n : ℕ) (entries : List (ℕ × Item)) → Rises entries → n < length entries → filter (is_after (slice_index (keys_of entries) n)) entries ≡ drop (suc n) entries
after-nth n [] rises lt = absurd (omega (arith, lt))
after-nth zero (entry ∷ entries) rises lt =
    filter-no entry.0 entry entries (not-lt entry.0 entry.0 (omega arith)) ∙ filter-all entry.0 entries (AllPairs-head IsBefore entry entries rises)
after-nth (suc n) (entry ∷ entries) rises lt =
    let within : n < length entries = omega (arith, lt) in
    let last : ℕ = slice_index (keys_of entries) n in
    let above : entry.0 < slice_index (keys_of entries) n = key-at (λ m. entry.0 < m) n entries (AllPairs-head IsBefore entry entries rises) within in
    filter-no (slice_index (keys_of entries) n) entry entries (not-lt (slice_index (keys_of entries) n) entry.0 (omega (arith, above)))
    ∙ after-nth n entries (AllPairs-tail IsBefore entry entries rises) within

-- the page of the first records, and the feed past the last of them
feed-split : (held : Inventory) (position start n : ℕ) → n < length (feed held position start)
    → feed held position start ≡ take (suc n) (feed held position start) ++ feed held (slice_index (keys_of (feed held position start)) n) start
feed-split held position start n within =
    let changes : List (ℕ × Item) = feed held position start in
    let last : ℕ = slice_index (keys_of (feed held position start)) n in
    let above : position < slice_index (keys_of (feed held position start)) n = key-at (λ m. position < m) n (feed held position start) (feed-past held position start) within in
    sym (take-append-drop (suc n) (feed held position start))
    ∙ ap (λ es. take (suc n) (feed held position start) ++ es)
    (sym (after-nth n (feed held position start) (rises-feed held position start) within)
    ∙ feed-after held position (slice_index (keys_of (feed held position start)) n) start above)

pub feed-pages : (held : Inventory) (position start size last : ℕ) → 0 < size → last_of size (feed held position start) ≡ Some last
    → feed held position start ≡ take size (feed held position start) ++ feed held last start
feed-pages held position start zero last some is = absurd (omega (arith, some))
feed-pages held position start (suc n) last some is = by (nat_lt (suc n) (length (feed held position start))) refl is
  where
    by : (b : Bool) → nat_lt (suc n) (length (feed held position start)) ≡ b → cond b (Some (slice_index (keys_of (feed held position start)) (suc n - 1))) None ≡ Some last
        → feed held position start ≡ take (suc n) (feed held position start) ++ feed held last start
    by true long found =
        let lt : suc n < length (feed held position start) = ltb-true (suc n) (length (feed held position start)) long in
        let less : suc n - 1 ≡ n = omega arith in
        let found_last : slice_index (keys_of (feed held position start)) (suc n - 1) ≡ last = cc in
        let is_last : slice_index (keys_of (feed held position start)) n ≡ last = sym (ap (slice_index (keys_of (feed held position start))) less) ∙ found_last in
        feed-split held position start n (omega (arith, lt)) ∙ ap (λ l. take (suc n) (feed held position start) ++ feed held l start) is_last
    by false long found = absurd cc

pub feed-last : (held : Inventory) (position start size last : ℕ) → 0 < size → last_of size (feed held position start) ≡ Some last → position < last
feed-last held position start zero last some is = absurd (omega (arith, some))
feed-last held position start (suc n) last some is = by (nat_lt (suc n) (length (feed held position start))) refl is
  where
    by : (b : Bool) → nat_lt (suc n) (length (feed held position start)) ≡ b → cond b (Some (slice_index (keys_of (feed held position start)) (suc n - 1))) None ≡ Some last → position < last
    by true long found =
        let lt : suc n < length (feed held position start) = ltb-true (suc n) (length (feed held position start)) long in
        let less : suc n - 1 ≡ n = omega arith in
        let found_last : slice_index (keys_of (feed held position start)) (suc n - 1) ≡ last = cc in
        let is_last : slice_index (keys_of (feed held position start)) n ≡ last = sym (ap (slice_index (keys_of (feed held position start))) less) ∙ found_last in
        subst (λ m. position < m) is_last (key-at (λ m. position < m) n (feed held position start) (feed-past held position start) (omega (arith, lt)))
    by false long found = absurd cc
