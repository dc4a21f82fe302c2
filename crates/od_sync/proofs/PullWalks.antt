-- What the walk over kept items and those of a view lets go and puts makes of the kept items those of the view.
use Rattle.std.proofs.Common.{◌≡◌, ℕ, ◌-◌, ◌<◌, ◌≤◌, Bool, true, false, not, ◌||◌, cond, nat_eq, List, [], ◌∷◌, ◌++◌, length, take, drop, get_or, map, refl, sym, ap, ◌∙◌, subst, arith}
use Rattle.std.specs.Cmp.{ranked, nat_cmp_is}
use Rattle.std.specs.List.{AllByRecursion, list_any}
use Rattle.std.specs.List.Sorted.{IsStrictlySortedBy}
use Rattle.std.specs.Ordering.{nat_cmp, match_ordering}
use Rattle.std.specs.declared.cmp.Ordering.{Ordering}
use Rattle.std.specs.declared.cmp.Ordering.TheVariants.{Less, Equal, Greater}
use Rattle.std.proofs.lemmas.Bool.{eq-eqb, ne_eqb}
use Rattle.std.proofs.lemmas.List.{append-nil, append_assoc, take_all}
use Rattle.gd_item.specs.declared.id.ItemId.{ItemId}
use Rattle.gd_item.specs.declared.item.Item.{Item}
use Rattle.od_keeper.specs.Images.{by_id, put_by, put_in_order, put_all, without_ids}
use Rattle.od_sync.specs.PullChanges.{ItemsRise, is_same_item, put_unless, gone_past, pull_gone, put_past, pull_put}
use Rattle.od_sync.proofs.SameItems.{items-same}

-- a number is below those of items, and of ids
abbrev Below : ℕ → List Item → Type 0
Below n items = AllByRecursion (λ (item : Item). n < item.id.0) items

abbrev BelowIds : ℕ → List ItemId → Type 0
BelowIds n ids = AllByRecursion (λ (id : ItemId). n < id.0) ids

abbrev Rising : List Item → Type 0
Rising [] = Unit {0}
Rising (item ∷ items) = Below item.id.0 items × Rising items

below-from : (n : ℕ) (items : List Item) → AllByRecursion (λ k. nat_cmp n k ≡ Less) (map (λ (item : Item). item.id.0) items) → Below n items
below-from n [] all = tt
below-from n (item ∷ items) all = (ranked n item.id.0 Less (sym all.0), below-from n items all.1)

rising-from : (items : List Item) → ItemsRise items → Rising items
unfolding IsStrictlySortedBy
rising-from [] rise = tt
rising-from (item ∷ items) rise = (below-from item.id.0 items rise.0, rising-from items rise.1)

below-less : (m n : ℕ) → m < n → (items : List Item) → Below n items → Below m items
below-less m n lt [] all = tt
below-less m n lt (item ∷ items) all = (let over : n < item.id.0 = all.0 in omega arith, below-less m n lt items all.1)

-- ---- an item that is put below, over and above the first one

put-below : (x : Item) (items : List Item) → Below x.id.0 items → put_in_order by_id x items ≡ x ∷ items
put-below x [] all = refl
put-below x (first ∷ items) all = ap (λ o. put_by o x first items (put_in_order by_id x items)) (sym (nat_cmp_is x.id.0 first.id.0 Less all.0))

put-over : (x first : Item) (items : List Item) → x.id.0 ≡ first.id.0 → put_in_order by_id x (first ∷ items) ≡ x ∷ items
put-over x first items same = ap (λ o. put_by o x first items (put_in_order by_id x items)) (sym (nat_cmp_is x.id.0 first.id.0 Equal same))

put-above : (x first : Item) (items : List Item) → first.id.0 < x.id.0 → put_in_order by_id x (first ∷ items) ≡ first ∷ put_in_order by_id x items
put-above x first items lt = ap (λ o. put_by o x first items (put_in_order by_id x items)) (sym (nat_cmp_is x.id.0 first.id.0 Greater lt))

all-above : (put : List Item) (first : Item) (items : List Item) → Below first.id.0 put → put_all by_id put (first ∷ items) ≡ first ∷ put_all by_id put items
all-above [] first items all = refl
all-above (x ∷ put) first items all = ap (λ xs. put_all by_id put xs) (put-above x first items all.0) ∙ all-above put first (put_in_order by_id x items) all.1

-- what is put among none
put-alone : (items : List Item) → Rising items → put_all by_id items [] ≡ items
put-alone [] rises = refl
put-alone (x ∷ items) rises = all-above items x [] rises.0 ∙ ap (λ xs. x ∷ xs) (put-alone items rises.1)

-- ---- an item without which the others stay

abbrev names : List ItemId → Item → Bool
names ids item = list_any (λ (id : ItemId). nat_eq id.0 item.id.0) ids

without-if : (b : Bool) (ids : List ItemId) (item : Item) (items : List Item) → names ids item ≡ b
    → without_ids ids (item ∷ items) ≡ cond (not b) (item ∷ without_ids ids items) (without_ids ids items)
without-if b ids item items is = ap (λ t. cond (not t) (item ∷ without_ids ids items) (without_ids ids items)) is

none-names : (ids : List ItemId) (item : Item) → BelowIds item.id.0 ids → names ids item ≡ false
none-names [] item all = refl
none-names (id ∷ ids) item all =
    let over : item.id.0 < id.0 = all.0 in
    ap (λ b. b || names ids item) (ne_eqb id.0 item.id.0 (λ e. absurd (omega arith))) ∙ none-names ids item all.1

-- an id of none of the items
gone-elsewhere : (id : ItemId) (ids : List ItemId) (items : List Item) → Below id.0 items → without_ids (id ∷ ids) items ≡ without_ids ids items
gone-elsewhere id ids [] all = refl
gone-elsewhere id ids (item ∷ items) all =
    let over : id.0 < item.id.0 = all.0 in
    let other : nat_eq id.0 item.id.0 ≡ false = ne_eqb id.0 item.id.0 (λ e. absurd (omega arith)) in
    ap (λ b. cond (not (b || names ids item)) (item ∷ without_ids (id ∷ ids) items) (without_ids (id ∷ ids) items)) other
    ∙ ap (λ xs. cond (not (names ids item)) (item ∷ xs) xs) (gone-elsewhere id ids items all.1)

gone-first : (ids : List ItemId) (item : Item) (items : List Item) → Below item.id.0 items → without_ids (item.id ∷ ids) (item ∷ items) ≡ without_ids ids items
gone-first ids item items all =
    ap (λ b. cond (not (b || names ids item)) (item ∷ without_ids (item.id ∷ ids) items) (without_ids (item.id ∷ ids) items)) (eq-eqb item.id.0 item.id.0 refl)
    ∙ gone-elsewhere item.id ids items all

kept-first : (ids : List ItemId) (item : Item) (items : List Item) → BelowIds item.id.0 ids → without_ids ids (item ∷ items) ≡ item ∷ without_ids ids items
kept-first ids item items all = without-if false ids item items (none-names ids item all)

below-kept-if : (n : ℕ) (b : Bool) (item : Item) (items : List Item) → n < item.id.0 → Below n items → Below n (cond b (item ∷ items) items)
below-kept-if n true item items lt all = (lt, all)
below-kept-if n false item items lt all = all

below-without : (n : ℕ) (ids : List ItemId) (items : List Item) → Below n items → Below n (without_ids ids items)
below-without n ids [] all = tt
below-without n ids (item ∷ items) all = below-kept-if n (not (names ids item)) item (without_ids ids items) all.0 (below-without n ids items all.1)

-- ---- what the walk lets go and puts

-- what a walk past one item lets go is above what it and the others are above
ids-by-order : (n : ℕ) (o : Ordering) (a b c : List ItemId) → BelowIds n a → BelowIds n b → BelowIds n c → BelowIds n (match_ordering o a b c)
ids-by-order n Less a b c x y z = x
ids-by-order n Equal a b c x y z = y
ids-by-order n Greater a b c x y z = z

gone-past-above : (n : ℕ) (old : Item) (more : List Item → List ItemId) → n < old.id.0 → ((items : List Item) → BelowIds n (more items)) → (items : List Item) → BelowIds n (gone_past old more items)
gone-past-above n old more lt each [] = (lt, each [])
gone-past-above n old more lt each (new ∷ items) =
    ids-by-order n (nat_cmp old.id.0 new.id.0) (old.id ∷ more (new ∷ items)) (more items) (gone_past old more items) (lt, each (new ∷ items)) (each items) (gone-past-above n old more lt each items)

gone-above : (n : ℕ) (kept : List Item) → Below n kept → (items : List Item) → BelowIds n (pull_gone kept items)
gone-above n [] all items = tt
gone-above n (old ∷ kept) all items = gone-past-above n old (pull_gone kept) all.0 (gone-above n kept all.1) items

items-by-order : (n : ℕ) (o : Ordering) (a b c : List Item) → Below n a → Below n b → Below n c → Below n (match_ordering o a b c)
items-by-order n Less a b c x y z = x
items-by-order n Equal a b c x y z = y
items-by-order n Greater a b c x y z = z

below-unless : (n : ℕ) (same : Bool) (item : Item) (items : List Item) → n < item.id.0 → Below n items → Below n (put_unless same item items)
below-unless n true item items lt all = all
below-unless n false item items lt all = (lt, all)

put-past-above : (n : ℕ) (old : Item) (more : List Item → List Item) → ((items : List Item) → Below n items → Below n (more items)) → (items : List Item) → Below n items → Below n (put_past old more items)
put-past-above n old more each [] all = tt
put-past-above n old more each (new ∷ items) all =
    items-by-order n (nat_cmp old.id.0 new.id.0) (more (new ∷ items)) (put_unless (is_same_item old new) new (more items)) (new ∷ put_past old more items)
    (each (new ∷ items) all) (below-unless n (is_same_item old new) new (more items) all.0 (each items all.1)) (all.0, put-past-above n old more each items all.1)

put-above-all : (n : ℕ) (kept items : List Item) → Below n items → Below n (pull_put kept items)
put-above-all n [] items all = all
put-above-all n (old ∷ kept) items all = put-past-above n old (pull_put kept) (put-above-all n kept) items all

-- one more item is put, or is the same
pub put-more : (same : Bool) (old : Item) (put now rest whole : List Item) → now ≡ put ++ put_unless same old [] → put ++ put_unless same old rest ≡ whole → now ++ rest ≡ whole
put-more true old put now rest whole is so_far = ap (λ xs. xs ++ rest) (is ∙ append-nil put) ∙ so_far
put-more false old put now rest whole is so_far = ap (λ xs. xs ++ rest) is ∙ append_assoc put (old ∷ []) rest ∙ so_far

-- what a walk makes of the kept items
abbrev Walked : List Item → List Item → Type 0
Walked kept items = put_all by_id (pull_put kept items) (without_ids (pull_gone kept items) kept) ≡ items

-- one walk ends, or goes on past an item
nothing-put : (kept : List Item) → pull_put kept [] ≡ []
nothing-put [] = refl
nothing-put (old ∷ kept) = refl

all-gone : (kept : List Item) → Rising kept → without_ids (pull_gone kept []) kept ≡ []
all-gone [] rises = refl
all-gone (old ∷ kept) rises = gone-first (pull_gone kept []) old kept rises.0 ∙ all-gone kept rises.1

-- the same item stays, or is put over the kept one
put-same : (same : Bool) (old new : Item) (put rest : List Item) → is_same_item old new ≡ same → old.id.0 ≡ new.id.0 → Below new.id.0 put
    → put_all by_id (put_unless same new put) (old ∷ rest) ≡ new ∷ put_all by_id put rest
put-same true old new put rest is at all =
    ap (λ (x : Item). put_all by_id put (x ∷ rest)) (items-same old new is) ∙ all-above put new rest all
put-same false old new put rest is at all =
    ap (λ xs. put_all by_id put xs) (put-over new old rest (sym at)) ∙ all-above put new rest all

walked-past : (old : Item) (kept : List Item) → Below old.id.0 kept → Rising kept → ((items : List Item) → Rising items → Walked kept items)
    → (items : List Item) → Rising items → Walked (old ∷ kept) items
walked-past old kept above rises each [] view = all-gone (old ∷ kept) (above, rises)
walked-past old kept above rises each (new ∷ items) view =
    by (nat_cmp old.id.0 new.id.0) refl (walked-past old kept above rises each items view.1)
  where
    P : List Item
    P = put_past old (pull_put kept) items

    G : List ItemId
    G = gone_past old (pull_gone kept) items

    by : (o : Ordering) → nat_cmp old.id.0 new.id.0 ≡ o → put_all by_id P (without_ids G (old ∷ kept)) ≡ items
        → put_all by_id (match_ordering o (pull_put kept (new ∷ items)) (put_unless (is_same_item old new) new (pull_put kept items)) (new ∷ P))
        (without_ids (match_ordering o (old.id ∷ pull_gone kept (new ∷ items)) (pull_gone kept items) G) (old ∷ kept)) ≡ new ∷ items
    by Less is rest =
        ap (λ xs. put_all by_id (pull_put kept (new ∷ items)) xs) (gone-first (pull_gone kept (new ∷ items)) old kept above) ∙ each (new ∷ items) view
    by Equal is rest =
        let at : old.id.0 ≡ new.id.0 = ranked old.id.0 new.id.0 Equal (sym is) in
        ap (λ xs. put_all by_id (put_unless (is_same_item old new) new (pull_put kept items)) xs) (kept-first (pull_gone kept items) old kept (gone-above old.id.0 kept above items))
        ∙ put-same (is_same_item old new) old new (pull_put kept items) (without_ids (pull_gone kept items) kept) refl at (put-above-all new.id.0 kept items view.0)
        ∙ ap (λ xs. new ∷ xs) (each items view.1)
    by Greater is rest =
        let lt : new.id.0 < old.id.0 = ranked old.id.0 new.id.0 Greater (sym is) in
        let W : List Item = without_ids G (old ∷ kept) in
        let over : Below new.id.0 W = below-without new.id.0 G (old ∷ kept) (lt, below-less new.id.0 old.id.0 lt kept above) in
        ap (λ xs. put_all by_id P xs) (put-below new W over) ∙ all-above P new W (put-above-all new.id.0 (old ∷ kept) items view.0) ∙ ap (λ xs. new ∷ xs) rest

walked-rising : (kept : List Item) → Rising kept → (items : List Item) → Rising items → Walked kept items
walked-rising [] rises items view = put-alone items view
walked-rising (old ∷ kept) rises items view = walked-past old kept rises.0 rises.1 (walked-rising kept rises.1) items view

pub walked : (kept items : List Item) → ItemsRise kept → ItemsRise items → put_all by_id (pull_put kept items) (without_ids (pull_gone kept items) kept) ≡ items
walked kept items rise view = walked-rising kept (rising-from kept rise) items (rising-from items view)

-- ---- one turn of the walk, past items of the same id

rest-of : {X : Type 0} (x : X) (xs : List X) → take (length (x ∷ xs) - 1) (drop 1 (x ∷ xs)) ≡ xs
rest-of x xs = take_all (length (x ∷ xs) - 1) xs (omega arith)

pub gone-more : (ours theirs : List Item) (old new : Item) (gone whole : List ItemId) → 1 ≤ length ours → 1 ≤ length theirs → old ≡ get_or ours 0 old → new ≡ get_or theirs 0 new
    → Equal ≡ nat_cmp old.id.0 new.id.0 → gone ++ pull_gone ours theirs ≡ whole
    → gone ++ pull_gone (take (length ours - 1) (drop 1 ours)) (take (length theirs - 1) (drop 1 theirs)) ≡ whole
gone-more [] theirs old new gone whole some others is_old is_new at so_far = absurd (omega arith)
gone-more (a ∷ kept) [] old new gone whole some others is_old is_new at so_far = absurd (omega arith)
gone-more (a ∷ kept) (b ∷ items) old new gone whole some others is_old is_new at so_far =
    let same : a.id.0 ≡ b.id.0 = ap (λ (x : Item). x.id.0) (sym is_old) ∙ ranked old.id.0 new.id.0 Equal at ∙ ap (λ (x : Item). x.id.0) is_new in
    ap (λ xs. gone ++ pull_gone xs (take (length (b ∷ items) - 1) (drop 1 (b ∷ items)))) (rest-of a kept)
    ∙ ap (λ xs. gone ++ pull_gone kept xs) (rest-of b items)
    ∙ ap (λ o. gone ++ match_ordering o (a.id ∷ pull_gone kept (b ∷ items)) (pull_gone kept items) (pull_gone (a ∷ kept) items)) (nat_cmp_is a.id.0 b.id.0 Equal same)
    ∙ so_far

pub put-next : (ours theirs : List Item) (old new : Item) (put now whole : List Item) → 1 ≤ length ours → 1 ≤ length theirs → old ≡ get_or ours 0 old → new ≡ get_or theirs 0 new
    → Equal ≡ nat_cmp old.id.0 new.id.0 → now ≡ put ++ put_unless (is_same_item old new) new [] → put ++ pull_put ours theirs ≡ whole
    → now ++ pull_put (take (length ours - 1) (drop 1 ours)) (take (length theirs - 1) (drop 1 theirs)) ≡ whole
put-next [] theirs old new put now whole some others is_old is_new at is so_far = absurd (omega arith)
put-next (a ∷ kept) [] old new put now whole some others is_old is_new at is so_far = absurd (omega arith)
put-next (a ∷ kept) (b ∷ items) old new put now whole some others is_old is_new at is so_far =
    let same : a.id.0 ≡ b.id.0 = ap (λ (x : Item). x.id.0) (sym is_old) ∙ ranked old.id.0 new.id.0 Equal at ∙ ap (λ (x : Item). x.id.0) is_new in
    let such : now ≡ put ++ put_unless (is_same_item a b) b [] = subst (λ (x : Item). now ≡ put ++ put_unless (is_same_item a x) x []) is_new (subst (λ (x : Item). now ≡ put ++ put_unless (is_same_item x new) new []) is_old is) in
    ap (λ xs. now ++ pull_put xs (take (length (b ∷ items) - 1) (drop 1 (b ∷ items)))) (rest-of a kept)
    ∙ ap (λ xs. now ++ pull_put kept xs) (rest-of b items)
    ∙ put-more (is_same_item a b) b put now (pull_put kept items) whole such
    (ap (λ o. put ++ match_ordering o (pull_put kept (b ∷ items)) (put_unless (is_same_item a b) b (pull_put kept items)) (b ∷ pull_put (a ∷ kept) items)) (nat_cmp_is a.id.0 b.id.0 Equal same)
    ∙ so_far)
