-- Sources in queues: what waits where, and which of them is taken.
use Rattle.std.proofs.Common.{◌≡◌, ◌≤◌, ℕ, zero, suc, Bool, true, false, not, ◌&&◌, ◌||◌, cond, List, [], ◌∷◌, ◌++◌, drop, filter, find, length, arith, Option, Some, None, refl, ap, sym, subst, ◌∙◌, append_assoc}
use Rattle.std.proofs.lemmas.Bool.{true≢false, false≢true, false_from_ne_true, and_parts, or_parts, or_left, or_right}
use Rattle.std.proofs.lemmas.List.{drop_all}
use Rattle.std.proofs.lemmas.List.Kept.{IsStrictlySortedBy-filter}
use Rattle.std.proofs.lemmas.Map.Lookups.{exact_bytes, exact_pairs}
use Rattle.std.specs.Cmp.{tied_itself}
use Rattle.std.specs.Cmp.Lexicographic.{nat_list_cmp_total, slice_cmp}
use Rattle.std.specs.List.Sorted.{IsStrictlySortedBy}
use Rattle.std.specs.Map.{lookup}
use Rattle.std.specs.Option.{option_cmp, option_to_list}
use Rattle.std.specs.Ordering.{is_eq, is_lt, nat_cmp, ordering_then}
use Rattle.std.specs.declared.cmp.Ordering.{Ordering}
use Rattle.std.specs.declared.cmp.Ordering.TheVariants.{Less, Equal, Greater}
use Rattle.gd_item.specs.declared.digest.Digest.{Digest}
use Rattle.gd_names.specs.Ordered.{path_cmp}
use Rattle.gd_names.proofs.Ordered.{paths-total, exact-paths}
use Rattle.od_merge.specs.Merging.{all_paths, both_paths}
use Rattle.od_merge.specs.Pairs.{and_pair, source_for}
use Rattle.od_merge.specs.Sides.{Sides, is_path}
use Rattle.od_merge.proofs.Lists.{Path, filter-in, is_in, path-self, same-path}
use Rattle.od_merge.proofs.Order.{Above, Apart, Rises, apart-sorted, rises}
use Rattle.od_reconcile.specs.Moving.{is_moved_from}
use Rattle.od_reconcile.specs.Queues.{IsQueued, PopsAt, Slot, TakesSource, comes_first, first_slot, front_of, is_slot, queue_at, queued, serves, slot_cmp}
use Rattle.od_reconcile.proofs.Indexes.{turned}

abbrev pub Pairs : Type 0
Pairs = List (Path × Path)

append-none : (xs : List Path) → xs ++ [] ≡ xs
append-none [] = refl
append-none (x ∷ xs) = ap (λ (ps : List Path). x ∷ ps) (append-none xs)

-- ---- slots
eq-so : (o : Ordering) → is_eq o ≡ true → o ≡ Equal
eq-so Less is = absurd (false≢true is)
eq-so Equal is = refl
eq-so Greater is = absurd (false≢true is)

exact-option : (a b : Option Path) → option_cmp path_cmp a b ≡ Equal → a ≡ b
exact-option None None is = refl
exact-option None (Some y) is = absurd (cc is)
exact-option (Some x) None is = absurd (cc is)
exact-option (Some x) (Some y) is = ap (λ (p : Path). Some p) (exact-paths x y is)

tied-option : (a : Option Path) → option_cmp path_cmp a a ≡ Equal
tied-option None = refl
tied-option (Some x) = tied_itself paths-total x

pub slot-same : (a b : Slot) → is_eq (slot_cmp a b) ≡ true → a ≡ b
slot-same a b is = exact_pairs (slice_cmp nat_cmp) (option_cmp path_cmp) exact_bytes exact-option a b (eq-so (slot_cmp a b) is)

slot-self : (a : Slot) → is_eq (slot_cmp a a) ≡ true
slot-self a =
    ap (λ (o : Ordering). is_eq (ordering_then o (option_cmp path_cmp a.1 a.1))) (tied_itself nat_list_cmp_total a.0) ∙ ap is_eq (tied-option a.1)

slot-turned-at : (t u : Bool) (a b : Slot) → is_eq (slot_cmp a b) ≡ t → is_eq (slot_cmp b a) ≡ u → t ≡ u
slot-turned-at true true a b ab ba = refl
slot-turned-at false false a b ab ba = refl
slot-turned-at true false a b ab ba = absurd (true≢false (sym (subst (λ (s : Slot). is_eq (slot_cmp s a) ≡ true) (slot-same a b ab) (slot-self a)) ∙ ba))
slot-turned-at false true a b ab ba = absurd (true≢false (sym (subst (λ (s : Slot). is_eq (slot_cmp s b) ≡ true) (slot-same b a ba) (slot-self b)) ∙ ab))

pub slot-turned : (a b : Slot) → is_eq (slot_cmp a b) ≡ is_eq (slot_cmp b a)
slot-turned a b = slot-turned-at (is_eq (slot_cmp a b)) (is_eq (slot_cmp b a)) a b refl refl

other-slot : (o : Option Slot) (k q : Slot) → is_slot k o ≡ true → is_eq (slot_cmp k q) ≡ false → is_slot q o ≡ false
other-slot None k q is apart = refl
other-slot (Some s) k q is apart = subst (λ (z : Slot). is_eq (slot_cmp q z) ≡ false) (slot-same k s is) (slot-turned q k ∙ apart)

-- ---- a queue that is taken out and put again
abbrev pub found : List (Slot × List Path) → Slot → Option (List Path)
found queues slot = lookup (λ key. is_eq (slot_cmp slot key)) queues

put-queue-at : (t : Bool) (slot q : Slot) (queue : List Path) (more : List Path → List Path) (old mid new : List (Slot × List Path)) → is_eq (slot_cmp slot q) ≡ t → queue ≡ more (queue_at old slot)
    → found mid q ≡ cond t None (found old q) → found new q ≡ cond t (Some queue) (found mid q) → queue_at new q ≡ cond t (more (queue_at old q)) (queue_at old q)
put-queue-at true slot q queue more old mid new is queue_is gone put = ap queued put ∙ (queue_is ∙ ap (λ (s : Slot). more (queue_at old s)) (slot-same slot q is))
put-queue-at false slot q queue more old mid new is queue_is gone put = ap queued (put ∙ gone)

pub put-queue : (slot q : Slot) (queue : List Path) (more : List Path → List Path) (old mid new : List (Slot × List Path)) → queue ≡ more (queue_at old slot)
    → found mid q ≡ cond (is_eq (slot_cmp slot q)) None (found old q) → found new q ≡ cond (is_eq (slot_cmp slot q)) (Some queue) (found mid q)
    → queue_at new q ≡ cond (is_eq (slot_cmp slot q)) (more (queue_at old q)) (queue_at old q)
put-queue slot q queue more old mid new queue_is gone put = put-queue-at (is_eq (slot_cmp slot q)) slot q queue more old mid new refl queue_is gone put

no-queue-at : (t : Bool) (slot q : Slot) (old mid : List (Slot × List Path)) → is_eq (slot_cmp slot q) ≡ t → found old slot ≡ None
    → found mid q ≡ cond t None (found old q) → queue_at mid q ≡ cond t (drop 1 (queue_at old q)) (queue_at old q)
no-queue-at true slot q old mid is none gone =
    ap queued gone ∙ sym (ap (λ (s : Slot). drop 1 (queue_at old s)) (sym (slot-same slot q is)) ∙ ap (λ (o : Option (List Path)). drop 1 (queued o)) none)
no-queue-at false slot q old mid is none gone = ap queued gone

pub no-queue : (slot q : Slot) (old mid : List (Slot × List Path)) → found old slot ≡ None → found mid q ≡ cond (is_eq (slot_cmp slot q)) None (found old q)
    → queue_at mid q ≡ cond (is_eq (slot_cmp slot q)) (drop 1 (queue_at old q)) (queue_at old q)
no-queue slot q old mid none gone = no-queue-at (is_eq (slot_cmp slot q)) slot q old mid refl none gone

push-at : (t : Bool) (path : Path) (old : List Path) → cond t (old ++ path ∷ []) old ≡ old ++ cond t (path ∷ []) []
push-at true path old = refl
push-at false path old = sym (append-none old)

pub push-slot : (slot q : Slot) (path : Path) (old new : List Path) → new ≡ cond (is_eq (slot_cmp slot q)) (old ++ path ∷ []) old → new ≡ old ++ cond (is_slot q (Some slot)) (path ∷ []) []
push-slot slot q path old new is = is ∙ (push-at (is_eq (slot_cmp slot q)) path old ∙ ap (λ (b : Bool). old ++ cond b (path ∷ []) []) (slot-turned slot q))

-- ---- lists by tests that answer the same
pub filter-alike : (f g : Path → Bool) → ((x : Path) → f x ≡ g x) → (xs : List Path) → filter f xs ≡ filter g xs
filter-alike f g same [] = refl
filter-alike f g same (x ∷ xs) =
    ap (λ (b : Bool). cond b (x ∷ filter f xs) (filter f xs)) (same x) ∙ ap (λ (ps : List Path). cond (g x) (x ∷ ps) ps) (filter-alike f g same xs)

find-alike : (f g : Path → Bool) → ((x : Path) → f x ≡ g x) → (xs : List Path) → find f xs ≡ find g xs
find-alike f g same [] = refl
find-alike f g same (x ∷ xs) = ap (λ (b : Bool). cond b (Some x) (find f xs)) (same x) ∙ ap (λ (o : Option Path). cond (g x) (Some x) o) (find-alike f g same xs)

pub alike-source : (f g : Path → Path → Bool) (sources : List Path) (pairs : Pairs) (to : Path) → ((x : Path) → f x to ≡ g x to) → source_for f sources pairs to ≡ source_for g sources pairs to
alike-source f g sources pairs to same =
    find-alike (λ x. f x to && not (is_moved_from pairs x)) (λ x. g x to && not (is_moved_from pairs x)) (λ x. ap (λ (b : Bool). b && not (is_moved_from pairs x)) (same x)) sources

-- ---- the first of those that pass one test or another one
abbrev LaterThan : Path → Option Path → Type 0
LaterThan x None = Unit {0}
LaterThan x (Some y) = path_cmp x y ≡ Less

later-at : (t : Bool) (x y : Path) (kept : List Path) → path_cmp x y ≡ Less → LaterThan x (front_of kept) → LaterThan x (front_of (cond t (y ∷ kept) kept))
later-at true x y kept less rest = less
later-at false x y kept less rest = rest

later : (test : Path → Bool) (x : Path) (xs : List Path) → Above x xs → LaterThan x (front_of (filter test xs))
later test x [] above = tt
later test x (y ∷ xs) above = later-at (test y) x y (filter test xs) above.0 (later test x xs above.1)

abbrev sooner : Option Path → Option Path → Option Path
sooner own any = cond (comes_first own any) own any

less-so : (o : Ordering) → is_lt o ≡ true → o ≡ Less
less-so Less is = refl
less-so Equal is = absurd (false≢true is)
less-so Greater is = absurd (false≢true is)

less-not : (x : Path) → path_cmp x x ≡ Less → ⊥
less-not x less = let is : Less ≡ Equal = sym less ∙ tied_itself paths-total x in cc is

less-itself : (x y : Path) → path_cmp x y ≡ Less → is_lt (path_cmp y x) ≡ false
less-itself x y less = false_from_ne_true (is_lt (path_cmp y x)) (λ back. less-not x (paths-total.trans x y x less (less-so (path_cmp y x) back)))

own-later : (x : Path) (o : Option Path) → LaterThan x o → Some x ≡ sooner o (Some x)
own-later x None less = refl
own-later x (Some y) less = sym (ap (λ (b : Bool). cond b (Some y) (Some x)) (less-itself x y less))

any-later : (x : Path) (o : Option Path) → LaterThan x o → Some x ≡ sooner (Some x) o
any-later x None less = refl
any-later x (Some y) less = sym (ap (λ (o : Ordering). cond (is_lt o) (Some x) (Some y)) less)

cond-same : (b : Bool) (o : Option Path) → o ≡ cond b o o
cond-same true o = refl
cond-same false o = refl

earliest-at : (t u : Bool) (x : Path) (qs ps : List Path) (rest : Option Path) → LaterThan x (front_of qs) → LaterThan x (front_of ps) → rest ≡ sooner (front_of qs) (front_of ps)
    → cond (t || u) (Some x) rest ≡ sooner (front_of (cond u (x ∷ qs) qs)) (front_of (cond t (x ∷ ps) ps))
earliest-at true true x qs ps rest own any is = cond-same (is_lt (path_cmp x x)) (Some x)
earliest-at true false x qs ps rest own any is = own-later x (front_of qs) own
earliest-at false true x qs ps rest own any is = any-later x (front_of ps) any
earliest-at false false x qs ps rest own any is = is

earliest : (p q : Path → Bool) (xs : List Path) → Rises xs → find (λ x. p x || q x) xs ≡ sooner (front_of (filter q xs)) (front_of (filter p xs))
unfolding IsStrictlySortedBy
earliest p q [] rise = refl
earliest p q (x ∷ xs) rise =
    earliest-at (p x) (q x) x (filter q xs) (filter p xs) (find (λ x. p x || q x) xs) (later q x xs rise.0) (later p x xs rise.0) (earliest p q xs rise.1)

-- ---- one more is taken
or-false : (a : Bool) → (a || false) ≡ a
or-false true = refl
or-false false = refl

or-over : (a b c : Bool) → (a || (b || c)) ≡ ((a || b) || c)
or-over true b c = refl
or-over false b c = refl

moved-end : (pairs : Pairs) (from to x : Path) → is_moved_from (pairs ++ (from, to) ∷ []) x ≡ (is_moved_from pairs x || is_path x from)
moved-end [] from to x = or-false (is_path x from)
moved-end (first ∷ pairs) from to x = ap (λ (b : Bool). is_path x first.0 || b) (moved-end pairs from to x) ∙ or-over (is_path x first.0) (is_moved_from pairs x) (is_path x from)

and-true : (a : Bool) → (a && true) ≡ a
and-true true = refl
and-true false = refl

untouched : (test : Path → Bool) (from : Path) (xs : List Path) → is_in from xs ≡ false → filter test xs ≡ filter (λ x. test x && not (is_path x from)) xs
untouched test from [] none = refl
untouched test from (x ∷ xs) none =
    let parts = or_parts (is_path from x) (is_in from xs) none in
    let off : is_path x from ≡ false = turned x from ∙ parts.0 in
    ap (λ (ps : List Path). cond (test x) (x ∷ ps) ps) (untouched test from xs parts.1)
    ∙ ap (λ (b : Bool). cond b (x ∷ filter (λ x. test x && not (is_path x from)) xs) (filter (λ x. test x && not (is_path x from)) xs))
    (sym (ap (λ (b : Bool). test x && not b) off ∙ and-true (test x)))

some-path : (a b : Path) → Some a ≡ Some b → a ≡ b
some-path a b is = cc is

drop-first-at : (t : Bool) (test : Path → Bool) (from x : Path) (xs : List Path) → test x ≡ t → is_in x xs ≡ false → front_of (cond t (x ∷ filter test xs) (filter test xs)) ≡ Some from
    → (front_of (filter test xs) ≡ Some from → drop 1 (filter test xs) ≡ filter (λ x. test x && not (is_path x from)) xs)
    → drop 1 (cond t (x ∷ filter test xs) (filter test xs)) ≡ cond (t && not (is_path x from)) (x ∷ filter (λ x. test x && not (is_path x from)) xs) (filter (λ x. test x && not (is_path x from)) xs)
drop-first-at true test from x xs is apart front rest =
    let same = some-path x from front in
    let self : is_path x from ≡ true = subst (λ (p : Path). is_path x p ≡ true) same (path-self x) in
    untouched test from xs (subst (λ (p : Path). is_in p xs ≡ false) same apart)
    ∙ sym (ap (λ (b : Bool). cond (not b) (x ∷ filter (λ x. test x && not (is_path x from)) xs) (filter (λ x. test x && not (is_path x from)) xs)) self)
drop-first-at false test from x xs is apart front rest = rest front

drop-first : (test : Path → Bool) (from : Path) (xs : List Path) → Apart xs → front_of (filter test xs) ≡ Some from → drop 1 (filter test xs) ≡ filter (λ x. test x && not (is_path x from)) xs
drop-first test from [] apart front = absurd (cc front)
drop-first test from (x ∷ xs) apart front = drop-first-at (test x) test from x xs refl apart.0 front (drop-first test from xs apart.1)

front-passes-at : (t : Bool) (test : Path → Bool) (from x : Path) (kept : List Path) → test x ≡ t → front_of (cond t (x ∷ kept) kept) ≡ Some from → (front_of kept ≡ Some from → test from ≡ true) → test from ≡ true
front-passes-at true test from x kept is front rest = subst (λ (p : Path). test p ≡ true) (some-path x from front) is
front-passes-at false test from x kept is front rest = rest front

front-passes : (test : Path → Bool) (from : Path) (xs : List Path) → front_of (filter test xs) ≡ Some from → test from ≡ true
front-passes test from [] front = absurd (cc front)
front-passes test from (x ∷ xs) front = front-passes-at (test x) test from x (filter test xs) refl front (front-passes test from xs)

no-front : (xs : List Path) → front_of xs ≡ None → drop 1 xs ≡ xs
no-front [] front = refl
no-front (x ∷ xs) front = absurd (cc front)

and-so : (b m e : Bool) → ((b && not m) && not e) ≡ (b && not (m || e))
and-so false m e = refl
and-so true true e = refl
and-so true false e = refl

apart-so : (b m e : Bool) → (e ≡ true → b ≡ false) → (b && not m) ≡ (b && not (m || e))
apart-so false m e apart = refl
apart-so true m true apart = absurd (true≢false (apart refl))
apart-so true true false apart = refl
apart-so true false false apart = refl

abbrev waits : (Path → Option Slot) → Pairs → Slot → Path → Bool
waits slots pairs slot x = is_slot slot (slots x) && not (is_moved_from pairs x)

module _ (slots : Path → Option Slot) (sources : List Path) (pairs : Pairs) (to : Path) where
  taken-here : (k : Slot) (from : Path) → Apart sources → front_of (filter (waits slots pairs k) sources) ≡ Some from → drop 1 (filter (waits slots pairs k) sources) ≡ filter (waits slots (pairs ++ (from, to) ∷ []) k) sources
  taken-here k from apart front =
      drop-first (waits slots pairs k) from sources apart front
      ∙ filter-alike (λ x. waits slots pairs k x && not (is_path x from)) (waits slots (pairs ++ (from, to) ∷ []) k)
      (λ x. and-so (is_slot k (slots x)) (is_moved_from pairs x) (is_path x from) ∙ ap (λ (b : Bool). is_slot k (slots x) && not b) (sym (moved-end pairs from to x))) sources

  taken-elsewhere : (k q : Slot) (from : Path) → front_of (filter (waits slots pairs k) sources) ≡ Some from → is_eq (slot_cmp k q) ≡ false → filter (waits slots pairs q) sources ≡ filter (waits slots (pairs ++ (from, to) ∷ []) q) sources
  taken-elsewhere k q from front apart =
      let here = and_parts (is_slot k (slots from)) (not (is_moved_from pairs from)) (front-passes (waits slots pairs k) from sources front) in
      let off = other-slot (slots from) k q here.0 apart in
      filter-alike (waits slots pairs q) (waits slots (pairs ++ (from, to) ∷ []) q)
      (λ x. apart-so (is_slot q (slots x)) (is_moved_from pairs x) (is_path x from) (λ same. subst (λ (p : Path). is_slot q (slots p) ≡ false) (sym (same-path x from same)) off)
      ∙ ap (λ (b : Bool). is_slot q (slots x) && not b) (sym (moved-end pairs from to x))) sources

  left-some-at : (t : Bool) (k q : Slot) (from : Path) (old : List (Slot × List Path)) → Apart sources → IsQueued slots sources pairs old → front_of (filter (waits slots pairs k) sources) ≡ Some from → is_eq (slot_cmp k q) ≡ t
      → cond t (drop 1 (queue_at old q)) (queue_at old q) ≡ filter (waits slots (pairs ++ (from, to) ∷ []) q) sources
  left-some-at true k q from old apart has front is =
      ap (λ (ps : List Path). drop 1 ps) (has.has q) ∙ taken-here q from apart (subst (λ (s : Slot). front_of (filter (waits slots pairs s) sources) ≡ Some from) (slot-same k q is) front)
  left-some-at false k q from old apart has front is = has.has q ∙ taken-elsewhere k q from front is

  left-none-at : (t : Bool) (k q : Slot) (old : List (Slot × List Path)) → IsQueued slots sources pairs old → front_of (queue_at old k) ≡ None → is_eq (slot_cmp k q) ≡ t
      → cond t (drop 1 (queue_at old q)) (queue_at old q) ≡ filter (waits slots pairs q) sources
  left-none-at true k q old has front is = no-front (queue_at old q) (subst (λ (s : Slot). front_of (queue_at old s) ≡ None) (slot-same k q is) front) ∙ has.has q
  left-none-at false k q old has front is = has.has q

  left-by : (taken : Option Path) (k : Slot) (old new : List (Slot × List Path)) → Apart sources → IsQueued slots sources pairs old → taken ≡ front_of (queue_at old k)
      → ((q : Slot) → queue_at new q ≡ cond (is_eq (slot_cmp k q)) (drop 1 (queue_at old q)) (queue_at old q)) → IsQueued slots sources (and_pair taken to pairs) new
  left-by None k old new apart has first rest = record { has = λ q. rest q ∙ left-none-at (is_eq (slot_cmp k q)) k q old has (sym first) refl }
  left-by (Some from) k old new apart has first rest = record {
    has = λ q. rest q ∙ left-some-at (is_eq (slot_cmp k q)) k q from old apart has (sym (first ∙ ap front_of (has.has k))) refl;
  }

-- ---- the first source that serves
front-by : (b : Bool) (own any : Slot) (old : List (Slot × List Path)) → front_of (queue_at old (cond b own any)) ≡ cond b (front_of (queue_at old own)) (front_of (queue_at old any))
front-by true own any old = refl
front-by false own any old = refl

and-over : (a b c : Bool) → ((a || b) && c) ≡ (a && c || b && c)
and-over true true true = refl
and-over true true false = refl
and-over true false true = refl
and-over true false false = refl
and-over false b c = refl

pub first-serves : (digest : Digest) (to : Path) (own any : Slot) (old new : List (Slot × List Path)) (taken : Option Path) → own ≡ (digest.0, Some to) → any ≡ (digest.0, None)
    → PopsAt (first_slot own any old) old new taken → TakesSource (Some digest) to old new taken
first-serves digest to own any old new taken own_is any_is pops = record {
  takes = λ slots sources pairs rise has. record {
    first = pops.first
        ∙ (front-by (comes_first (front_of (queue_at old own)) (front_of (queue_at old any))) own any old
        ∙ (ap (λ (ps : List Path). sooner (front_of ps) (front_of (queue_at old any))) (has.has own)
        ∙ (ap (λ (ps : List Path). sooner (front_of (filter (waits slots pairs own) sources)) (front_of ps)) (has.has any)
        ∙ (sym (earliest (waits slots pairs any) (waits slots pairs own) sources rise)
        ∙ find-alike (λ x. waits slots pairs any x || waits slots pairs own x) (λ x. serves (Some digest) to (slots x) && not (is_moved_from pairs x))
        (λ x. sym (and-over (is_slot any (slots x)) (is_slot own (slots x)) (not (is_moved_from pairs x)))
        ∙ (ap (λ (s : Slot). (is_slot s (slots x) || is_slot own (slots x)) && not (is_moved_from pairs x)) any_is
        ∙ ap (λ (s : Slot). (is_slot (digest.0, None) (slots x) || is_slot s (slots x)) && not (is_moved_from pairs x)) own_is)) sources))));
    left = left-by slots sources pairs to taken (first_slot own any old) old new (apart-sorted sources rise) has pops.first pops.rest;
  };
}

find-none : (f : Path → Bool) (xs : List Path) → None ≡ find (λ x. false && f x) xs
find-none f [] = refl
find-none f (x ∷ xs) = find-none f xs

pub none-serves : (to : Path) (queues : List (Slot × List Path)) → TakesSource None to queues queues None
none-serves to queues = record { takes = λ slots sources pairs rise has. record { first = find-none (λ x. not (is_moved_from pairs x)) sources; left = has } }

-- ---- queues from sources
fill-at : (b : Bool) (path : Path) (rest : List Path) → cond b (path ∷ []) [] ++ rest ≡ cond b (path ∷ rest) rest
fill-at true path rest = refl
fill-at false path rest = refl

pub queue-more : (test : Path → Bool) (path : Path) (old new left rest whole : List Path) → left ≡ path ∷ rest → new ≡ old ++ cond (test path) (path ∷ []) [] → old ++ filter test left ≡ whole → new ++ filter test rest ≡ whole
queue-more test path old new left rest whole left_is put before =
    ap (λ (ps : List Path). ps ++ filter test rest) put
    ∙ (append_assoc old (cond (test path) (path ∷ []) []) (filter test rest)
    ∙ (ap (λ (ps : List Path). old ++ ps) (fill-at (test path) path (filter test rest)) ∙ (ap (λ (ps : List Path). old ++ filter test ps) (sym left_is) ∙ before)))

pub all-wait : (slots : Path → Option Slot) (sources : List Path) (queues : List (Slot × List Path)) → ((slot : Slot) → queue_at queues slot ≡ filter (λ path. is_slot slot (slots path)) sources) → IsQueued slots sources [] queues
all-wait slots sources queues is = record {
  has = λ slot. is slot ∙ filter-alike (λ path. is_slot slot (slots path)) (λ path. is_slot slot (slots path) && not (is_moved_from [] path)) (λ path. sym (and-true (is_slot slot (slots path)))) sources;
}

-- all of them are in
pub queue-whole : (test : Path → Bool) (i : ℕ) (queue sources whole : List Path) → length sources ≤ i → sources ≡ whole → queue ++ filter test (drop i sources) ≡ filter test sources → queue ≡ filter test whole
queue-whole test i queue sources whole past is so =
    sym (append-none queue)
    ∙ (sym (ap (λ (ps : List Path). queue ++ filter test ps) (drop_all i sources past)) ∙ (so ∙ ap (λ (ps : List Path). filter test ps) is))

pub sources-rise : (test : Path → Bool) (m : Sides) → Rises (filter test (all_paths m))
sources-rise test m = IsStrictlySortedBy-filter path_cmp test (all_paths m) (rises (both_paths m))

-- ---- what is left of a list by a test passes it
in-drop : (q : Path) (i : ℕ) (xs : List Path) → is_in q (drop i xs) ≡ true → is_in q xs ≡ true
in-drop q zero xs has = has
in-drop q (suc i) [] has = has
in-drop q (suc i) (x ∷ xs) has = or_right (is_path q x) (is_in q xs) (in-drop q i xs has)

pub passes-next : (test : Path → Bool) (keys targets : List Path) (i : ℕ) (to : Path) (rest : List Path) → targets ≡ filter test keys → drop i targets ≡ to ∷ rest → test to ≡ true
passes-next test keys targets i to rest is next =
    let here : is_in to (drop i targets) ≡ true = ap (λ (ps : List Path). is_in to ps) next ∙ or_left (is_path to to) (is_in to rest) (path-self to) in
    (and_parts (test to) (is_in to keys) (sym (filter-in test to keys) ∙ (ap (λ (ps : List Path). is_in to ps) (sym is) ∙ in-drop to i targets here))).0

-- ---- a queue
head-same : (x p : Path) (xs ys : List Path) → x ∷ xs ≡ p ∷ ys → x ≡ p
head-same x p xs ys is = cc is

pub popped : (r : Option Path) (old : List Path) → old ≡ option_to_list r ++ drop 1 old → r ≡ front_of old
popped None [] is = refl
popped None (x ∷ xs) is = let longer : length (x ∷ xs) ≡ length xs = ap (λ (ps : List Path). length ps) is in absurd (omega (arith, longer))
popped (Some p) [] is = absurd (cc is)
popped (Some p) (x ∷ xs) is = ap (λ (y : Path). Some y) (sym (head-same x p xs xs is))

-- ---- of two slots
pub first-own : (own any : Slot) (queues : List (Slot × List Path)) (b : Bool) → b ≡ comes_first (front_of (queue_at queues own)) (front_of (queue_at queues any)) → b ≡ true → own ≡ first_slot own any queues
first-own own any queues b is so = sym (ap (λ (c : Bool). cond c own any) (sym is ∙ so))

pub first-any : (own any : Slot) (queues : List (Slot × List Path)) (b : Bool) → b ≡ comes_first (front_of (queue_at queues own)) (front_of (queue_at queues any)) → b ≡ false → any ≡ first_slot own any queues
first-any own any queues b is not_so = sym (ap (λ (c : Bool). cond c own any) (sym is ∙ not_so))
