-- Which sources serve a path, by where they wait.
use Rattle.std.proofs.Common.{◌≡◌, ℕ, Bool, true, false, not, ◌&&◌, ◌||◌, cond, List, nat_eq, is_none, Option, Some, None, refl, ap, sym, subst, ◌∙◌}
use Rattle.std.proofs.lemmas.Bool.{true≢false, false≢true, and_parts}
use Rattle.std.specs.Cmp.Lexicographic.{pointwise, same_text, slice_cmp, texts_ties}
use Rattle.std.specs.Ordering.{is_eq, nat_cmp, ordering_then}
use Rattle.std.specs.declared.cmp.Ordering.{Ordering}
use Rattle.std.specs.declared.cmp.Ordering.TheVariants.{Less, Equal, Greater}
use Rattle.gd_item.specs.declared.digest.Digest.{Digest}
use Rattle.gd_names.specs.Ordered.{path_cmp}
use Rattle.od_merge.specs.Merging.{Limits, all_paths, is_going, target, why_held}
use Rattle.od_merge.specs.Pairs.{comes_there, folder_of, is_sent_now, may_move}
use Rattle.od_merge.specs.Sides.{Sides, at, digest_of, is_file, is_path, same}
use Rattle.od_merge.specs.Steps.{is_fetched, is_sent}
use Rattle.od_merge.specs.declared.content.Content.{Content}
use Rattle.od_merge.specs.declared.content.Content.TheVariants.{Folder, File}
use Rattle.od_merge.proofs.Cores.{any-filter}
use Rattle.od_merge.proofs.Lists.{Path, text-self}
use Rattle.od_reconcile.specs.Holding.{IsSpelt, Spelt, has_other, lower_path, same_caseless_path, stands_at}
use Rattle.od_reconcile.specs.Moving.{coming_paths, fits_here, is_target_here, is_target_there}
use Rattle.od_reconcile.specs.Queues.{is_slot, serves, slot_by, slot_here, slot_there}
use Rattle.od_reconcile.proofs.Indexes.{turned}
use Rattle.od_reconcile.proofs.Lookups.{eq-path}
use Rattle.od_reconcile.proofs.Spellings.{any-alike}

-- ---- the same bytes
turned-bytes-at : (t u : Bool) (a b : List ℕ) → pointwise nat_eq a b ≡ t → pointwise nat_eq b a ≡ u → t ≡ u
turned-bytes-at true true a b ab ba = refl
turned-bytes-at false false a b ab ba = refl
turned-bytes-at true false a b ab ba = absurd (true≢false (sym (subst (λ (p : List ℕ). pointwise nat_eq p a ≡ true) (same_text a b (sym ab)) (text-self a)) ∙ ba))
turned-bytes-at false true a b ab ba = absurd (true≢false (sym (subst (λ (p : List ℕ). pointwise nat_eq p b ≡ true) (same_text b a (sym ba)) (text-self b)) ∙ ab))

turned-bytes : (a b : List ℕ) → pointwise nat_eq a b ≡ pointwise nat_eq b a
turned-bytes a b = turned-bytes-at (pointwise nat_eq a b) (pointwise nat_eq b a) a b refl refl

same-bytes : (a b : List ℕ) → pointwise nat_eq a b ≡ is_eq (slice_cmp nat_cmp b a)
same-bytes a b = turned-bytes a b ∙ texts_ties b a

then-eq : (o p : Ordering) → is_eq (ordering_then o p) ≡ (is_eq o && is_eq p)
then-eq Less p = refl
then-eq Equal p = refl
then-eq Greater p = refl

and-true : (a : Bool) → (a && true) ≡ a
and-true true = refl
and-true false = refl

and-false : (a : Bool) → (a && false) ≡ false
and-false true = refl
and-false false = refl

or-false : (a : Bool) → (a || false) ≡ a
or-false true = refl
or-false false = refl

-- what may go anywhere, and what may go to one path alone
any-serves : (t q : Bool) → t ≡ q → ((t && true) && not false) ≡ ((q && true) || (q && false))
any-serves true true is = refl
any-serves false false is = refl
any-serves true false is = absurd (false≢true (sym is))
any-serves false true is = absurd (false≢true is)

own-serves : (t q e : Bool) → t ≡ q → ((t && true) && not (not e)) ≡ ((q && false) || (q && e))
own-serves true true true is = refl
own-serves true true false is = refl
own-serves false false e is = refl
own-serves true false e is = absurd (false≢true (sym is))
own-serves false true e is = absurd (false≢true is)

spelt-serves : (several : Bool) (x d : Digest) (to path : Path)
    → ((pointwise nat_eq x.0 d.0 && true) && not (several || not (is_path path to))) ≡ serves (Some d) to (cond several None (Some (x.0, Some path)))
spelt-serves true x d to path = and-false (pointwise nat_eq x.0 d.0 && true)
spelt-serves false x d to path =
    own-serves (pointwise nat_eq x.0 d.0) (is_eq (slice_cmp nat_cmp d.0 x.0)) (is_path path to) (same-bytes x.0 d.0)
    ∙ sym (ap (λ (b : Bool). b || is_slot (d.0, Some to) (Some (x.0, Some path))) (then-eq (slice_cmp nat_cmp d.0 x.0) Less)
    ∙ ap (λ (b : Bool). (is_eq (slice_cmp nat_cmp d.0 x.0) && false) || b)
    (then-eq (slice_cmp nat_cmp d.0 x.0) (path_cmp to path) ∙ ap (λ (b : Bool). is_eq (slice_cmp nat_cmp d.0 x.0) && b) (eq-path to path ∙ turned to path)))

bytes-serve : (x d : Digest) (to : Path) (spelt : Option Spelt) → ((pointwise nat_eq x.0 d.0 && true) && not (has_other spelt to)) ≡ serves (Some d) to (slot_by (Some x) spelt)
bytes-serve x d to None =
    any-serves (pointwise nat_eq x.0 d.0) (is_eq (slice_cmp nat_cmp d.0 x.0)) (same-bytes x.0 d.0)
    ∙ sym (ap (λ (b : Bool). b || is_slot (d.0, Some to) (Some (x.0, None))) (then-eq (slice_cmp nat_cmp d.0 x.0) Equal)
    ∙ ap (λ (b : Bool). (is_eq (slice_cmp nat_cmp d.0 x.0) && true) || b) (then-eq (slice_cmp nat_cmp d.0 x.0) Greater))
bytes-serve x d to (Some spelt) = spelt-serves spelt.1 x d to spelt.0

-- by what is known of both
same-unknown : (b : Option Content) → same b (Some (File None)) ≡ false
same-unknown None = refl
same-unknown (Some Folder) = refl
same-unknown (Some (File None)) = refl
same-unknown (Some (File (Some digest))) = refl

known-serves : (b : Option Content) (t : Option Content) (to : Path) (going : Bool) (spelt : Option Spelt) → is_file t ≡ true
    → ((same b t && not going) && not (has_other spelt to)) ≡ serves (digest_of t) to (cond going None (slot_by (digest_of b) spelt))
known-serves b None to going spelt file = absurd (false≢true file)
known-serves b (Some Folder) to going spelt file = absurd (false≢true file)
known-serves b (Some (File None)) to going spelt file = ap (λ (s : Bool). (s && not going) && not (has_other spelt to)) (same-unknown b)
known-serves b (Some (File (Some d))) to true spelt file = ap (λ (s : Bool). s && not (has_other spelt to)) (and-false (same b (Some (File (Some d)))))
known-serves None (Some (File (Some d))) to false spelt file = refl
known-serves (Some Folder) (Some (File (Some d))) to false spelt file = refl
known-serves (Some (File None)) (Some (File (Some d))) to false spelt file = refl
known-serves (Some (File (Some x))) (Some (File (Some d))) to false spelt file = bytes-serve x d to spelt

-- ---- on both sides
pub serves-here : (m : Sides) (from to : Path) → is_file (target m to) ≡ true → serves (digest_of (target m to)) to (slot_here m from) ≡ fits_here m from to
serves-here m from to file =
    sym (known-serves (at m.local from) (target m to) to false None file) ∙ (and-true (same (at m.local from) (target m to) && true) ∙ and-true (same (at m.local from) (target m to)))

pub serves-there : (limits : Limits) (m : Sides) (coming : List (Path × Spelt)) (from to : Path) → ((a b : Path) → limits.same_caseless a b ≡ same_caseless_path a b) → IsSpelt (coming_paths limits m) coming
    → is_file (target m to) ≡ true → serves (digest_of (target m to)) to (slot_there m coming from) ≡ may_move limits m from to
serves-there limits m coming from to caseless spelt file =
    sym (known-serves (m.base from) (target m to) to (is_going m m.remote (folder_of from)) (stands_at coming (lower_path from)) file)
    ∙ ap (λ (b : Bool). (same (m.base from) (target m to) && not (is_going m m.remote (folder_of from))) && not b)
    (spelt.has from to ∙ (any-filter (λ o. not (is_path o to) && same_caseless_path o from) (comes_there limits m) (all_paths m)
    ∙ any-alike (λ o. (not (is_path o to) && same_caseless_path o from) && comes_there limits m o) (λ o. (not (is_path o to) && limits.same_caseless o from) && comes_there limits m o)
    (λ o. ap (λ (b : Bool). (not (is_path o to) && b) && comes_there limits m o) (sym (caseless o from))) (all_paths m)))

-- ---- a target is a file
pub target-here : (m : Sides) (to : Path) → is_target_here m to ≡ true → is_file (target m to) ≡ true
target-here m to is =
    let fetched = (and_parts (is_fetched m to) (not (is_file (at m.local to))) is).0 in
    let two = (and_parts (is_file (target m to) && same (target m to) (at m.remote to)) (not (same (target m to) (at m.local to))) fetched).0 in
    (and_parts (is_file (target m to)) (same (target m to) (at m.remote to)) two).0

pub target-there : (limits : Limits) (m : Sides) (to : Path) → is_target_there limits m to ≡ true → is_file (target m to) ≡ true
target-there limits m to is =
    let two = (and_parts (is_sent_now limits m to && not (is_file (at m.remote to))) (same (target m to) (target m to)) is).0 in
    let now = (and_parts (is_sent_now limits m to) (not (is_file (at m.remote to))) two).0 in
    let sent = (and_parts (is_sent m to) (is_none (why_held limits m to)) now).0 in
    (and_parts (is_file (target m to)) (not (same (target m to) (at m.remote to))) sent).0
