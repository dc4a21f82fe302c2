-- Lists of items: what was read so far before what is left, and what is written.
use Rattle.std.proofs.Common.{◌≡◌, ℕ, zero, suc, ◌<◌, ◌≤◌, List, [], ◌∷◌, ◌++◌, length, get_or, drop, Option, Some, None, Ok, All, refl, sym, ap, subst, ◌∙◌, arith, append_assoc, append-nil}
use Rattle.std.specs.Prelude.{option_map, option_and_then}
use Rattle.std.specs.Result.{result_ok}
use Rattle.std.proofs.lemmas.List.Elements.{All-cons, All-nil, All-head, All-tail}
use Rattle.serde_json.specs.Data.{Data, Items, no_items, item}
use Rattle.serde_json.specs.View.{view, items_view}
use Rattle.serde_json.specs.declared.value.Value.{Value}
use Rattle.gd_item.specs.declared.item.Item.{Item}
use Rattle.gd_json.specs.declared.fault.Member.TheVariants as of
use Rattle.gd_json.specs.declared.fault.JsonFault.{JsonFault}
use Rattle.gd_json.specs.declared.fault.JsonFault.TheVariants.{NotJson, Lacks, BadMember, Memory}
use Rattle.gd_json.specs.Faults.{Fails, ok_or}
use Rattle.gd_json.specs.Items.{item_at, item_data, IsKnown, IsWritable}
use Rattle.gd_json.specs.Lists.{items_in}
use Rattle.gd_json.specs.Writing.{listed}
use Rattle.gd_json.proofs.Again.{item_again}

pub view_drop : (vs : List Value) (i : ℕ) (v : Value) → i < length vs → v ≡ get_or vs i v → items_view (drop i vs) ≡ item (view v) (items_view (drop (suc i) vs))
view_drop [] i v h e = absurd (omega arith)
view_drop (w ∷ ws) zero v h e = ap (λ x. item (view x) (items_view ws)) (sym e)
view_drop (w ∷ ws) (suc i) v h e = view_drop ws i v (omega arith) e

pub view_past : (vs : List Value) (i : ℕ) → length vs ≤ i → items_view (drop i vs) ≡ no_items
view_past [] zero h = refl
view_past [] (suc i) h = refl
view_past (w ∷ ws) zero h = absurd (omega arith)
view_past (w ∷ ws) (suc i) h = view_past ws i (omega arith)

abbrev pub with_front : List Item → Option (List Item) → Option (List Item)
with_front front read = option_map (λ xs. front ++ xs) read

joined : (front : List Item) (x : Item) (o : Option (List Item)) → with_front front (option_map (λ xs. x ∷ xs) o) ≡ with_front (front ++ x ∷ []) o
joined front x None = refl
joined front x (Some xs) = ap Some (sym (append_assoc front (x ∷ []) xs))

found : (o : Option Item) (x : Item) → ok_or (BadMember of.Value) o ≡ Ok x → o ≡ Some x
found None x e = absurd cc
found (Some y) x e = cc

pub goes_on : (front : List Item) (x : Item) (d : Data) (ds : Items) (whole : Option (List Item)) → ok_or (BadMember of.Value) (result_ok (item_at d)) ≡ Ok x
    → with_front front (items_in (item d ds)) ≡ whole → with_front (front ++ x ∷ []) (items_in ds) ≡ whole
unfolding items_in
goes_on front x d ds whole e h = sym (joined front x (items_in ds)) ∙ rw (found (result_ok (item_at d)) x e) at h

ends_by : (o : Option Item) (e : JsonFault) (front : List Item) (rest whole : Option (List Item)) → Fails e (ok_or (BadMember of.Value) o)
    → with_front front (option_and_then (λ x. option_map (λ xs. x ∷ xs) rest) o) ≡ whole → Fails e (ok_or (BadMember of.Value) whole)
ends_by None e front rest whole f h = subst (λ (w : Option (List Item)). Fails e (ok_or (BadMember of.Value) w)) h (elim e as (λ (e : JsonFault). Fails e (ok_or {A = Item} (BadMember of.Value) None) → Fails e (ok_or {A = List Item} (BadMember of.Value) None)) [
  | Memory ↦ λ g. tt
  | NotJson ↦ λ g. absurd cc
  | Lacks m ↦ λ g. absurd cc
  | BadMember m ↦ λ g. cc
] f)
ends_by (Some x) Memory front rest whole f h = tt
ends_by (Some x) NotJson front rest whole f h = absurd cc
ends_by (Some x) (Lacks m) front rest whole f h = absurd cc
ends_by (Some x) (BadMember m) front rest whole f h = absurd cc

pub ends : (e : JsonFault) (front : List Item) (d : Data) (ds : Items) (whole : Option (List Item)) → Fails e (ok_or (BadMember of.Value) (result_ok (item_at d)))
    → with_front front (items_in (item d ds)) ≡ whole → Fails e (ok_or (BadMember of.Value) whole)
unfolding items_in
ends e front d ds whole f h = ends_by (result_ok (item_at d)) e front (items_in ds) whole f h

pub is_done : (front : List Item) (whole : Option (List Item)) → with_front front (items_in no_items) ≡ whole → ok_or (BadMember of.Value) whole ≡ Ok front
unfolding items_in
is_done front whole h = ap (ok_or (BadMember of.Value)) (sym h ∙ ap Some (append-nil front))

-- ---- writing

abbrev pub before : List Value → Items → Items
before [] more = more
before (v ∷ vs) more = item (view v) (before vs more)

pub before_more : (vs : List Value) (v : Value) (more : Items) → before (vs ++ v ∷ []) more ≡ before vs (item (view v) more)
before_more [] v more = refl
before_more (w ∷ vs) v more = ap (item (view w)) (before_more vs v more)

pub before_all : (vs : List Value) → items_view vs ≡ before vs no_items
before_all [] = refl
before_all (v ∷ vs) = ap (item (view v)) (before_all vs)

pub listed_drop : (xs : List Item) (i : ℕ) (x : Item) → i < length xs → x ≡ get_or xs i x → listed item_data (drop i xs) no_items ≡ item (item_data x) (listed item_data (drop (suc i) xs) no_items)
listed_drop [] i x h e = absurd (omega arith)
listed_drop (y ∷ ys) zero x h e = ap (λ z. item (item_data z) (listed item_data ys no_items)) (sym e)
listed_drop (y ∷ ys) (suc i) x h e = listed_drop ys i x (omega arith) e

pub listed_past : (xs : List Item) (i : ℕ) → length xs ≤ i → listed item_data (drop i xs) no_items ≡ no_items
listed_past [] zero h = refl
listed_past [] (suc i) h = refl
listed_past (y ∷ ys) zero h = absurd (omega arith)
listed_past (y ∷ ys) (suc i) h = listed_past ys i (omega arith)

pub known_drop : (xs : List Item) (i : ℕ) (x : Item) → i < length xs → x ≡ get_or xs i x → IsKnown x → All IsKnown (drop (suc i) xs) → All IsKnown (drop i xs)
known_drop [] i x h e known more = absurd (omega arith)
known_drop (y ∷ ys) zero x h e known more = All-cons IsKnown y ys (subst IsKnown e known) more
known_drop (y ∷ ys) (suc i) x h e known more = known_drop ys i x (omega arith) e known more

pub known_past : (xs : List Item) (i : ℕ) → length xs ≤ i → All IsKnown (drop i xs)
known_past [] zero h = All-nil IsKnown
known_past [] (suc i) h = All-nil IsKnown
known_past (y ∷ ys) zero h = absurd (omega arith)
known_past (y ∷ ys) (suc i) h = known_past ys i (omega arith)

pub items_again : (xs : List Item) → All IsWritable xs → All IsKnown xs → items_in (listed item_data xs no_items) ≡ Some xs
unfolding items_in
items_again [] writable known = refl
items_again (x ∷ xs) writable known =
    rw (
      item_again x (All-head IsWritable x xs writable) (All-head IsKnown x xs known),
      items_again xs (All-tail IsWritable x xs writable) (All-tail IsKnown x xs known),
    ) refl
