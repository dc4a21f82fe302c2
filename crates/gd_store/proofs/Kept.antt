-- What holds of a store's items and tombstones holds after each step.
use Rattle.std.proofs.Common.{◌≡◌, ◌≢◌, ℕ, ◌+◌, ◌<◌, ◌≤◌, Bool, true, false, not, ◌&&◌, cond, nat_eq, nat_lt, List, [], ◌∷◌, ◌++◌, length, map, find, get_or, Option, Some, None, refl, sym, ap, ◌∙◌, subst, arith, append-nil}
use Rattle.std.specs.List.{All, AllPairs, AllByRecursion}
use Rattle.std.specs.Option.{option_map}
use Rattle.std.proofs.lemmas.Bool.Decides.{nat_tests}
use Rattle.std.proofs.lemmas.List.{length_push}
use Rattle.std.proofs.lemmas.List.Elements.{All-cons, All-filter, All-head, All-nil, All-push, All-tail, All-weaker}
use Rattle.std.proofs.lemmas.List.Kept.{AllPairs-filter}
use Rattle.std.proofs.lemmas.List.Quantifiers.{all_pairs_push}
use Rattle.gd_names.specs.Caseless.{equal_caseless}
use Rattle.gd_names.specs.declared.conflict.Conflict.{Conflict}
use Rattle.gd_names.specs.declared.conflict.Settle.{Settle}
use Rattle.gd_names.specs.declared.conflict.Settle.TheVariants.{Free, Over}
use Rattle.gd_names.proofs.Each.{AllPairs-head, AllPairs-tail, each, each-first}
use Rattle.gd_names.proofs.Small.{clear, not-root, un-not}
use Rattle.gd_item.specs.Inventory.{Inventory, Effect, MadeFolder, PutNew, PutOver, Moved, Removed, new_drive, after, after_all, changed, made_file, tombstone_of, live_at, with_bytes, with_place}
use Rattle.gd_item.specs.Moves.{new_parent, new_name, is_taken_by_other, patch_refusal, removal_order, remove_refusal}
use Rattle.gd_item.specs.Nodes.{Node, live_node, child_at, is_folder, is_same_parent, is_twin}
use Rattle.gd_item.specs.Refusals.{is_there, settled_in, folder_effect, make_folder_refusal, put_over_refusal}
use Rattle.gd_item.specs.Sound.{IsItemMap, IsWithin}
use Rattle.gd_item.specs.Trees.{nodes_of}
use Rattle.gd_item.specs.declared.condition.Condition.{Condition}
use Rattle.gd_item.specs.declared.live.LiveItem.{LiveItem}
use Rattle.gd_item.specs.declared.live.Tombstone.{Tombstone}
use Rattle.gd_item.specs.declared.live.Version.{Version}
use Rattle.gd_item.proofs.Moving.{sound-moved}
use Rattle.gd_item.proofs.Removing.{sound-removed-all}
use Rattle.gd_item.proofs.Soundness.{sound-new, sound-over}
use Rattle.gd_laws.proofs.Allowed.{MayPut}
use Rattle.gd_laws.proofs.Found.{make-finds}
use Rattle.gd_laws.proofs.Orderly.{tree-after}
use Rattle.gd_store.specs.Kept.{AreApart, IsNumbered, IsKept}
use Rattle.gd_store.specs.Moved.{left_after, stones_of, without}
use Rattle.gd_store.specs.Stands.{pruned}
use Rattle.gd_store.proofs.Moves.{changed-long}
use Rattle.gd_store.proofs.Removals.{removed-all}
use Rattle.gd_store.proofs.Sounds.{under-sound}
use Rattle.gd_store.proofs.Steps.{sound-pruned}

pub apart-of : (held : Inventory) → IsKept held → AreApart held.items
apart-of held kept = record {
  above = All-weaker (IsWithin held) (λ (x : LiveItem). 1 < x.number) (λ x w. w.above) held.items kept.map.within;
  rise = kept.map.numbers;
  told_apart = kept.map.told_apart;
}

positive : (held : Inventory) → IsKept held → 0 < held.number
positive held kept =
    let a : 1 < held.next = kept.numbered.begun in
    let b : held.next ≤ held.number + 1 = kept.numbered.given in
    omega arith

pub kept-new : IsKept new_drive
kept-new = record {
  few = omega arith;
  numbered = record { begun = omega arith; given = omega arith; rise = λ i j d lt end. absurd (omega arith); done = All-nil (λ (stone : Tombstone). stone.change ≤ 1) };
  map = sound-new;
}

-- ---- numbers and tombstones
abbrev Later : Tombstone → Tombstone → Type 0
Later x y = x.change < y.change

abbrev Done : ℕ → Tombstone → Type 0
Done number stone = stone.change ≤ number

done-more : (number : ℕ) (stones : List Tombstone) → All (Done number) stones → All (Done (number + 1)) stones
done-more number stones done = All-weaker (Done number) (Done (number + 1)) (λ stone le. let l : stone.change ≤ number = le in omega arith) stones done

stone-rise : (number : ℕ) (stones : List Tombstone) (found : Option LiveItem) → AllPairs Later stones → All (Done number) stones → AllPairs Later (stones ++ tombstone_of (number + 1) found)
stone-rise number stones None rise done = subst (AllPairs Later) (sym (append-nil stones)) rise
stone-rise number stones (Some item) rise done =
    let stone : Tombstone = record { number = item.number; parent = item.parent; change = number + 1 } in
    all_pairs_push Later stones stone rise (λ k d lt. let le : (get_or stones k d).change ≤ number = done k d lt in omega arith)

stone-done : (number : ℕ) (stones : List Tombstone) (found : Option LiveItem) → All (Done number) stones → All (Done (number + 1)) (stones ++ tombstone_of (number + 1) found)
stone-done number stones None done = subst (All (Done (number + 1))) (sym (append-nil stones)) (done-more number stones done)
stone-done number stones (Some item) done =
    let stone : Tombstone = record { number = item.number; parent = item.parent; change = number + 1 } in
    All-push (Done (number + 1)) stones stone (done-more number stones done) (omega arith)

numbered-after : (held : Inventory) (effect : Effect) → IsNumbered held → IsNumbered (after held effect)
numbered-after held (MadeFolder parent name) n =
    let a : 1 < held.next = n.begun in
    let b : held.next ≤ held.number + 1 = n.given in
    record { begun = omega arith; given = omega arith; rise = n.rise; done = done-more held.number held.removed n.done }
numbered-after held (PutNew parent name bytes) n =
    let a : 1 < held.next = n.begun in
    let b : held.next ≤ held.number + 1 = n.given in
    record { begun = omega arith; given = omega arith; rise = n.rise; done = done-more held.number held.removed n.done }
numbered-after held (PutOver number bytes) n =
    let b : held.next ≤ held.number + 1 = n.given in
    record { begun = n.begun; given = omega arith; rise = n.rise; done = done-more held.number held.removed n.done }
numbered-after held (Moved number parent name) n =
    let b : held.next ≤ held.number + 1 = n.given in
    record { begun = n.begun; given = omega arith; rise = n.rise; done = done-more held.number held.removed n.done }
numbered-after held (Removed number) n =
    let b : held.next ≤ held.number + 1 = n.given in
    record {
      begun = n.begun;
      given = omega arith;
      rise = stone-rise held.number held.removed (live_at number held.items) n.rise n.done;
      done = stone-done held.number held.removed (live_at number held.items) n.done;
    }

numbered-all : (held : Inventory) (effects : List Effect) → IsNumbered held → IsNumbered (after_all held effects)
numbered-all held [] n = n
numbered-all held (effect ∷ effects) n = numbered-all (after held effect) effects (numbered-after held effect n)

-- ---- a step is done
pub kept-step : (new old : Inventory) (effect : Effect) → IsKept old → IsItemMap (after old effect) → length (after old effect).items < 100000 → new ≡ after old effect → IsKept new
kept-step new old effect kept map few is = subst IsKept (sym is) (record { few = few; numbered = numbered-after old effect kept.numbered; map = map })

fewer-without : (number : ℕ) (items : List LiveItem) → length (without number items) ≤ length items
fewer-without number [] = omega arith
fewer-without number (item ∷ items) =
    let rest : length (without number items) ≤ length items = fewer-without number items in
    elim (not (nat_eq item.number number)) as (λ b. length (cond b (item ∷ without number items) (without number items)) ≤ length (item ∷ items)) [ true ↦ omega (arith, rest) | false ↦ omega (arith, rest) ]

fewer-left : (held : Inventory) (numbers : List ℕ) → length (after_all held (map Removed numbers)).items ≤ length held.items
fewer-left held [] = omega arith
fewer-left held (number ∷ numbers) =
    let one : length (without number held.items) ≤ length held.items = fewer-without number held.items in
    let rest : length (after_all (after held (Removed number)) (map Removed numbers)).items ≤ length (without number held.items) = fewer-left (after held (Removed number)) numbers in
    omega (arith, one, rest)

pub kept-removals : (new old : Inventory) (numbers : List ℕ) → IsKept old → IsItemMap (after_all old (map Removed numbers)) → new ≡ after_all old (map Removed numbers) → IsKept new
kept-removals new old numbers kept tree is =
    let few : length old.items < 100000 = kept.few in
    let fewer : length (after_all old (map Removed numbers)).items ≤ length old.items = fewer-left old numbers in
    subst IsKept (sym is) (record { few = omega (arith, few, fewer); numbered = numbered-all old (map Removed numbers) kept.numbered; map = tree })

pub kept-pruned : (floor : ℕ) (held : Inventory) → IsKept held → IsKept (pruned floor held)
kept-pruned floor held kept =
    let keep : Tombstone → Bool = λ stone. nat_lt floor stone.change in
    record {
      few = kept.few;
      numbered = record {
        begun = kept.numbered.begun;
        given = kept.numbered.given;
        rise = AllPairs-filter Later keep held.removed kept.numbered.rise;
        done = All-filter keep (Done held.number) held.removed kept.numbered.done;
      };
      map = sound-pruned floor held kept.map;
    }

-- ---- an item that stands behind the others of a tree may be put there
last-of : {X : Type 0} (R : X → X → Type 0) (xs : List X) (y : X) → AllPairs R (xs ++ y ∷ []) → All (λ x. R x y) xs
last-of R [] y pairs = All-nil (λ x. R x y)
last-of R (x ∷ xs) y pairs = All-cons (λ z. R z y) x xs (last-in (R x) xs y (AllPairs-head R x (xs ++ y ∷ []) pairs)) (last-of R xs y (AllPairs-tail R x (xs ++ y ∷ []) pairs))
  where
    last-in : {X : Type 0} (P : X → Type 0) (xs : List X) (y : X) → All P (xs ++ y ∷ []) → P y
    last-in P [] y all = All-head P y [] all
    last-in P (x ∷ xs) y all = last-in P xs y (All-tail P x (xs ++ y ∷ []) all)

pub record MayPush (items : List LiveItem) (item : LiveItem) : Type 0 where
  pub above : All (λ (x : LiveItem). x.number < item.number) items
  pub fresh : All (λ (x : LiveItem). x.change ≢ item.change) items
  pub free : child_at item.parent item.name (map live_node items) ≡ None

last-off : (a b c d e : Bool) → a ≡ true → b ≡ true → c ≡ true → (a && b && c && d && e) ≡ false → (d && e) ≡ false
last-off a b c d e p q r off = sym (ap (λ t. t && b && c && d && e) p ∙ ap (λ t. t && c && d && e) q ∙ ap (λ t. t && d && e) r) ∙ off

abbrev NoTwin : LiveItem → LiveItem → Type 0
NoTwin item x = (x.number < item.number) × (1 < x.number) × (is_twin (live_node item) (live_node x) ≡ false)

none-named : (item : LiveItem) (items : List LiveItem) → AllByRecursion (NoTwin item) items
    → option_map (λ (node : Node). node.number) (find (λ (node : Node). is_same_parent node.parent (Some item.parent) && equal_caseless node.name item.name) (map live_node items)) ≡ None
none-named item [] all = refl
none-named item (x ∷ items) all =
    let lt : x.number < item.number = all.0.0 in
    let first : nat_lt x.number item.number ≡ true = grind (arith, nat_tests) in
    let second : not (nat_eq x.number 1) ≡ true = ap not (not-root x.number all.0.1) in
    let third : not (nat_eq item.number 1) ≡ true = ap not (not-root item.number (let above : 1 < x.number = all.0.1 in omega arith)) in
    let off : (nat_eq x.parent item.parent && equal_caseless x.name item.name) ≡ false =
    last-off (nat_lt x.number item.number) (not (nat_eq x.number 1)) (not (nat_eq item.number 1)) (nat_eq x.parent item.parent) (equal_caseless x.name item.name) first second third all.0.2 in
    ap (λ b. option_map (λ (node : Node). node.number) (cond b (Some (live_node x)) (find (λ (node : Node). is_same_parent node.parent (Some item.parent) && equal_caseless node.name item.name) (map live_node items)))) off
    ∙ none-named item items all.1

pub may-push : (grown : Inventory) (items : List LiveItem) (item : LiveItem) → grown.items ≡ items ++ item ∷ [] → IsItemMap grown → MayPush items item
may-push grown items item is tree =
    let all : List LiveItem = items ++ item ∷ [] in
    let Rise : LiveItem → LiveItem → Type 0 = λ x y. x.number < y.number in
    let Fresh : LiveItem → LiveItem → Type 0 = λ x y. x.change ≢ y.change in
    let Apart : LiveItem → LiveItem → Type 0 = λ x y. is_twin (live_node y) (live_node x) ≡ false in
    let above : All (λ (x : LiveItem). x.number < item.number) items = last-of Rise items item (subst (AllPairs Rise) is tree.numbers) in
    let within : All (λ (x : LiveItem). 1 < x.number) all = subst (All (λ (x : LiveItem). 1 < x.number)) is (All-weaker (IsWithin grown) (λ (x : LiveItem). 1 < x.number) (λ x w. w.above) grown.items tree.within) in
    let twins : All (λ (x : LiveItem). Apart x item) items = last-of Apart items item (subst (AllPairs Apart) is tree.told_apart) in
    record {
      above = above;
      fresh = last-of Fresh items item (subst (AllPairs Fresh) is tree.changes);
      free = none-named item items (each-three item items (each (λ (x : LiveItem). x.number < item.number) items above) (each-first (λ (x : LiveItem). 1 < x.number) items (item ∷ []) (each (λ (x : LiveItem). 1 < x.number) all within))
          (each (λ (x : LiveItem). Apart x item) items twins));
    }
  where
    each-three : (item : LiveItem) (items : List LiveItem) → AllByRecursion (λ (x : LiveItem). x.number < item.number) items → AllByRecursion (λ (x : LiveItem). 1 < x.number) items
        → AllByRecursion (λ (x : LiveItem). is_twin (live_node item) (live_node x) ≡ false) items → AllByRecursion (NoTwin item) items
    each-three item [] a b c = tt
    each-three item (x ∷ items) a b c = ((a.0, b.0, c.0), each-three item items a.1 b.1 c.1)

-- no item has the next change number
pub fresh-next : (held : Inventory) (change : ℕ) → IsKept held → change ≡ held.number + 1 → All (λ (x : LiveItem). x.change ≢ change) held.items
fresh-next held change kept is =
    All-weaker (IsWithin held) (λ (x : LiveItem). x.change ≢ change) (λ x w same. let le : x.change ≤ held.number = w.done in absurd (omega arith)) held.items kept.map.within

-- ---- what is not refused leaves a tree
pub make-map : (held : Inventory) (parent : ℕ) (name free : List ℕ) (behaviour : Conflict) → IsKept held → settled_in held parent name behaviour true ≡ Free free → None ≡ make_folder_refusal held parent name behaviour
    → IsItemMap (after held (MadeFolder parent free))
make-map held parent name free behaviour kept is allowed =
    let P : Settle → Type 0 = λ settle. IsItemMap (after held (folder_effect parent name settle)) in
    subst P is (tree-after held (folder_effect parent name (settled_in held parent name behaviour true)) kept.map kept.numbered.begun (positive held kept) (make-finds held parent name behaviour allowed).1)

pub new-map : (held : Inventory) (parent : ℕ) (name free bytes : List ℕ) (behaviour : Conflict) (others : ℕ) (settle : Settle) → IsKept held → settled_in held parent name behaviour false ≡ settle → settle ≡ Free free
    → MayPut held parent name bytes others settle → (copy : List ℕ) → copy ≡ bytes → IsItemMap (after held (PutNew parent free copy))
new-map held parent name free bytes behaviour others settle kept is free-is may copy same =
    let P : Settle → Type 0 = λ s. MayPut held parent name bytes others s in
    subst (λ (b : List ℕ). IsItemMap (after held (PutNew parent free b))) (sym same)
    (under-sound held parent name bytes behaviour others (Free free) kept.map kept.numbered.begun (positive held kept) (is ∙ free-is) (subst P free-is may))

pub under-map : (held : Inventory) (parent : ℕ) (name bytes : List ℕ) (behaviour : Conflict) (others number : ℕ) (settle : Settle) → IsKept held → settled_in held parent name behaviour false ≡ settle → settle ≡ Over number
    → MayPut held parent name bytes others settle → (copy : List ℕ) → copy ≡ bytes → IsItemMap (after held (PutOver number copy))
under-map held parent name bytes behaviour others number settle kept is over-is may copy same =
    let P : Settle → Type 0 = λ s. MayPut held parent name bytes others s in
    subst (λ (b : List ℕ). IsItemMap (after held (PutOver number b))) (sym same)
    (under-sound held parent name bytes behaviour others (Over number) kept.map kept.numbered.begun (positive held kept) (is ∙ over-is) (subst P over-is may))

pub over-file : (held : Inventory) (number : ℕ) (bytes : List ℕ) (condition : Condition) (others : ℕ) → put_over_refusal held number bytes condition others ≡ None → is_folder number (nodes_of held) ≡ false
over-file held number bytes condition others allowed = (clear _ _ _ (clear _ _ _ (sym allowed)).1).0

pub over-map : (held : Inventory) (number : ℕ) (bytes : List ℕ) (condition : Condition) (others : ℕ) → IsKept held → put_over_refusal held number bytes condition others ≡ None → (copy : List ℕ) → IsItemMap (after held (PutOver number copy))
over-map held number bytes condition others kept allowed copy = sound-over held number copy kept.map (positive held kept) (over-file held number bytes condition others allowed)

pub record MayPlace (held : Inventory) (number parent : ℕ) (name : List ℕ) : Type 0 where
  pub there : is_there number (nodes_of held) ≡ true
  pub not_root : nat_eq number 1 ≡ false
  pub free : is_taken_by_other number parent name held.items ≡ false
  pub map : IsItemMap (after held (Moved number parent name))

may-place-so : (held : Inventory) (number : ℕ) (name : Option (List ℕ)) (parent : Option ℕ) (condition : Condition) → IsKept held → patch_refusal held number name parent condition ≡ None
    → MayPlace held number (new_parent held number parent) (new_name held number name)
may-place-so held number name parent condition kept allowed =
    let a = clear _ _ _ (sym allowed) in
    let b = clear _ _ _ a.1 in
    let c = clear _ _ _ b.1 in
    let d = clear _ _ _ c.1 in
    let e = clear _ _ _ d.1 in
    let f = clear _ _ _ e.1 in
    let g = clear _ _ _ f.1 in
    let h = clear _ _ _ g.1 in
    record {
      there = un-not _ a.0;
      not_root = b.0;
      free = h.0;
      map = sound-moved held number (new_parent held number parent) (new_name held number name) kept.map (positive held kept) b.0 (un-not _ d.0) (un-not _ e.0) g.0 h.0;
    }

pub may-place : (held : Inventory) (number : ℕ) (name : Option (List ℕ)) (parent : Option ℕ) (condition : Condition) (to : ℕ) (named : List ℕ) → IsKept held → patch_refusal held number name parent condition ≡ None
    → to ≡ new_parent held number parent → named ≡ new_name held number name → MayPlace held number to named
may-place held number name parent condition to named kept allowed to-is named-is =
    subst (λ (n : ℕ). MayPlace held number n named) (sym to-is)
    (subst (λ (n : List ℕ). MayPlace held number (new_parent held number parent) n) (sym named-is) (may-place-so held number name parent condition kept allowed))

pub removed-map : (held : Inventory) (number : ℕ) (condition : Condition) (order : List ℕ) → IsKept held → None ≡ remove_refusal held number condition → order ≡ removal_order held number → IsItemMap (after_all held (map Removed order))
removed-map held number condition order kept allowed is =
    let a = clear _ _ _ allowed in
    let b = clear _ _ _ a.1 in
    subst (λ (ns : List ℕ). IsItemMap (after_all held (map Removed ns))) (sym is) (sound-removed-all held number kept.map (positive held kept) b.0)

-- ---- what is kept does not hang on versions and bytes
with-others : (held : Inventory) (replaced : List Version) (kept : ℕ) → IsKept held → IsKept (record held { replaced = replaced; kept = kept })
with-others held replaced kept k = record {
  few = k.few;
  numbered = record { begun = k.numbered.begun; given = k.numbered.given; rise = k.numbered.rise; done = k.numbered.done };
  map = record {
    within = All-weaker (IsWithin held) (IsWithin (record held { replaced = replaced; kept = kept })) (λ item w. record { above = w.above; below = w.below; later = w.later; done = w.done }) held.items k.map.within;
    numbers = k.map.numbers;
    changes = k.map.changes;
    led = k.map.led;
    told_apart = k.map.told_apart;
  };
}

-- a file has other bytes, an item another place, and items are gone
pub kept-over : (held view : Inventory) (number : ℕ) (bytes : List ℕ) (items : List LiveItem) (replaced : List Version) (kept : ℕ) → view ≡ held → IsKept view → IsItemMap (after held (PutOver number bytes))
    → items ≡ changed number (with_bytes (view.number + 1) bytes) view.items → IsKept (record { number = view.number + 1; next = view.next; items = items; removed = view.removed; replaced = replaced; kept = kept })
kept-over held view number bytes items replaced kept same stood tree is =
    let few : length view.items < 100000 = stood.few in
    let long : length (changed number (with_bytes (view.number + 1) bytes) view.items) ≡ length view.items = changed-long number (with_bytes (view.number + 1) bytes) view.items in
    let step : IsKept (after view (PutOver number bytes)) =
    kept-step (after view (PutOver number bytes)) view (PutOver number bytes) stood (subst (λ (h : Inventory). IsItemMap (after h (PutOver number bytes))) (sym same) tree) (omega (arith, few, long)) refl in
    subst (λ (xs : List LiveItem). IsKept (record { number = view.number + 1; next = view.next; items = xs; removed = view.removed; replaced = replaced; kept = kept })) (sym is)
    (with-others (after view (PutOver number bytes)) replaced kept step)

pub kept-moved : (held view : Inventory) (number parent : ℕ) (name : List ℕ) (items : List LiveItem) → view ≡ held → IsKept view → IsItemMap (after held (Moved number parent name))
    → items ≡ changed number (with_place (view.number + 1) parent name) view.items → IsKept (record view { number = view.number + 1; items = items })
kept-moved held view number parent name items same stood tree is =
    let few : length view.items < 100000 = stood.few in
    let long : length (changed number (with_place (view.number + 1) parent name) view.items) ≡ length view.items = changed-long number (with_place (view.number + 1) parent name) view.items in
    let step : IsKept (after view (Moved number parent name)) =
    kept-step (after view (Moved number parent name)) view (Moved number parent name) stood (subst (λ (h : Inventory). IsItemMap (after h (Moved number parent name))) (sym same) tree) (omega (arith, few, long)) refl in
    subst (λ (xs : List LiveItem). IsKept (record view { number = view.number + 1; items = xs })) (sym is) step

pub kept-gone : (held view : Inventory) (numbers : List ℕ) (items : List LiveItem) (removed stones : List Tombstone) → view ≡ held → IsKept view → IsItemMap (after_all held (map Removed numbers))
    → items ≡ left_after numbers view.items → stones ≡ view.removed → removed ≡ stones ++ stones_of view.number numbers view.items
    → IsKept (record view { number = view.number + length numbers; items = items; removed = removed })
kept-gone held view numbers items removed stones same stood tree are stay go =
    kept-removals (record view { number = view.number + length numbers; items = items; removed = removed }) view numbers stood (subst (λ (h : Inventory). IsItemMap (after_all h (map Removed numbers))) (sym same) tree)
    (ap (λ (xs : List LiveItem). record view { number = view.number + length numbers; items = xs; removed = removed }) are
    ∙ ap (λ (xs : List Tombstone). record view { number = view.number + length numbers; items = left_after numbers view.items; removed = xs }) (go ∙ ap (λ (xs : List Tombstone). xs ++ stones_of view.number numbers view.items) stay)
    ∙ sym (removed-all view numbers))

pub kept-file : (held view : Inventory) (parent : ℕ) (name bytes : List ℕ) (items : List LiveItem) (kept : ℕ) → view ≡ held → IsKept view → length held.items + 1 < 100000 → IsItemMap (after held (PutNew parent name bytes))
    → items ≡ view.items ++ made_file (view.number + 1) view.next parent name bytes ∷ []
    → IsKept (record { number = view.number + 1; next = view.next + 1; items = items; removed = view.removed; replaced = view.replaced; kept = kept })
kept-file held view parent name bytes items kept same stood room tree is =
    let room_too : length view.items + 1 < 100000 = subst (λ (h : Inventory). length h.items + 1 < 100000) (sym same) room in
    let long : length (view.items ++ made_file (view.number + 1) view.next parent name bytes ∷ []) ≡ length view.items + 1 = length_push view.items (made_file (view.number + 1) view.next parent name bytes) in
    let step : IsKept (after view (PutNew parent name bytes)) =
    kept-step (after view (PutNew parent name bytes)) view (PutNew parent name bytes) stood (subst (λ (h : Inventory). IsItemMap (after h (PutNew parent name bytes))) (sym same) tree) (omega (arith, room_too, long)) refl in
    subst (λ (xs : List LiveItem). IsKept (record { number = view.number + 1; next = view.next + 1; items = xs; removed = view.removed; replaced = view.replaced; kept = kept })) (sym is)
    (with-others (after view (PutNew parent name bytes)) view.replaced kept step)
