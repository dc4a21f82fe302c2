-- Each version that a drive can give is one that it accepted.
use Rattle.std.proofs.Common.{◌≡◌, ℕ, ◌+◌, Bool, true, false, ◌&&◌, not, cond, nat_eq, List, [], ◌∷◌, ◌++◌, Option, Some, None, refl, ◌∙◌, subst, arith}
use Rattle.std.specs.List.{All, Any, Contains}
use Rattle.std.proofs.lemmas.Bool.{eqb-true, and_parts}
use Rattle.std.proofs.lemmas.List.{append_assoc}
use Rattle.std.proofs.lemmas.List.Elements.{All-nil, All-cons, All-head, All-tail, All-weaker, All-push, All-append, All-filter, Contains-append_left, Contains-append_right}
use Rattle.gd_item.specs.Inventory.{Effect, MadeFolder, PutNew, PutOver, Moved, Removed, Inventory, new_drive, made_folder, made_file, with_bytes, with_place, changed, live_at, version_in, version_of, after, after_all, inventory}
use Rattle.gd_item.specs.Sessions.{held}
use Rattle.gd_item.specs.Steps.{state_of, held_by, accepted_by}
use Rattle.gd_item.specs.Versions.{put_by, accepted_after, accepted, replaced_bytes, file_version, item_version, version_at}
use Rattle.gd_item.specs.declared.live.LiveItem.{LiveItem}
use Rattle.gd_item.specs.declared.live.Version.{Version}
use Rattle.gd_item.specs.declared.step.Step.{Step}

-- whether the version that stands in an item is among these
abbrev pub IsKnown : List Version → LiveItem → Type 0
IsKnown versions item = (bytes : List ℕ) → item.bytes ≡ Some bytes → Contains versions (record { item = item.number; content = item.content; bytes = bytes })

-- whether the versions of a drive are all among these
pub record AreKnown (held : Inventory) (versions : List Version) : Type 0 where
  pub replaced : All (Contains versions) held.replaced
  pub living : All (IsKnown versions) held.items

contains-one : {X : Type 0} (x : X) → Contains (x ∷ []) x
contains-one x = (0, omega arith, refl)

known-left : (versions more : List Version) (item : LiveItem) → IsKnown versions item → IsKnown (versions ++ more) item
known-left versions more item known bytes is = Contains-append_left versions more (record { item = item.number; content = item.content; bytes = bytes }) (known bytes is)

known-more : (held : Inventory) (versions more : List Version) → AreKnown held versions → AreKnown held (versions ++ more)
known-more held versions more known = record {
  replaced = All-weaker (Contains versions) (Contains (versions ++ more)) (λ version h. Contains-append_left versions more version h) held.replaced known.replaced;
  living = All-weaker (IsKnown versions) (IsKnown (versions ++ more)) (λ item h. known-left versions more item h) held.items known.living;
}

-- a new version is the last one
known-new : (versions : List Version) (item : LiveItem) (number content : ℕ) (bytes : List ℕ) → item.number ≡ number → item.content ≡ content → item.bytes ≡ Some bytes
    → IsKnown (versions ++ record { item = number; content = content; bytes = bytes } ∷ []) item
known-new versions item number content bytes is_number is_content is_bytes other is_other =
    let new : Version = record { item = number; content = content; bytes = bytes } in
    let same : record { item = number; content = content; bytes = bytes } ≡ record { item = item.number; content = item.content; bytes = other } = cc in
    subst (Contains (versions ++ new ∷ [])) same (Contains-append_right versions (new ∷ []) new (contains-one new))

-- items of which one is changed
known-changed : (Q R : LiveItem → Type 0) (number : ℕ) (f : LiveItem → LiveItem) (items : List LiveItem) → ((item : LiveItem) → Q item → R item)
    → ((item : LiveItem) → item.number ≡ number → Q item → R (f item)) → All Q items → All R (changed number f items)
known-changed Q R number f [] stays becomes all = All-nil R
known-changed Q R number f (item ∷ items) stays becomes all =
    by (nat_eq item.number number) refl (known-changed Q R number f items stays becomes (All-tail Q item items all))
  where
    by : (b : Bool) → nat_eq item.number number ≡ b → All R (changed number f items) → All R (cond b (f item ∷ items) (item ∷ changed number f items))
    by true is rest = All-cons R (f item) items (becomes item (eqb-true item.number number is) (All-head Q item items all)) (All-weaker Q R stays items (All-tail Q item items all))
    by false is rest = All-cons R item (changed number f items) (stays item (All-head Q item items all)) rest

known-in : (versions : List Version) (item : LiveItem) (bytes : Option (List ℕ)) → item.bytes ≡ bytes → IsKnown versions item → All (Contains versions) (version_in item bytes)
known-in versions item None is known = All-nil (Contains versions)
known-in versions item (Some bytes) is known =
    All-cons (Contains versions) (record { item = item.number; content = item.content; bytes = bytes }) [] (known bytes is) (All-nil (Contains versions))

known-of : (versions : List Version) (number : ℕ) (items : List LiveItem) → All (IsKnown versions) items → All (Contains versions) (version_of (live_at number items))
known-of versions number [] all = All-nil (Contains versions)
known-of versions number (item ∷ items) all = by (nat_eq item.number number) (known-of versions number items (All-tail (IsKnown versions) item items all))
  where
    by : (b : Bool) → All (Contains versions) (version_of (live_at number items)) → All (Contains versions) (version_of (cond b (Some item) (live_at number items)))
    by true rest = known-in versions item item.bytes refl (All-head (IsKnown versions) item items all)
    by false rest = rest

known-after : (held : Inventory) (effect : Effect) (versions : List Version) → AreKnown held versions → AreKnown (after held effect) (versions ++ put_by held effect)
known-after held (MadeFolder parent name) versions known =
    let more = known-more held versions [] known in
    let item : LiveItem = made_folder (held.number + 1) held.next parent name in
    record {
      replaced = more.replaced;
      living = All-push (IsKnown (versions ++ [])) held.items item more.living (λ bytes is. absurd cc);
    }
known-after held (PutNew parent name bytes) versions known =
    let put = put_by held (PutNew parent name bytes) in
    let more = known-more held versions put known in
    let item : LiveItem = made_file (held.number + 1) held.next parent name bytes in
    record {
      replaced = more.replaced;
      living = All-push (IsKnown (versions ++ put)) held.items item more.living (known-new versions item held.next (held.number + 1) bytes refl refl refl);
    }
known-after held (PutOver number bytes) versions known =
    let put = put_by held (PutOver number bytes) in
    let more = known-more held versions put known in
    record {
      replaced = All-append (Contains (versions ++ put)) held.replaced (version_of (live_at number held.items)) more.replaced (known-of (versions ++ put) number held.items more.living);
      living = known-changed (IsKnown (versions ++ put)) (IsKnown (versions ++ put)) number (with_bytes (held.number + 1) bytes) held.items (λ item h. h)
          (λ item is h. known-new versions (with_bytes (held.number + 1) bytes item) number (held.number + 1) bytes is refl refl) more.living;
    }
known-after held (Moved number parent name) versions known =
    let more = known-more held versions [] known in
    record {
      replaced = more.replaced;
      living = known-changed (IsKnown (versions ++ [])) (IsKnown (versions ++ [])) number (with_place (held.number + 1) parent name) held.items (λ item h. h) (λ item is h. h) more.living;
    }
known-after held (Removed number) versions known =
    let more = known-more held versions [] known in
    record {
      replaced = more.replaced;
      living = All-filter (λ item. not (nat_eq item.number number)) (IsKnown (versions ++ [])) held.items more.living;
    }

known-all : (held : Inventory) (effects : List Effect) (versions : List Version) → AreKnown held versions → AreKnown (after_all held effects) (versions ++ accepted_after held effects)
known-all held [] versions known = known-more held versions [] known
known-all held (effect ∷ effects) versions known =
    subst (AreKnown (after_all (after held effect) effects)) (append_assoc versions (put_by held effect) (accepted_after (after held effect) effects))
    (known-all (after held effect) effects (versions ++ put_by held effect) (known-after held effect versions known))

pub known-inventory : (effects : List Effect) → AreKnown (inventory effects) (accepted effects)
known-inventory effects = known-all new_drive effects [] (record { replaced = All-nil (Contains []); living = All-nil (IsKnown []) })

-- a replaced version that is found
found-replaced : (versions : List Version) (number content : ℕ) (bytes : List ℕ) (replaced : List Version) → All (Contains versions) replaced
    → replaced_bytes number content replaced ≡ Some bytes → Contains versions (record { item = number; content = content; bytes = bytes })
found-replaced versions number content bytes [] all = λ found. absurd cc
found-replaced versions number content bytes (version ∷ replaced) all =
    by (nat_eq version.item number && nat_eq version.content content) refl (found-replaced versions number content bytes replaced (All-tail (Contains versions) version replaced all))
  where
    by : (b : Bool) → (nat_eq version.item number && nat_eq version.content content) ≡ b → (replaced_bytes number content replaced ≡ Some bytes → Contains versions (record { item = number; content = content; bytes = bytes })) → cond b (Some version.bytes) (replaced_bytes number content replaced) ≡ Some bytes
        → Contains versions (record { item = number; content = content; bytes = bytes })
    by true is rest found =
        let parts = and_parts (nat_eq version.item number) (nat_eq version.content content) is in
        let is_item : version.item ≡ number = eqb-true version.item number parts.0 in
        let is_content : version.content ≡ content = eqb-true version.content content parts.1 in
        let is_bytes : version.bytes ≡ bytes = cc in
        let same : record { item = version.item; content = version.content; bytes = version.bytes } ≡ record { item = number; content = content; bytes = bytes } = cc in
        subst (Contains versions) same (All-head (Contains versions) version replaced all)
    by false is rest found = rest found

found-file : (versions : List Version) (content : ℕ) (bytes : List ℕ) (replaced : List Version) (item : LiveItem) (held : Option (List ℕ)) → item.bytes ≡ held → All (Contains versions) replaced
    → IsKnown versions item → file_version content replaced item held ≡ Some bytes → Contains versions (record { item = item.number; content = content; bytes = bytes })
found-file versions content bytes replaced item None is all known found = absurd cc
found-file versions content bytes replaced item (Some current) is all known found = by (nat_eq item.content content) refl found
  where
    by : (b : Bool) → nat_eq item.content content ≡ b → cond b (Some current) (replaced_bytes item.number content replaced) ≡ Some bytes
        → Contains versions (record { item = item.number; content = content; bytes = bytes })
    by true same found =
        let is_content : item.content ≡ content = eqb-true item.content content same in
        let is_bytes : item.bytes ≡ Some bytes = is ∙ found in
        let target : record { item = item.number; content = item.content; bytes = bytes } ≡ record { item = item.number; content = content; bytes = bytes } = cc in
        subst (Contains versions) target (known bytes is_bytes)
    by false same found = found-replaced versions item.number content bytes replaced all found

found-live : (versions : List Version) (number content : ℕ) (bytes : List ℕ) (replaced : List Version) (items : List LiveItem) → All (Contains versions) replaced → All (IsKnown versions) items
    → item_version content replaced (live_at number items) ≡ Some bytes → Contains versions (record { item = number; content = content; bytes = bytes })
found-live versions number content bytes replaced [] all known = λ found. absurd cc
found-live versions number content bytes replaced (item ∷ items) all known =
    by (nat_eq item.number number) refl (found-live versions number content bytes replaced items all (All-tail (IsKnown versions) item items known))
  where
    by : (b : Bool) → nat_eq item.number number ≡ b → (item_version content replaced (live_at number items) ≡ Some bytes → Contains versions (record { item = number; content = content; bytes = bytes })) → item_version content replaced (cond b (Some item) (live_at number items)) ≡ Some bytes
        → Contains versions (record { item = number; content = content; bytes = bytes })
    by true same rest found =
        let P : ℕ → Type 0 = λ n. Contains versions (record { item = n; content = content; bytes = bytes }) in
        subst P (eqb-true item.number number same)
        (found-file versions content bytes replaced item item.bytes refl all (All-head (IsKnown versions) item items known) found)
    by false same rest found = rest found

any-from-contains : {X : Type 0} (xs : List X) (x : X) → Contains xs x → Any (λ y. y ≡ x) xs
any-from-contains xs x there = (there.0, x, there.1, there.2, refl)

found-held : (effects : List Effect) (number content : ℕ) (bytes : List ℕ) → version_at number content (inventory effects) ≡ Some bytes
    → Any (λ (version : Version). version ≡ record { item = number; content = content; bytes = bytes }) (accepted effects)
found-held effects number content bytes found =
    let known = known-inventory effects in
    any-from-contains (accepted effects) (record { item = number; content = content; bytes = bytes })
    (found-live (accepted effects) number content bytes (inventory effects).replaced (inventory effects).items known.replaced known.living found)

pub version-log : (log : List Step) (number content : ℕ) (bytes : List ℕ) → version_at number content (held_by log) ≡ Some bytes
    → Any (λ (version : Version). version ≡ record { item = number; content = content; bytes = bytes }) (accepted_by log)
version-log log number content bytes found = found-held (state_of log).effects number content bytes found
