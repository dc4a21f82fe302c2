-- The feed past a position is the part up to the drive's number, and its first records are the part up to the last of them.
use Rattle.std.proofs.Common.{◌≡◌, ◌≢◌, ℕ, zero, suc, ◌-◌, ◌<◌, ◌≤◌, ◌⊎◌, inl, inr, Bool, true, false, cond, nat_lt, List, [], ◌∷◌, ◌++◌, length, slice_index, take, Some, None, refl, ap, sym, subst, arith}
use Rattle.std.proofs.lemmas.Bool.{cases_lt, ltb-true}
use Rattle.std.specs.List.{AllByRecursion, Any}
use Rattle.std.specs.Map.{keys_of}
use Rattle.gd_names.proofs.Each.{each-first, each-second}
use Rattle.gd_item.specs.Inventory.{Inventory}
use Rattle.gd_item.specs.Records.{record_of, root_record, deleted_record, feed, last_of}
use Rattle.gd_item.specs.Sound.{IsItemMap}
use Rattle.gd_item.specs.declared.item.Item.{Item}
use Rattle.gd_item.specs.declared.live.LiveItem.{LiveItem}
use Rattle.gd_item.specs.declared.live.Tombstone.{Tombstone}
use Rattle.gd_item.proofs.LogsFeed.{feed-pages}
use Rattle.gd_laws.specs.Changes.{IsEntry}
use Rattle.gd_laws.specs.EveryDrive.{IsGone}
use Rattle.gd_laws.proofs.Feeds.{feed-each, feed-entries, feed-once}
use Rattle.gd_laws.proofs.Marks.{IsLiving, IsMarked}
use Rattle.gd_laws.proofs.Members.{SomeOf, Has, Paired, some-so, some-left, some-cases, some-from-any, any-from-some, each-has, has-some, contains-from-has, has-from-contains, paired}
use Rattle.od_pages.proofs.Fed.{IsPart}

-- ---- pairs of two lists
module _ {X : Type 0} where
  paired-first : (R : X → X → Type 0) (xs ys : List X) → Paired R (xs ++ ys) → Paired R xs
  paired-first R [] ys pairs = tt
  paired-first R (x ∷ xs) ys pairs = (each-first (R x) xs ys pairs.0, paired-first R xs ys pairs.1)

  paired-over : (R : X → X → Type 0) (xs ys : List X) (x y : X) → Paired R (xs ++ ys) → Has x xs → Has y ys → R x y
  paired-over R [] ys x y pairs first second = absurd first
  paired-over R (z ∷ xs) ys x y pairs (inl same) second = subst (λ w. R w y) (sym same) (each-has (R z) y ys (each-second (R z) xs ys pairs.0) second)
  paired-over R (z ∷ xs) ys x y pairs (inr later) second = paired-over R xs ys x y pairs.1 later second

-- ---- where an entry stands
module _ (held : Inventory) (marked : IsMarked held) (position start : ℕ) (e : ℕ × Item) where
  abbrev IsLivingOf : LiveItem → Type 0
  IsLivingOf item = (position < item.change) × (e ≡ (item.change, record_of held.items item))

  abbrev IsStoneOf : Tombstone → Type 0
  IsStoneOf stone = (position < stone.change) × (start < stone.change) × (e ≡ (stone.change, deleted_record stone))

  within-entry : IsEntry held position start e → (position < e.0) × (e.0 ≤ held.number)
  within-entry (inl root) =
      let at : e.0 ≡ 1 = ap (λ (x : ℕ × Item). x.0) root.1 in
      let begun : 0 < held.number = marked.begun in
      (omega (arith, root.0, at), omega (arith, begun, at))
  within-entry (inr (inl living)) =
      let one = has-some IsLivingOf held.items (some-from-any IsLivingOf held.items living) in
      let at : e.0 ≡ (one.0).change = ap (λ (x : ℕ × Item). x.0) (one.2).1 in
      let late : position < (one.0).change = (one.2).0 in
      let done : (one.0).change ≤ held.number = (each-has (IsLiving held) one.0 held.items marked.living one.1).done in
      (omega (arith, late, at), omega (arith, done, at))
  within-entry (inr (inr removed)) =
      let one = has-some IsStoneOf held.removed (some-from-any IsStoneOf held.removed removed) in
      let at : e.0 ≡ (one.0).change = ap (λ (x : ℕ × Item). x.0) (one.2).2 in
      let late : position < (one.0).change = (one.2).0 in
      let done : (one.0).change ≤ held.number = (each-has (IsGone held) one.0 held.removed marked.gone one.1).done in
      (omega (arith, late, at), omega (arith, done, at))

  -- it is an entry past each number that it is past
  later-entry : (last : ℕ) → last < e.0 → IsEntry held position start e → IsEntry held last start e
  later-entry last past (inl root) =
      let at : e.0 ≡ 1 = ap (λ (x : ℕ × Item). x.0) root.1 in
      inl (omega (arith, past, at), root.1)
  later-entry last past (inr (inl living)) =
      inr
      (inl (any-from-some (λ (item : LiveItem). (last < item.change) × (e ≡ (item.change, record_of held.items item))) held.items
      (some-so IsLivingOf (λ (item : LiveItem). (last < item.change) × (e ≡ (item.change, record_of held.items item)))
      (λ item is. (let at : e.0 ≡ item.change = ap (λ (x : ℕ × Item). x.0) is.1 in omega (arith, past, at), is.1))
      held.items (some-from-any IsLivingOf held.items living))))
  later-entry last past (inr (inr removed)) =
      inr
      (inr (any-from-some (λ (stone : Tombstone). (last < stone.change) × (start < stone.change) × (e ≡ (stone.change, deleted_record stone))) held.removed
      (some-so IsStoneOf (λ (stone : Tombstone). (last < stone.change) × (start < stone.change) × (e ≡ (stone.change, deleted_record stone)))
      (λ stone is. (let at : e.0 ≡ stone.change = ap (λ (x : ℕ × Item). x.0) is.2 in omega (arith, past, at), is.1, is.2))
      held.removed (some-from-any IsStoneOf held.removed removed))))

-- ---- the number of the last record
key-at : (P : ℕ → Type 0) (n : ℕ) (entries : List (ℕ × Item)) → AllByRecursion (λ (e : ℕ × Item). P e.0) entries → n < length entries → P (slice_index (keys_of entries) n)
key-at P n [] all lt = absurd (omega (arith, lt))
key-at P zero (entry ∷ entries) all lt = all.0
key-at P (suc n) (entry ∷ entries) all lt = key-at P n entries all.1 (omega (arith, lt))

last-if : (b : Bool) (n last : ℕ) → cond b (Some n) None ≡ Some last → (b ≡ true) × (n ≡ last)
last-if true n last is = (refl, cc is)
last-if false n last is = absurd (cc is)

pub last-within : (held : Inventory) (sound : IsItemMap held) (marked : IsMarked held) (position start size last : ℕ) → last_of size (feed held position start) ≡ Some last → (position < last) × (last ≤ held.number)
last-within held sound marked position start size last is =
    let parts = last-if (nat_lt size (length (feed held position start))) (slice_index (keys_of (feed held position start)) (size - 1)) last is in
    let more : size < length (feed held position start) = ltb-true size (length (feed held position start)) parts.0 in
    subst (λ (n : ℕ). (position < n) × (n ≤ held.number)) parts.1
    (key-at (λ (n : ℕ). (position < n) × (n ≤ held.number)) (size - 1) (feed held position start)
    (feed-each held sound marked position start (λ (e : ℕ × Item). (position < e.0) × (e.0 ≤ held.number)) (within-entry held marked position start)) (omega (arith, more)))

-- ---- the feed
module _ (held : Inventory) (sound : IsItemMap held) (marked : IsMarked held) (start : ℕ) where
  abbrev AreTwo : ℕ × Item → ℕ × Item → Type 0
  AreTwo x y = x.1.id ≢ y.1.id

  in-feed : (position : ℕ) (e : ℕ × Item) → IsEntry held position start e → Has e (feed held position start)
  in-feed position e is = has-from-contains e (feed held position start) ((feed-entries held sound marked position start e).1 is)

  from-feed : (position : ℕ) (e : ℕ × Item) → Has e (feed held position start) → IsEntry held position start e
  from-feed position e has = (feed-entries held sound marked position start e).0 (contains-from-has e (feed held position start) has)

  apart-feed : (position : ℕ) → Paired AreTwo (feed held position start)
  apart-feed position = paired AreTwo (feed held position start) (feed-once held sound marked position start)

  pub whole-part : (position : ℕ) → IsPart held position start held.number (feed held position start)
  whole-part position = record {
    has = λ e is low. in-feed position e is;
    is_of = λ e has. (from-feed position e has, (within-entry held marked position start e (from-feed position e has)).1);
    once = apart-feed position;
  }

  pub first-part : (position size last : ℕ) → 0 < size → last_of size (feed held position start) ≡ Some last → IsPart held position start last (take size (feed held position start))
  first-part position size last some is =
      let split : feed held position start ≡ take size (feed held position start) ++ feed held last start = feed-pages held position start size last some is in
      let apart : Paired AreTwo (take size (feed held position start) ++ feed held last start) = subst (Paired AreTwo) split (apart-feed position) in
      record {
        has = λ e entry low.
            elim (some-cases (λ (f : ℕ × Item). e ≡ f) (take size (feed held position start)) (feed held last start) (subst (Has e) split (in-feed position e entry))) as (λ c. Has e (take size (feed held position start))) [
              | inl first ↦ first
              | inr later ↦
                  let past : last < e.0 = (within-entry held marked last start e (from-feed last e later)).0 in
                  absurd (omega (arith, past, low))
            ];
        is_of = λ e has.
            let whole : Has e (feed held position start) =
            subst (Has e) (sym split) (some-left (λ (f : ℕ × Item). e ≡ f) (take size (feed held position start)) (feed held last start) has) in
            let entry : IsEntry held position start e = from-feed position e whole in (
              entry,
              elim (cases_lt last e.0) as (λ c. e.0 ≤ last) [
                | inl past ↦
                    absurd
                    (paired-over AreTwo (take size (feed held position start)) (feed held last start) e e apart has (in-feed last e (later-entry held marked position start e last past entry)) refl)
                | inr low ↦ low
              ],
            );
        once = paired-first AreTwo (take size (feed held position start)) (feed held last start) apart;
      }
