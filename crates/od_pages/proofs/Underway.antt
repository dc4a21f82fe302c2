-- What was pulled of a drive so far is what the drive has as far as a position: that stays while the drive's log grows, and goes on
-- by each page, up to the drive's number where the page is the last.
use Rattle.std.proofs.Common.{◌≡◌, ℕ, zero, suc, ◌-◌, ◌+◌, ◌^◌, ◌<◌, ◌≤◌, inl, inr, Bool, true, false, ◌&&◌, ◌||◌, not, cond, nat_eq, nat_lt, List, [], ◌∷◌, ◌++◌, map, max, take, drop, length, Option, Some, None, refl, ap, sym, subst, ◌∙◌, arith}
use Rattle.std.proofs.lemmas.Bool.{cases_order, eq-eqb, le-ltb, ne_eqb}
use Rattle.std.proofs.lemmas.List.{take-append-drop, length-take-le}
use Rattle.std.proofs.lemmas.List.Folds.{list_any_none}
use Rattle.std.specs.List.{AllByRecursion, AllZip}
use Rattle.std.specs.Map.{values_of}
use Rattle.std.specs.Option.{option_map}
use Rattle.gd_names.proofs.Each.{all-each, each-so}
use Rattle.gd_names.proofs.Maps.{Both, look, Up, zip-looks}
use Rattle.gd_item.specs.Answers.{bare_item}
use Rattle.gd_item.specs.Inventory.{Effect, Inventory, inventory, after_all, live_at}
use Rattle.gd_item.specs.Pages.{page_link}
use Rattle.gd_item.specs.Records.{record_of, root_record, records_of, feed, first_of, last_of}
use Rattle.gd_item.specs.Sound.{IsItemMap}
use Rattle.gd_item.specs.Steps.{state_of, held_by, held_at, number_of}
use Rattle.gd_item.specs.Tokens.{token_text, token_of_text}
use Rattle.gd_item.specs.Views.{IsItemOf, AreItemsOf, IsPulled, TokenIs, ItemsAre}
use Rattle.gd_item.specs.declared.item.Item.{Item}
use Rattle.gd_item.specs.declared.live.LiveItem.{LiveItem}
use Rattle.gd_item.specs.declared.live.Tombstone.{Tombstone}
use Rattle.gd_item.specs.declared.reply.Page.{Page}
use Rattle.gd_item.specs.declared.reply.PageLink.{PageLink}
use Rattle.gd_item.specs.declared.reply.PageLink.TheVariants as link
use Rattle.gd_item.specs.declared.step.Step.{Step}
use Rattle.gd_item.specs.declared.token.Token.{Token}
use Rattle.gd_item.proofs.Effects.{inventory-append, number-inventory}
use Rattle.gd_item.proofs.LogsGrow.{later-log, number-log, epoch-log, plain-log}
use Rattle.gd_item.proofs.ReadTokens.{token-read}
use Rattle.gd_laws.specs.EveryDrive.{IsGone}
use Rattle.gd_laws.specs.Served.{shown_items, IsPagePast, IsLastPast}
use Rattle.gd_laws.proofs.Every.{every-drive}
use Rattle.gd_laws.proofs.Living.{of-living}
use Rattle.gd_laws.proofs.Logs.{epoch-fits, number-fits}
use Rattle.gd_laws.proofs.Marks.{IsLiving, IsMarked, is-marked}
use Rattle.gd_laws.proofs.Pages.{last-page}
use Rattle.gd_laws.proofs.Since.{IsSince, is-since, is_removal, was_removed}
use Rattle.od_mirror.specs.Pulled.{Pulled, begun, after_page, after_link, with_records}
use Rattle.od_pages.proofs.Based.{kept-base, kept-early, first-base, base-later}
use Rattle.od_pages.proofs.Early.{IsEarly, early-other, early-later, early-told, early-part}
use Rattle.od_pages.proofs.Fed.{IsOther, Shows, IsBase, IsPart, fed-base}
use Rattle.od_pages.proofs.Numbered.{numbered, values-numbered, record_at, look-numbered, above-root, up-numbered}
use Rattle.od_pages.proofs.Parts.{whole-part, first-part, last-within}
use Rattle.od_pages.proofs.Shown.{shows-whole, shows-bare}
use Rattle.od_pages.proofs.Told.{told, look-records, up-records}

-- ---- up to the drive's number it is what the drive has
no-more : (a b : Bool) → b ≡ false → (a && b) ≡ false
no-more true b is = is
no-more false b is = refl

module _ (R : Item → Item → Type 0) (held : Inventory) (marked : IsMarked held) (start n : ℕ) (before : Option Item) (base : IsBase R held held.number start n before) where
  none-past : was_removed n held.number start held.removed ≡ false
  none-past =
      list_any_none (is_removal n held.number start) held.removed
      (all-each (λ (stone : Tombstone). is_removal n held.number start stone ≡ false) held.removed
      (each-so (IsGone held) (λ (stone : Tombstone). is_removal n held.number start stone ≡ false)
      (λ stone gone.
      no-more (nat_eq stone.number n) (nat_lt held.number stone.change && nat_lt start stone.change)
      (ap (λ b. b && nat_lt start stone.change) (le-ltb held.number stone.change gone.done)))
      held.removed marked.gone))

  whole-living : (n ≡ 1 → ⊥) → (found : Option LiveItem) → live_at n held.items ≡ found → Both R before (option_map (record_of held.items) found)
  whole-living off None is = subst (λ here. Both R here None) (sym (base.gone off is none-past)) tt
  whole-living off (Some item) is = base.kept item is ((of-living (IsLiving held) n held.items item marked.living is).0).done

  pub whole-at : Both R before (record_at n held)
  whole-at =
      elim (cases_order 1 n) as (λ c. Both R before (record_at n held)) [
        | inl one ↦
            subst (λ there. Both R before there)
            (sym (ap (λ b. cond b (Some (root_record held.items)) (option_map (record_of held.items) (live_at n held.items))) (eq-eqb 1 n one)))
            (base.root (sym one) marked.begun)
        | inr apart ↦
            let off : 1 ≡ n → ⊥ = λ one. elim apart [ inl less ↦ absurd (omega (arith, one, less)) | inr more ↦ absurd (omega (arith, one, more)) ] in
            subst (λ there. Both R before there)
            (sym (ap (λ b. cond b (Some (root_record held.items)) (option_map (record_of held.items) (live_at n held.items))) (ne_eqb 1 n off)))
            (whole-living (λ one. off (sym one)) (live_at n held.items) refl)
      ]

pub whole-are : (R : Item → Item → Type 0) (held : Inventory) (marked : IsMarked held) (start : ℕ) (items : List (ℕ × Item)) → Up items → ((n : ℕ) → IsBase R held held.number start n (look n items))
    → AllZip R (values_of items) (records_of held)
whole-are R held marked start items up bases =
    subst (λ records. AllZip R (values_of items) records) (values-numbered held)
    (zip-looks R items (numbered held) up (up-numbered held marked)
    (λ n. subst (λ there. Both R (look n items) there) (sym (look-numbered n held)) (whole-at R held marked start n (look n items) (bases n))))

-- ---- one more part of a feed
bare-values : (entries : List (ℕ × Item)) → map (λ (e : ℕ × Item). bare_item e.1) entries ≡ map bare_item (values_of entries)
bare-values [] = refl
bare-values (e ∷ entries) = ap (λ more. bare_item e.1 ∷ more) (bare-values entries)

-- what is known of each number as far as a position
pub record IsAsFar (plain : Bool) (held : Inventory) (position start : ℕ) (items : List (ℕ × Item)) : Type 0 where
  pub up : Up items
  pub base : (n : ℕ) → IsBase (IsItemOf plain) held position start n (look n items)
  pub early : (n : ℕ) → IsEarly position (look n items)

module _ (plain : Bool) (held : Inventory) (marked : IsMarked held) (fits : held.number < 2 ^ 64) (position start bound : ℕ) (items : List (ℕ × Item)) (far : IsAsFar plain held position start items)
    (later : position ≤ bound) (es : List (ℕ × Item)) (part : IsPart held position start bound es) where
  others : (n : ℕ) (item : LiveItem) → live_at n held.items ≡ Some item → position < item.change → IsOther (look n items) (record_of held.items item)
  others n item live late =
      let living : IsLiving held item = (of-living (IsLiving held) n held.items item marked.living live).0 in
      let made : 1 < item.change = living.later in
      let done : item.change ≤ held.number = living.done in
      early-other position (look n items) held.items item (far.early n) late made (omega (arith, done, fits))

  module _ (f : Item → Item) (shows : Shows (IsItemOf plain) f held) (records : List Item) (are : map (λ (e : ℕ × Item). f e.1) es ≡ records) where
    known-at : (n : ℕ) → told n (look n items) (map (λ (e : ℕ × Item). f e.1) es) ≡ look n (with_records items records)
    known-at n = ap (told n (look n items)) are ∙ sym (look-records n items records far.up)

    far-shown : IsAsFar plain held bound start (with_records items records)
    far-shown = record {
      up = up-records items records far.up;
      base = λ n.
          subst (IsBase (IsItemOf plain) held bound start n) (known-at n)
          (fed-base (IsItemOf plain) f held marked position start bound shows es part n (look n items) (far.base n) (others n));
      early = λ n.
          subst (IsEarly bound) (known-at n)
          (early-told n bound (look n items) (map (λ (e : ℕ × Item). f e.1) es) (early-later position bound (look n items) later (far.early n))
          (early-part (IsItemOf plain) f held position start bound es shows part));
    }

-- as a drive shows them that is plain or not
pub far-part : (plain : Bool) (held : Inventory) (marked : IsMarked held) → held.number < 2 ^ 64 → (position start bound : ℕ) (items : List (ℕ × Item)) → IsAsFar plain held position start items → position ≤ bound
    → (es : List (ℕ × Item)) → IsPart held position start bound es → IsAsFar plain held bound start (with_records items (shown_items plain (values_of es)))
far-part false held marked fits position start bound items far later es part =
    far-shown false held marked fits position start bound items far later es part (λ item. item) (shows-whole (IsItemOf false) (λ item. inl refl) held) (values_of es) refl
far-part true held marked fits position start bound items far later es part =
    far-shown true held marked fits position start bound items far later es part bare_item (shows-bare held) (map bare_item (values_of es)) (bare-values es)

-- ---- the first records of a feed
values-take : (n : ℕ) (entries : List (ℕ × Item)) → take n (values_of entries) ≡ values_of (take n entries)
values-take zero [] = refl
values-take zero (e ∷ entries) = refl
values-take (suc n) [] = refl
values-take (suc n) (e ∷ entries) = ap (λ items. e.1 ∷ items) (values-take n entries)

-- ---- of a drive's log
pub record IsSoFar (log : List Step) (position start : ℕ) (items : List (ℕ × Item)) : Type 0 where
  pub low : position ≤ number_of log
  pub begun : start ≤ number_of log
  pub far : IsAsFar (state_of log).plain (held_by log) position start items

marked-by : (log : List Step) → IsMarked (held_by log)
marked-by log = is-marked (state_of log).effects

-- it stays so
pub so-later : (log more : List Step) (position start : ℕ) (items : List (ℕ × Item)) → IsSoFar log position start items → IsSoFar (log ++ more) position start items
so-later log more position start items so =
    let grows : (effects : List Effect) × ((state_of (log ++ more)).effects ≡ (state_of log).effects ++ effects) = (later-log log more).effects in
    let held_is : after_all (held_by log) grows.0 ≡ held_by (log ++ more) = sym (ap inventory grows.1 ∙ inventory-append (state_of log).effects grows.0) in
    record {
      low = omega (arith, so.low, number-log log more);
      begun = omega (arith, so.begun, number-log log more);
      far = record {
        up = so.far.up;
        base = λ n.
            subst (λ (held : Inventory). IsBase (IsItemOf (state_of (log ++ more)).plain) held position start n (look n items)) held_is
            (base-later (state_of log).plain (state_of (log ++ more)).plain (plain-log log more) (held_by log) grows.0 position start n (look n items) so.low so.begun (so.far.base n));
        early = so.far.early;
      };
    }

-- at the drive's number the items are the drive's
pub so-are : (log : List Step) (start : ℕ) (items : List (ℕ × Item)) → IsSoFar log (number_of log) start items → AreItemsOf (state_of log).plain (values_of items) (records_of (held_by log))
so-are log start items so = whole-are (IsItemOf (state_of log).plain) (held_by log) (marked-by log) start items so.far.up so.far.base

module _ (log : List Step) (position start : ℕ) (items : List (ℕ × Item)) (so : IsSoFar log position start items) where
  -- by a last page
  pub so-last : (page : Page) (end : List ℕ) → IsLastPast (state_of log) position start page end → IsSoFar log (number_of log) start (with_records items page.items)
  so-last page end past = record {
    low = omega arith;
    begun = so.begun;
    far =
        subst (λ records. IsAsFar (state_of log).plain (held_by log) (number_of log) start (with_records items records)) (sym past.items)
        (far-part (state_of log).plain (held_by log) (marked-by log) (number-fits log) position start (number_of log) items so.far so.low (feed (held_by log) position start)
        (whole-part (held_by log) (every-drive log).tree (marked-by log) start position));
  }

  -- by another one
  pub so-next : (page : Page) (size last : ℕ) → 0 < size → last_of size (feed (held_by log) position start) ≡ Some last → IsPagePast (state_of log) position start size page
      → IsSoFar log last start (with_records items page.items)
  so-next page size last some is past =
      let within : (position < last) × (last ≤ number_of log) =
      last-within (held_by log) (every-drive log).tree (marked-by log) position start size last is in
      let after : position < last = within.0 in
      record {
        low = within.1;
        begun = so.begun;
        far =
            subst (λ records. IsAsFar (state_of log).plain (held_by log) last start (with_records items records))
            (sym (past.items ∙ ap (shown_items (state_of log).plain) (values-take size (feed (held_by log) position start))))
            (far-part (state_of log).plain (held_by log) (marked-by log) (number-fits log) position start last items so.far (omega (arith, after)) (take size (feed (held_by log) position start))
            (first-part (held_by log) (every-drive log).tree (marked-by log) start position size last some is));
      }

-- ---- with a token
pub record IsAt (log : List Step) (text : List ℕ) (items : List (ℕ × Item)) : Type 0 where
  pub read : Token
  pub read_is : token_of_text text ≡ Some read
  pub epoch : read.epoch ≤ (state_of log).epoch
  pub so_far : IsSoFar log read.position read.start items

abbrev pub IsUnderwayAt : List Step → Option (List ℕ) → List (ℕ × Item) → Type 0
IsUnderwayAt log None items = items ≡ []
IsUnderwayAt log (Some text) items = IsAt log text items

abbrev pub IsUnderway : List Step → Pulled → Type 0
IsUnderway log pulled = IsUnderwayAt log pulled.token pulled.items

pub underway-later : (log more : List Step) (token : Option (List ℕ)) (items : List (ℕ × Item)) → IsUnderwayAt log token items → IsUnderwayAt (log ++ more) token items
underway-later log more None items is = is
underway-later log more (Some text) items is = record {
  read = is.read;
  read_is = is.read_is;
  epoch = omega (arith, is.epoch, epoch-log log more);
  so_far = so-later log more is.read.position is.read.start items is.so_far;
}

-- the text of a token with the drive's epoch and two of its numbers
pub at-token : (log : List Step) (position start : ℕ) (items : List (ℕ × Item)) → IsSoFar log position start items
    → IsAt log (token_text (record { epoch = (state_of log).epoch; position = position; start = start })) items
at-token log position start items so =
    let fits : number_of log < 2 ^ 64 = number-fits log in
    let low : position ≤ number_of log = so.low in
    let begun : start ≤ number_of log = so.begun in
    record {
      read = record { epoch = (state_of log).epoch; position = position; start = start };
      read_is = token-read (record { epoch = (state_of log).epoch; position = position; start = start }) (epoch-fits log) (omega (arith, low, fits)) (omega (arith, begun, fits));
      epoch = omega arith;
      so_far = so;
    }

-- ---- where it begins
pub first-so : (log : List Step) → IsSoFar log 0 (number_of log) []
first-so log = record {
  low = omega arith;
  begun = omega arith;
  far = record { up = tt; base = λ n. first-base (IsItemOf (state_of log).plain) (held_by log) (number_of log) n (marked-by log); early = λ n. tt };
}

effects-then : (log : List Step) (position : ℕ) → position ≤ number_of log → length (take (position - 1) (state_of log).effects) ≡ position - 1
effects-then log position early =
    length-take-le (position - 1) (state_of log).effects (omega (arith, early, number-inventory (state_of log).effects))

number-then : (log : List Step) (position : ℕ) → position ≤ number_of log → (held_at position log).number ≡ position - 1 + 1
number-then log position early =
    omega (arith, effects-then log position early, number-inventory (take (position - 1) (state_of log).effects))

since-then : (log : List Step) (position start : ℕ) → start ≤ position → position ≤ number_of log → IsSince position start (held_at position log) (held_by log)
since-then log position start early late =
    let effects : List Effect = (state_of log).effects in
    let now : after_all (inventory (take (position - 1) effects)) (drop (position - 1) effects) ≡ inventory effects =
    sym (inventory-append (take (position - 1) effects) (drop (position - 1) effects)) ∙ ap inventory (take-append-drop (position - 1) effects) in
    subst (IsSince position start (held_at position log)) now
    (is-since position start (held_at position log) (drop (position - 1) effects) early (omega (arith, number-then log position late)))

kept-so : (log : List Step) (items : List Item) (token : Token) → IsPulled items token log → IsSoFar log token.position token.start (with_records [] items)
kept-so log items token pulled =
    let early : token.start ≤ token.position = pulled.start in
    let late : token.position ≤ number_of log = pulled.position in
    let then : IsMarked (held_at token.position log) = is-marked (take (token.position - 1) (state_of log).effects) in
    let since : IsSince token.position token.start (held_at token.position log) (held_by log) = since-then log token.position token.start early late in
    record {
      low = late;
      begun = omega (arith, early, late);
      far = record {
        up = up-records [] items tt;
        base = kept-base (state_of log).plain (held_at token.position log) (held_by log) token.position token.start then (marked-by log) since (number-then log token.position late) items pulled.items_then;
        early = kept-early (state_of log).plain (held_at token.position log) (held_by log) token.position token.start then (marked-by log) since (number-then log token.position late) items pulled.items_then;
      };
    }

begins-token : (log : List Step) (items : List Item) (text : List ℕ) (found : Option Token) → token_of_text text ≡ found → TokenIs items log found → IsAt log text (with_records [] items)
begins-token log items text None read is = absurd is
begins-token log items text (Some token) read pulled = record { read = token; read_is = read; epoch = pulled.epoch; so_far = kept-so log items token pulled }

pub underway-begins : (log : List Step) (items : List Item) (token : Option (List ℕ)) → ItemsAre items log token → IsUnderway log (begun items token)
underway-begins log items None are = ap (with_records []) are
underway-begins log items (Some text) are = begins-token log items text (token_of_text text) refl are
