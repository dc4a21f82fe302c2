-- Marking a number and what stands below it, child by child.
use Rattle.std.proofs.Common.{◌≡◌, ℕ, ◌+◌, ◌-◌, ◌<◌, ◌≤◌, zero, suc, Bool, true, false, ◌||◌, cond, nat_eq, List, [], ◌∷◌, length, take, drop, map, get_or, is_some, None, refl, sym, ap, ◌∙◌, arith}
use Rattle.std.specs.List.{list_any}
use Rattle.std.specs.List.Sorted.{IsStrictlySortedBy}
use Rattle.std.specs.Ordering.{nat_cmp}
use Rattle.std.specs.BTreeMap.{is_at}
use Rattle.std.proofs.lemmas.List.{drop_more, drop_all}
use Rattle.gd_item.specs.Children.{children_past}
use Rattle.gd_item.specs.Inventory.{live_at}
use Rattle.gd_item.specs.Moves.{is_in_within}
use Rattle.gd_item.specs.Nodes.{live_node}
use Rattle.gd_item.specs.declared.live.LiveItem.{LiveItem}
use Rattle.gd_index.proofs.Lines.{query}
use Rattle.gd_store.specs.Kept.{AreApart}
use Rattle.gd_store.specs.Moved.{numbers_in}
use Rattle.gd_store.proofs.Feeds.{whole-of}
use Rattle.gd_store.proofs.Siblings.{few-children, move-or, or-none}
use Rattle.gd_store.proofs.Walks.{has, marked, down, with-top, without-top, all-marked}

module _ {R : Type 0} (see : R → LiveItem) where
  any-seen : (P : LiveItem → Bool) (rs : List R) → list_any (λ r. P (see r)) rs ≡ list_any P (map see rs)
  any-seen P [] = refl
  any-seen P (r ∷ rs) = ap (λ b. P (see r) || b) (any-seen P rs)

  or-cond : (b old : Bool) → cond b true old ≡ (b || old)
  or-cond true old = refl
  or-cond false old = refl

  pub no-steps : (items : List LiveItem) (steps number n : ℕ) (old put : Bool) → steps ≡ 0 → put ≡ cond (is_at (nat_cmp number) n) true old → put ≡ (is_in_within steps (map live_node items) number n || old)
  no-steps items steps number n old put none is =
      is ∙ ap (λ b. cond b true old) (query number n) ∙ or-cond (nat_eq n number) old ∙ ap (λ k. is_in_within k (map live_node items) number n || old) (sym none)

  by-steps : (steps : ℕ) (items : List LiveItem) (number n : ℕ) (old : Bool) (rs : List R) → AreApart items → (steps ≡ 0 → ⊥) → map see rs ≡ children_past number None items
      → (list_any (λ r. is_in_within (steps - 1) (map live_node items) (see r).number n) rs || (nat_eq n number || old)) ≡ (is_in_within steps (map live_node items) number n || old)
  by-steps zero items number n old rs apart some are = absurd (some refl)
  by-steps (suc steps) items number n old rs apart some are =
      let P : LiveItem → Bool = λ child. is_in_within steps (map live_node items) child.number n in
      let e : suc steps - 1 ≡ steps = omega arith in
      ap (λ k. list_any (λ r. is_in_within k (map live_node items) (see r).number n) rs || (nat_eq n number || old)) e
      ∙ ap (λ b. b || (nat_eq n number || old)) (any-seen P rs ∙ ap (list_any P) are)
      ∙ move-or (list_any P (children_past number None items)) (nat_eq n number) old
      ∙ ap (λ b. b || old) (down steps items apart number n)

  -- before the first child
  pub first-marks : (items : List LiveItem) (steps number n count : ℕ) (old put : Bool) (rs read : List R) → AreApart items → (steps ≡ 0 → ⊥) → count ≡ length items
      → map see rs ≡ take count (children_past number None items) → read ≡ rs → put ≡ cond (is_at (nat_cmp number) n) true old
      → (list_any (λ r. is_in_within (steps - 1) (map live_node items) (see r).number n) read || put) ≡ (is_in_within steps (map live_node items) number n || old)
  first-marks items steps number n count old put rs read apart some long are same is =
      let le : length (children_past number None items) ≤ length items = few-children number None items in
      let all : map see read ≡ children_past number None items =
      ap (map see) same ∙ are ∙ ap (λ k. take k (children_past number None items)) long ∙ whole-of (length items) (children_past number None items) le in
      ap (λ b. list_any (λ r. is_in_within (steps - 1) (map live_node items) (see r).number n) read || b) (is ∙ ap (λ b. cond b true old) (query number n) ∙ or-cond (nat_eq n number) old)
      ∙ by-steps steps items number n old read apart some all

  -- one child more
  pub more-marks : (P : R → Bool) (rs : List R) (i : ℕ) (d : R) (old new whole : Bool) → i < length rs → (list_any P (drop i rs) || old) ≡ whole → new ≡ (P (get_or rs i d) || old) → (list_any P (drop (i + 1) rs) || new) ≡ whole
  more-marks P rs i d old new whole lt so_far is =
      ap (λ b. list_any P (drop (i + 1) rs) || b) is ∙ move-or (list_any P (drop (i + 1) rs)) (P (get_or rs i d)) old
      ∙ ap (λ xs. list_any P xs || old) (sym (drop_more rs i d lt)) ∙ so_far

  -- after the last one
  pub last-marks : (P : R → Bool) (rs : List R) (i : ℕ) (now whole : Bool) → length rs ≤ i → (list_any P (drop i rs) || now) ≡ whole → now ≡ whole
  last-marks P rs i now whole le so_far = ap (λ xs. list_any P xs || now) (sym (drop_all i rs le)) ∙ so_far

-- ---- all that is marked
module _ (items : List LiveItem) (top count : ℕ) (start : List ℕ) (apart : AreApart items) (long : count ≡ length items) (none : start ≡ []) where
  so-far : (q : ℕ) (b : Bool) → b ≡ (is_in_within count (map live_node items) top q || has start q) → b ≡ marked items top q
  so-far q b is = is ∙ ap (λ k. is_in_within k (map live_node items) top q || has start q) long ∙ ap (λ ks. marked items top q || has ks q) none ∙ or-none (marked items top q)

  pub whole-live : (keys : List ℕ) → IsStrictlySortedBy nat_cmp keys → ((q : ℕ) → has keys q ≡ (is_in_within count (map live_node items) top q || has start q)) → is_some (live_at top items) ≡ true → keys ≡ numbers_in top items items
  whole-live keys up are live = all-marked items top keys apart up (λ q. so-far q (has keys q) (are q) ∙ with-top items top q live)

  pub whole-dead : (keys left : List ℕ) → IsStrictlySortedBy nat_cmp left → ((q : ℕ) → has keys q ≡ (is_in_within count (map live_node items) top q || has start q)) → is_some (live_at top items) ≡ false
      → ((q : ℕ) → has left q ≡ cond (is_at (nat_cmp top) q) false (has keys q)) → left ≡ numbers_in top items items
  whole-dead keys left up are dead out =
      all-marked items top left apart up (λ q. out q ∙ ap (λ b. cond (is_at (nat_cmp top) q) false b) (so-far q (has keys q) (are q)) ∙ without-top items top q dead)
