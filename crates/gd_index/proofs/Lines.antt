-- Rows and their items, place by place.
use Rattle.std.proofs.Common.{◌≡◌, ℕ, ◌<◌, ◌⊎◌, inl, inr, Bool, true, false, cond, not, nat_eq, eqb-true, eq-eqb, List, [], ◌∷◌, ◌++◌, filter, Option, Some, None, refl, ap, sym, subst, ◌∙◌, arith}
use Rattle.std.proofs.lemmas.Bool.{ne_eqb}
use Rattle.std.proofs.lemmas.Cmp.{ranked}
use Rattle.std.proofs.lemmas.Map.Keys.{sorted_head, sorted_tail}
use Rattle.std.specs.List.{AllByRecursion}
use Rattle.std.specs.List.Sorted.{IsStrictlySortedBy}
use Rattle.std.specs.Map.{lookup, remove_entry, set_value, keys_of}
use Rattle.std.specs.Option.{option_map}
use Rattle.std.specs.Ordering.{nat_cmp, is_eq}
use Rattle.std.specs.BTreeMap.{is_at}
use Rattle.std.specs.declared.cmp.Ordering.TheVariants.{Less}
use Rattle.gd_names.proofs.Each.{each-so}
use Rattle.gd_names.proofs.Maps.{look, looked-up, look-first, Up}
use Rattle.gd_item.specs.declared.live.LiveItem.{LiveItem}
use Rattle.gd_item.specs.Inventory.{live_at, changed}
use Rattle.gd_index.specs.declared.row.Row.{Row}
use Rattle.gd_index.specs.Indexed.{at, IsRow, items_in, rewritten, digest_of_live}
use Rattle.gd_index.proofs.Orders.{numbers, told, never-apart}

abbrev pub Lined : List (ℕ × Row) → Type 0
Lined rows = AllByRecursion IsRow rows

abbrev pub item-of : Option Row → Option LiveItem
item-of found = option_map (λ (row : Row). row.item) found

-- ---- a query for a number
query-by : (k j : ℕ) → (k ≡ j) ⊎ (is_eq (nat_cmp k j) ≡ false) → is_at (nat_cmp k) j ≡ nat_eq j k
query-by k j (inl same) = sure (is_eq (nat_cmp k j)) refl ∙ sym (eq-eqb j k (sym same))
  where
    sure : (b : Bool) → is_eq (nat_cmp k j) ≡ b → is_eq (nat_cmp k j) ≡ true
    sure true is = is
    sure false is = absurd (never-apart numbers k j same is)
query-by k j (inr apart) = apart ∙ sym (ne_eqb j k (λ is. never-apart numbers k j (sym is) apart))

pub query : (k j : ℕ) → is_at (nat_cmp k) j ≡ nat_eq j k
query k j = query-by k j (told numbers k j)

-- ---- the item of a number
live-if : (b : Bool) (row : Row) (found : Option LiveItem) (more : Option Row) → found ≡ item-of more → cond b (Some row.item) found ≡ item-of (cond b (Some row) more)
live-if true row found more same = refl
live-if false row found more same = same

live-looked : (number : ℕ) (rows : List (ℕ × Row)) → Lined rows → live_at number (items_in rows) ≡ item-of (look number rows)
live-looked number [] lined = refl
live-looked number (e ∷ rows) lined =
    ap (λ n. cond (nat_eq n number) (Some e.1.item) (live_at number (items_in rows))) lined.0.number
    ∙ live-if (nat_eq e.0 number) e.1 (live_at number (items_in rows)) (look number rows) (live-looked number rows lined.1)

pub live-row : (number : ℕ) (rows : List (ℕ × Row)) → Lined rows → live_at number (items_in rows) ≡ item-of (at nat_cmp rows number)
live-row number rows lined = live-looked number rows lined ∙ ap item-of (sym (looked-up number rows))

-- what was found is the item of the number
pub got : (number : ℕ) (rows : List (ℕ × Row)) (items : List LiveItem) (found : Option Row) → Lined rows → items_in rows ≡ items → found ≡ at nat_cmp rows number
    → item-of found ≡ live_at number items
got number rows items found lined view is = ap item-of is ∙ sym (live-row number rows lined) ∙ ap (live_at number) view

-- ---- what holds of a row that is found
same-some : (a b : Row) → Some a ≡ Some b → a ≡ b
same-some a b is = cc

module _ (P : ℕ × Row → Type 0) where
  looked-if : (b : Bool) (number : ℕ) (row : Row) (e : ℕ × Row) (more : Option Row) → nat_eq e.0 number ≡ b → P e → (more ≡ Some row → P (number, row)) → cond b (Some e.1) more ≡ Some row → P (number, row)
  looked-if true number row e more is here rest there =
      let first : e.0 ≡ number = eqb-true e.0 number is in
      let second : e.1 ≡ row = same-some e.1 row there in
      subst (λ (n : ℕ). P (n, row)) first (subst (λ (r : Row). P (e.0, r)) second here)
  looked-if false number row e more is here rest there = rest there

  looked : (number : ℕ) (row : Row) (rows : List (ℕ × Row)) → AllByRecursion P rows → look number rows ≡ Some row → P (number, row)
  looked number row [] all there = absurd (cc there)
  looked number row (e ∷ rows) all there =
      looked-if (nat_eq e.0 number) number row e (look number rows) refl all.0 (looked number row rows all.1) there

  pub found : (number : ℕ) (row : Row) (rows : List (ℕ × Row)) → AllByRecursion P rows → at nat_cmp rows number ≡ Some row → P (number, row)
  found number row rows all there = looked number row rows all (sym (looked-up number rows) ∙ there)

-- the digest of what was found
pub digested : (number : ℕ) (rows : List (ℕ × Row)) (items : List LiveItem) (row : Row) → Lined rows → items_in rows ≡ items → Some row ≡ at nat_cmp rows number
    → row.digest ≡ digest_of_live (live_at number items)
digested number rows items row lined view is =
    let line : IsRow (number, row) = found IsRow number row rows lined (sym is) in
    line.digest ∙ ap digest_of_live (got number rows items (Some row) lined view is)

-- ---- numbers that rise
below-keys : (n : ℕ) (rows : List (ℕ × Row)) → AllByRecursion (λ (k : ℕ). nat_cmp n k ≡ Less) (keys_of rows) → AllByRecursion (λ (e : ℕ × Row). n < e.0) rows
below-keys n [] all = tt
below-keys n (e ∷ rows) all = (ranked n e.0 Less (sym all.0), below-keys n rows all.1)

pub up : (rows : List (ℕ × Row)) → IsStrictlySortedBy nat_cmp (keys_of rows) → Up rows
up [] rises = tt
up (e ∷ rows) rises = (below-keys e.0 rows (sorted_head nat_cmp e.0 (keys_of rows) rises), up rows (sorted_tail nat_cmp e.0 (keys_of rows) rises))

past-first : (e f : ℕ × Row) (rows : List (ℕ × Row)) → e.0 < f.0 → look f.0 rows ≡ Some f.1 → look f.0 (e ∷ rows) ≡ Some f.1
past-first e f rows less there =
    let other : nat_eq e.0 f.0 ≡ false = ne_eqb e.0 f.0 (λ is. absurd (omega (arith, is, less))) in
    ap (λ b. cond b (Some e.1) (look f.0 rows)) other ∙ there

past-each : (e : ℕ × Row) (whole rows : List (ℕ × Row)) → AllByRecursion (λ (f : ℕ × Row). e.0 < f.0) rows → AllByRecursion (λ (f : ℕ × Row). look f.0 whole ≡ Some f.1) rows
    → AllByRecursion (λ (f : ℕ × Row). look f.0 (e ∷ whole) ≡ Some f.1) rows
past-each e whole [] above all = tt
past-each e whole (f ∷ rows) above all = (past-first e f whole above.0 all.0, past-each e whole rows above.1 all.1)

all-looked : (rows : List (ℕ × Row)) → Up rows → AllByRecursion (λ (f : ℕ × Row). look f.0 rows ≡ Some f.1) rows
all-looked [] rises = tt
all-looked (e ∷ rows) rises = (look-first e rows, past-each e rows rows rises.0 (all-looked rows rises.1))

-- each row stands at its number
pub all-found : (rows : List (ℕ × Row)) → IsStrictlySortedBy nat_cmp (keys_of rows) → AllByRecursion (λ (f : ℕ × Row). at nat_cmp rows f.0 ≡ Some f.1) rows
all-found rows rises =
    each-so (λ (f : ℕ × Row). look f.0 rows ≡ Some f.1) (λ (f : ℕ × Row). at nat_cmp rows f.0 ≡ Some f.1) (λ f is. looked-up f.0 rows ∙ is) rows (all-looked rows (up rows rises))

-- ---- one more row
pub below-lines : (n : ℕ) (rows : List (ℕ × Row)) → AllByRecursion (λ (x : LiveItem). x.number < n) (items_in rows) → Lined rows → AllByRecursion (λ (e : ℕ × Row). e.0 < n) rows
below-lines n [] all lined = tt
below-lines n (e ∷ rows) all lined = (subst (λ (k : ℕ). k < n) lined.0.number all.0, below-lines n rows all.1 lined.1)

none-looked : (n : ℕ) (rows : List (ℕ × Row)) → AllByRecursion (λ (e : ℕ × Row). e.0 < n) rows → look n rows ≡ None
none-looked n [] all = refl
none-looked n (e ∷ rows) all =
    let other : nat_eq e.0 n ≡ false = ne_eqb e.0 n (λ is. absurd (omega (arith, is, all.0))) in
    ap (λ b. cond b (Some e.1) (look n rows)) other ∙ none-looked n rows all.1

pub none-there : (n : ℕ) (rows : List (ℕ × Row)) → AllByRecursion (λ (e : ℕ × Row). e.0 < n) rows → at nat_cmp rows n ≡ None
none-there n rows all = looked-up n rows ∙ none-looked n rows all

pub one-more-item : (rows : List (ℕ × Row)) (e : ℕ × Row) → items_in (rows ++ e ∷ []) ≡ items_in rows ++ e.1.item ∷ []
one-more-item [] e = refl
one-more-item (first ∷ rows) e = ap (λ items. first.1.item ∷ items) (one-more-item rows e)

-- ---- one row less
all-removed : (P : ℕ × Row → Type 0) (test : ℕ → Bool) (rows : List (ℕ × Row)) → AllByRecursion P rows → AllByRecursion P (remove_entry test rows)
all-removed P test [] all = tt
all-removed P test (e ∷ rows) all = elim (test e.0) as (λ b. AllByRecursion P (cond b rows (e ∷ remove_entry test rows))) [ true ↦ all.1 | false ↦ (all.0, all-removed P test rows all.1) ]

pub lined-removed : (test : ℕ → Bool) (rows : List (ℕ × Row)) → Lined rows → Lined (remove_entry test rows)
lined-removed test rows lined = all-removed IsRow test rows lined

abbrev pub others : ℕ → List LiveItem → List LiveItem
others n items = filter (λ (item : LiveItem). not (nat_eq item.number n)) items

other-item : (n : ℕ) (e : ℕ × Row) (rows : List (ℕ × Row)) → IsRow e → nat_eq e.0 n ≡ false → others n (e.1.item ∷ items_in rows) ≡ e.1.item ∷ others n (items_in rows)
other-item n e rows line off =
    ap (λ (k : ℕ). cond (not (nat_eq k n)) (e.1.item ∷ others n (items_in rows)) (others n (items_in rows))) line.number
    ∙ ap (λ b. cond (not b) (e.1.item ∷ others n (items_in rows)) (others n (items_in rows))) off

all-others : (n : ℕ) (rows : List (ℕ × Row)) → Lined rows → AllByRecursion (λ (e : ℕ × Row). n < e.0) rows → others n (items_in rows) ≡ items_in rows
all-others n [] lined above = refl
all-others n (e ∷ rows) lined above =
    let off : nat_eq e.0 n ≡ false = ne_eqb e.0 n (λ is. absurd (omega (arith, is, above.0))) in
    other-item n e rows lined.0 off ∙ ap (λ items. e.1.item ∷ items) (all-others n rows lined.1 above.1)

removed-if : (b : Bool) (n : ℕ) (e : ℕ × Row) (rows : List (ℕ × Row)) → nat_eq e.0 n ≡ b → Lined (e ∷ rows) → Up (e ∷ rows) → items_in (remove_entry (is_at (nat_cmp n)) rows) ≡ others n (items_in rows)
    → items_in (cond b rows (e ∷ remove_entry (is_at (nat_cmp n)) rows)) ≡ others n (items_in (e ∷ rows))
removed-if true n e rows is lined rises rest =
    let same : e.0 ≡ n = eqb-true e.0 n is in
    sym (
    ap (λ (k : ℕ). cond (not (nat_eq k n)) (e.1.item ∷ others n (items_in rows)) (others n (items_in rows))) lined.0.number
    ∙ ap (λ b. cond (not b) (e.1.item ∷ others n (items_in rows)) (others n (items_in rows))) is
    ∙ all-others n rows lined.1 (subst (λ (k : ℕ). AllByRecursion (λ (f : ℕ × Row). k < f.0) rows) same rises.0))
removed-if false n e rows is lined rises rest = ap (λ items. e.1.item ∷ items) rest ∙ sym (other-item n e rows lined.0 is)

removed-items-up : (n : ℕ) (rows : List (ℕ × Row)) → Lined rows → Up rows → items_in (remove_entry (is_at (nat_cmp n)) rows) ≡ others n (items_in rows)
removed-items-up n [] lined rises = refl
removed-items-up n (e ∷ rows) lined rises =
    ap (λ b. items_in (cond b rows (e ∷ remove_entry (is_at (nat_cmp n)) rows))) (query n e.0)
    ∙ removed-if (nat_eq e.0 n) n e rows refl lined rises (removed-items-up n rows lined.1 rises.1)

pub removed-items : (n : ℕ) (rows : List (ℕ × Row)) → Lined rows → IsStrictlySortedBy nat_cmp (keys_of rows) → items_in (remove_entry (is_at (nat_cmp n)) rows) ≡ others n (items_in rows)
removed-items n rows lined rises = removed-items-up n rows lined (up rows rises)

-- where nothing stands at the number
none-if : (b : Bool) (n : ℕ) (e : ℕ × Row) (rows : List (ℕ × Row)) → nat_eq e.0 n ≡ b → Lined (e ∷ rows) → (look n rows ≡ None → others n (items_in rows) ≡ items_in rows)
    → cond b (Some e.1) (look n rows) ≡ None → others n (items_in (e ∷ rows)) ≡ items_in (e ∷ rows)
none-if true n e rows is lined rest none = absurd (cc none)
none-if false n e rows is lined rest none = other-item n e rows lined.0 is ∙ ap (λ items. e.1.item ∷ items) (rest none)

none-removed-looked : (n : ℕ) (rows : List (ℕ × Row)) → Lined rows → look n rows ≡ None → others n (items_in rows) ≡ items_in rows
none-removed-looked n [] lined none = refl
none-removed-looked n (e ∷ rows) lined none = none-if (nat_eq e.0 n) n e rows refl lined (none-removed-looked n rows lined.1) none

pub none-removed : (n : ℕ) (rows : List (ℕ × Row)) → Lined rows → at nat_cmp rows n ≡ None → others n (items_in rows) ≡ items_in rows
none-removed n rows lined none = none-removed-looked n rows lined (sym (looked-up n rows) ∙ none)

-- ---- one row changed
module _ (n : ℕ) (f : Row → Row) where
  keys-if : (b : Bool) (e : ℕ × Row) (rows : List (ℕ × Row)) → keys_of (rewritten n f rows) ≡ keys_of rows → keys_of (cond b ((e.0, f e.1) ∷ rows) (e ∷ rewritten n f rows)) ≡ keys_of (e ∷ rows)
  keys-if true e rows rest = refl
  keys-if false e rows rest = ap (λ ks. e.0 ∷ ks) rest

  pub rewritten-keys : (rows : List (ℕ × Row)) → keys_of (rewritten n f rows) ≡ keys_of rows
  rewritten-keys [] = refl
  rewritten-keys (e ∷ rows) = keys-if (is_at (nat_cmp n) e.0) e rows (rewritten-keys rows)

  pub rewritten-lined : ((e : ℕ × Row) → IsRow e → IsRow (e.0, f e.1)) → (rows : List (ℕ × Row)) → Lined rows → Lined (rewritten n f rows)
  rewritten-lined fits [] lined = tt
  rewritten-lined fits (e ∷ rows) lined =
      elim (is_at (nat_cmp n) e.0) as (λ b. Lined (cond b ((e.0, f e.1) ∷ rows) (e ∷ rewritten n f rows))) [
        | true ↦ (fits e lined.0, lined.1)
        | false ↦ (lined.0, rewritten-lined fits rows lined.1)
      ]

  items-if : (g : LiveItem → LiveItem) → ((row : Row) → (f row).item ≡ g row.item) → (b : Bool) (e : ℕ × Row) (rows : List (ℕ × Row)) → items_in (rewritten n f rows) ≡ changed n g (items_in rows)
      → items_in (cond b ((e.0, f e.1) ∷ rows) (e ∷ rewritten n f rows)) ≡ cond b (g e.1.item ∷ items_in rows) (e.1.item ∷ changed n g (items_in rows))
  items-if g same true e rows rest = ap (λ item. item ∷ items_in rows) (same e.1)
  items-if g same false e rows rest = ap (λ items. e.1.item ∷ items) rest

  pub rewritten-items : (g : LiveItem → LiveItem) → ((row : Row) → (f row).item ≡ g row.item) → (rows : List (ℕ × Row)) → Lined rows → items_in (rewritten n f rows) ≡ changed n g (items_in rows)
  rewritten-items g same [] lined = refl
  rewritten-items g same (e ∷ rows) lined =
      items-if g same (is_at (nat_cmp n) e.0) e rows (rewritten-items g same rows lined.1)
      ∙ ap (λ b. cond b (g e.1.item ∷ items_in rows) (e.1.item ∷ changed n g (items_in rows))) (query n e.0 ∙ ap (λ (k : ℕ). nat_eq k n) (sym lined.0.number))

  none-rewritten-if : (b : Bool) (e : ℕ × Row) (rows : List (ℕ × Row)) → (lookup (is_at (nat_cmp n)) rows ≡ None → rewritten n f rows ≡ rows)
      → cond b (Some e.1) (lookup (is_at (nat_cmp n)) rows) ≡ None → cond b ((e.0, f e.1) ∷ rows) (e ∷ rewritten n f rows) ≡ e ∷ rows
  none-rewritten-if true e rows rest none = absurd (cc none)
  none-rewritten-if false e rows rest none = ap (λ more. e ∷ more) (rest none)

  pub none-rewritten : (rows : List (ℕ × Row)) → lookup (is_at (nat_cmp n)) rows ≡ None → rewritten n f rows ≡ rows
  none-rewritten [] none = refl
  none-rewritten (e ∷ rows) none = none-rewritten-if (is_at (nat_cmp n) e.0) e rows (none-rewritten rows) none

  set-if : (b : Bool) (row w : Row) (e : ℕ × Row) (rows : List (ℕ × Row)) → w ≡ f row → (lookup (is_at (nat_cmp n)) rows ≡ Some row → set_value (is_at (nat_cmp n)) rows w ≡ rewritten n f rows)
      → cond b (Some e.1) (lookup (is_at (nat_cmp n)) rows) ≡ Some row → cond b ((e.0, w) ∷ rows) (e ∷ set_value (is_at (nat_cmp n)) rows w) ≡ cond b ((e.0, f e.1) ∷ rows) (e ∷ rewritten n f rows)
  set-if true row w e rows is rest there = ap (λ (r : Row). (e.0, r) ∷ rows) (is ∙ ap f (sym (same-some e.1 row there)))
  set-if false row w e rows is rest there = ap (λ more. e ∷ more) (rest there)

  -- a row that is written in its place
  pub set-rewritten : (row w : Row) (rows : List (ℕ × Row)) → w ≡ f row → lookup (is_at (nat_cmp n)) rows ≡ Some row → set_value (is_at (nat_cmp n)) rows w ≡ rewritten n f rows
  set-rewritten row w [] is there = refl
  set-rewritten row w (e ∷ rows) is there = set-if (is_at (nat_cmp n) e.0) row w e rows is (set-rewritten row w rows is) there
