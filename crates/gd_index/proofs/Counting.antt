-- The counts of children go along with the items.
use Rattle.std.proofs.Common.{◌≡◌, ℕ, ◌+◌, ◌-◌, ◌^◌, ◌<◌, ◌≤◌, ◌⊎◌, inl, inr, Bool, true, false, cond, nat_eq, eq-eqb, List, [], ◌∷◌, ◌++◌, length, Option, Some, None, refl, ap, sym, subst, ◌∙◌, arith}
use Rattle.std.proofs.lemmas.Bool.{ne_eqb}
use Rattle.std.proofs.lemmas.List.{length-map}
use Rattle.std.proofs.lemmas.List.Sums.{sum_by-cons, sum_by_push, count_by-le-length}
use Rattle.std.specs.List.Sorted.{IsStrictlySortedBy}
use Rattle.std.specs.Map.{lookup, remove_entry, keys_of}
use Rattle.std.specs.Option.{option_map}
use Rattle.std.specs.Ordering.{nat_cmp, is_eq}
use Rattle.std.specs.BTreeMap.{is_at}
use Rattle.gd_item.specs.Inventory.{live_at, changed}
use Rattle.gd_item.specs.Records.{child_count}
use Rattle.gd_item.specs.declared.live.LiveItem.{LiveItem}
use Rattle.gd_index.specs.declared.row.Row.{Row}
use Rattle.gd_index.specs.Counted.{count_or_none, count_at, IsCounted, CountsMore, CountsLess}
use Rattle.gd_index.specs.Indexed.{at, items_in, Puts}
use Rattle.gd_index.proofs.Lines.{Lined, item-of, others, live-row, removed-items, none-removed}
use Rattle.gd_index.proofs.Orders.{numbers, told, never-apart, put-other}

-- ---- one count put or taken out
plus-none : (a : ℕ) (b : Bool) → b ≡ false → a ≡ a + cond b 1 0
plus-none a true off = absurd (cc off)
plus-none a false off = omega arith

minus-none : (a : ℕ) (b : Bool) → b ≡ false → a ≡ a - cond b 1 0
minus-none a true off = absurd (cc off)
minus-none a false off = omega arith

itself : (folder : ℕ) → true ≡ nat_eq folder folder
itself folder = sym (eq-eqb folder folder refl)

module _ (folder : ℕ) (value : Option ℕ) (old new : List (ℕ × ℕ)) (put : Puts nat_cmp folder value old new) where
  stays : (other : ℕ) → is_eq (nat_cmp folder other) ≡ false → count_at new other ≡ count_at old other
  stays other apart = ap count_or_none (put-other numbers folder other value old new put apart)

  off : (other : ℕ) → is_eq (nat_cmp folder other) ≡ false → nat_eq folder other ≡ false
  off other apart = ne_eqb folder other (λ is. never-apart numbers folder other is apart)

  more-by : count_or_none value ≡ count_at old folder + 1 → (other : ℕ) → (folder ≡ other) ⊎ (is_eq (nat_cmp folder other) ≡ false) → count_at new other ≡ count_at old other + cond (nat_eq folder other) 1 0
  more-by is other (inl same) =
      subst (λ (o : ℕ). count_at new o ≡ count_at old o + cond (nat_eq folder o) 1 0) same
      (ap count_or_none put.here ∙ is ∙ ap (λ b. count_at old folder + cond b 1 0) (itself folder))
  more-by is other (inr apart) = stays other apart ∙ plus-none (count_at old other) (nat_eq folder other) (off other apart)

  pub more-put : count_or_none value ≡ count_at old folder + 1 → CountsMore folder old new
  more-put is = record { each = λ other. more-by is other (told numbers folder other) }

  less-by : count_or_none value ≡ count_at old folder - 1 → (other : ℕ) → (folder ≡ other) ⊎ (is_eq (nat_cmp folder other) ≡ false) → count_at new other ≡ count_at old other - cond (nat_eq folder other) 1 0
  less-by is other (inl same) =
      subst (λ (o : ℕ). count_at new o ≡ count_at old o - cond (nat_eq folder o) 1 0) same
      (ap count_or_none put.here ∙ is ∙ ap (λ b. count_at old folder - cond b 1 0) (itself folder))
  less-by is other (inr apart) = stays other apart ∙ minus-none (count_at old other) (nat_eq folder other) (off other apart)

  pub less-put : count_or_none value ≡ count_at old folder - 1 → CountsLess folder old new
  less-put is = record { each = λ other. less-by is other (told numbers folder other) }

-- a count that is not there is none
pub none-counted : (found : Option ℕ) → found ≡ None → count_or_none found ≡ 0
none-counted found is = ap count_or_none is

-- ---- how many children a folder has of items one of which is other
abbrev pub one : ℕ → LiveItem → ℕ
one folder item = cond (nat_eq item.parent folder) 1 0

count-cons : (folder : ℕ) (x : LiveItem) (items : List LiveItem) → child_count folder (x ∷ items) ≡ one folder x + child_count folder items
count-cons folder x items = sum_by-cons (one folder) x items

count-pushed : (folder : ℕ) (x : LiveItem) (items : List LiveItem) → child_count folder (items ++ x ∷ []) ≡ child_count folder items + one folder x
count-pushed folder x items = sum_by_push (one folder) items x

swapped : (a b : ℕ) → a + b ≡ b + a
swapped a b = omega arith

moved-in : (o a b c : ℕ) → a ≡ b + c → o + a ≡ (o + b) + c
moved-in o a b c is = omega (arith, is)

same-item : (a b : LiveItem) → Some a ≡ Some b → a ≡ b
same-item a b is = cc

removed-if : (b : Bool) (folder : ℕ) (x : LiveItem) (e : ℕ × Row) (rows less : List (ℕ × Row)) (found : Option Row)
    → (item-of found ≡ Some x → child_count folder (items_in rows) ≡ child_count folder (items_in less) + one folder x)
    → item-of (cond b (Some e.1) found) ≡ Some x → child_count folder (items_in (e ∷ rows)) ≡ child_count folder (items_in (cond b rows (e ∷ less))) + one folder x
removed-if true folder x e rows less found rest there =
    count-cons folder e.1.item (items_in rows) ∙ swapped (one folder e.1.item) (child_count folder (items_in rows))
    ∙ ap (λ (i : LiveItem). child_count folder (items_in rows) + one folder i) (same-item e.1.item x there)
removed-if false folder x e rows less found rest there =
    count-cons folder e.1.item (items_in rows)
    ∙ moved-in (one folder e.1.item) (child_count folder (items_in rows)) (child_count folder (items_in less)) (one folder x) (rest there)
    ∙ ap (λ n. n + one folder x) (sym (count-cons folder e.1.item (items_in less)))

count-removed : (test : ℕ → Bool) (folder : ℕ) (x : LiveItem) (rows : List (ℕ × Row)) → item-of (lookup test rows) ≡ Some x
    → child_count folder (items_in rows) ≡ child_count folder (items_in (remove_entry test rows)) + one folder x
count-removed test folder x [] there = absurd (cc there)
count-removed test folder x (e ∷ rows) there =
    removed-if (test e.0) folder x e rows (remove_entry test rows) (lookup test rows) (count-removed test folder x rows) there

twice-in : (o c d a b : ℕ) → c + a ≡ d + b → (o + c) + a ≡ (o + d) + b
twice-in o c d a b is = omega (arith, is)

crossed : (a b c : ℕ) → (a + c) + b ≡ (b + c) + a
crossed a b c = omega arith

module _ (n folder : ℕ) (f : LiveItem → LiveItem) (x : LiveItem) where
  changed-if : (b : Bool) (item : LiveItem) (items more : List LiveItem) (found : Option LiveItem)
      → (found ≡ Some x → child_count folder more + one folder x ≡ child_count folder items + one folder (f x)) → cond b (Some item) found ≡ Some x
      → child_count folder (cond b (f item ∷ items) (item ∷ more)) + one folder x ≡ child_count folder (item ∷ items) + one folder (f x)
  changed-if true item items more found rest there =
      ap (λ (c : ℕ). c + one folder x) (count-cons folder (f item) items)
      ∙ ap (λ (i : LiveItem). (one folder (f i) + child_count folder items) + one folder x) (same-item item x there)
      ∙ crossed (one folder (f x)) (one folder x) (child_count folder items)
      ∙ ap (λ (i : LiveItem). (one folder i + child_count folder items) + one folder (f x)) (sym (same-item item x there))
      ∙ ap (λ (c : ℕ). c + one folder (f x)) (sym (count-cons folder item items))
  changed-if false item items more found rest there =
      ap (λ (c : ℕ). c + one folder x) (count-cons folder item more)
      ∙ twice-in (one folder item) (child_count folder more) (child_count folder items) (one folder x) (one folder (f x)) (rest there)
      ∙ ap (λ (c : ℕ). c + one folder (f x)) (sym (count-cons folder item items))

  count-changed : (items : List LiveItem) → live_at n items ≡ Some x → child_count folder (changed n f items) + one folder x ≡ child_count folder items + one folder (f x)
  count-changed [] there = absurd (cc there)
  count-changed (item ∷ items) there =
      changed-if (nat_eq item.number n) item items (changed n f items) (live_at n items) (count-changed items) there

-- an item that is changed in its folder
module _ (n folder : ℕ) (f : LiveItem → LiveItem) (stays : (x : LiveItem) → (f x).parent ≡ x.parent) where
  kept-if : (b : Bool) (item : LiveItem) (items more : List LiveItem) → child_count folder more ≡ child_count folder items
      → child_count folder (cond b (f item ∷ items) (item ∷ more)) ≡ child_count folder (item ∷ items)
  kept-if true item items more rest =
      count-cons folder (f item) items ∙ ap (λ (p : ℕ). cond (nat_eq p folder) 1 0 + child_count folder items) (stays item) ∙ sym (count-cons folder item items)
  kept-if false item items more rest =
      count-cons folder item more ∙ ap (λ (c : ℕ). one folder item + c) rest ∙ sym (count-cons folder item items)

  count-kept : (items : List LiveItem) → child_count folder (changed n f items) ≡ child_count folder items
  count-kept [] = refl
  count-kept (item ∷ items) = kept-if (nat_eq item.number n) item items (changed n f items) (count-kept items)

-- ---- the counts after each step
within : (a c l : ℕ) → a ≡ c → c ≤ l → l < 2 ^ 63 → a + 1 < 2 ^ 64
within a c l is few small = omega (arith, is, few, small)

-- no folder has more children than there are items
pub has-room : (counts : List (ℕ × ℕ)) (rows : List (ℕ × Row)) (folder n : ℕ) → IsCounted counts (items_in rows) → n ≡ length rows → n < 2 ^ 63 → count_at counts folder + 1 < 2 ^ 64
has-room counts rows folder n was is small =
    within (count_at counts folder) (child_count folder (items_in rows)) n (was.each folder)
    (subst (λ (l : ℕ). child_count folder (items_in rows) ≤ l) (length-map rows (λ (e : ℕ × Row). e.1.item) ∙ sym is) (count_by-le-length (λ (item : LiveItem). nat_eq item.parent folder) (items_in rows))) small

there-and-back : (a b c o : ℕ) → b ≡ a + o → c ≡ b - o → c ≡ a
there-and-back a b c o there back = omega (arith, there, back)

pub undone-count : (folder : ℕ) (old mid new : List (ℕ × ℕ)) (items : List LiveItem) → IsCounted old items → CountsMore folder old mid → CountsLess folder mid new → IsCounted new items
undone-count folder old mid new items was more less = record {
  each = λ other. there-and-back (count_at old other) (count_at mid other) (count_at new other) (cond (nat_eq folder other) 1 0) (more.each other) (less.each other) ∙ was.each other;
}

pub pushed-count : (old new : List (ℕ × ℕ)) (items all : List LiveItem) (x : LiveItem) → IsCounted old items → CountsMore x.parent old new → all ≡ items ++ x ∷ [] → IsCounted new all
pushed-count old new items all x was more is =
    subst (λ (xs : List LiveItem). IsCounted new xs) (sym is)
    (record { each = λ folder. more.each folder ∙ ap (λ (c : ℕ). c + one folder x) (was.each folder) ∙ sym (count-pushed folder x items) })

gone : (a b c o : ℕ) → a ≡ b + o → c ≡ a - o → c ≡ b
gone a b c o is less = omega (arith, is, less)

-- one item less
pub removed-count : (old new : List (ℕ × ℕ)) (rows : List (ℕ × Row)) (left : List LiveItem) (n : ℕ) (x : LiveItem) → IsCounted old (items_in rows) → Lined rows → IsStrictlySortedBy nat_cmp (keys_of rows)
    → Some x ≡ live_at n (items_in rows) → CountsLess x.parent old new → left ≡ others n (items_in rows) → IsCounted new left
removed-count old new rows left n x was lined rises there less is =
    let stood : item-of (at nat_cmp rows n) ≡ Some x = sym (live-row n rows lined) ∙ sym there in
    let rest : items_in (remove_entry (is_at (nat_cmp n)) rows) ≡ left = removed-items n rows lined rises ∙ sym is in
    subst (λ (xs : List LiveItem). IsCounted new xs) rest
    (record {
      each = λ folder.
          gone (count_at old folder) (child_count folder (items_in (remove_entry (is_at (nat_cmp n)) rows))) (count_at new folder) (one folder x)
          (was.each folder ∙ count-removed (is_at (nat_cmp n)) folder x rows stood) (less.each folder);
    })

none-if : (found : Option Row) → item-of found ≡ None → found ≡ None
none-if None is = refl
none-if (Some row) is = absurd (cc is)

-- nothing to remove
pub kept-count : (counts : List (ℕ × ℕ)) (rows : List (ℕ × Row)) (left : List LiveItem) (n : ℕ) → IsCounted counts (items_in rows) → Lined rows
    → None ≡ live_at n (items_in rows) → left ≡ others n (items_in rows) → IsCounted counts left
kept-count counts rows left n was lined none is =
    let absent : at nat_cmp rows n ≡ None = none-if (at nat_cmp rows n) (sym (live-row n rows lined) ∙ sym none) in
    subst (λ (xs : List LiveItem). IsCounted counts xs) (sym (is ∙ none-removed n rows lined absent)) was

over : (a b c d p o : ℕ) → b ≡ a + p → c ≡ b - o → d + o ≡ a + p → c ≡ d
over a b c d p o more less is = omega (arith, more, less, is)

-- one item at another place
pub moved-count : (old mid new : List (ℕ × ℕ)) (items all : List LiveItem) (n from to : ℕ) (f : LiveItem → LiveItem) (x : LiveItem) → IsCounted old items → live_at n items ≡ Some x → x.parent ≡ from → (f x).parent ≡ to
    → CountsMore to old mid → CountsLess from mid new → all ≡ changed n f items → IsCounted new all
moved-count old mid new items all n from to f x was there left come more less is =
    subst (λ (xs : List LiveItem). IsCounted new xs) (sym is)
    (record {
      each = λ folder.
          over (count_at old folder) (count_at mid folder) (count_at new folder) (child_count folder (changed n f items)) (cond (nat_eq to folder) 1 0) (cond (nat_eq from folder) 1 0)
          (more.each folder) (less.each folder)
          (ap (λ (p : ℕ). child_count folder (changed n f items) + cond (nat_eq p folder) 1 0) (sym left) ∙ count-changed n folder f x items there
          ∙ ap (λ (p : ℕ). child_count folder items + cond (nat_eq p folder) 1 0) come ∙ ap (λ (c : ℕ). c + cond (nat_eq to folder) 1 0) (sym (was.each folder)));
    })

-- one item with other bytes
pub refilled-count : (counts : List (ℕ × ℕ)) (items all : List LiveItem) (n : ℕ) (f : LiveItem → LiveItem) → ((x : LiveItem) → (f x).parent ≡ x.parent) → IsCounted counts items → all ≡ changed n f items → IsCounted counts all
refilled-count counts items all n f stays was is =
    subst (λ (xs : List LiveItem). IsCounted counts xs) (sym is) (record { each = λ folder. was.each folder ∙ sym (count-kept n folder f stays items) })

-- ---- an item that may be there
none-of : {X : Type 0} (g : LiveItem → X) (found : Option LiveItem) → None ≡ option_map g found → found ≡ None
none-of g None is = refl
none-of g (Some item) is = absurd (cc is)

unchanged-if : (b : Bool) (f : LiveItem → LiveItem) (item : LiveItem) (items more : List LiveItem) (found : Option LiveItem) → (found ≡ None → more ≡ items) → cond b (Some item) found ≡ None
    → cond b (f item ∷ items) (item ∷ more) ≡ item ∷ items
unchanged-if true f item items more found rest none = absurd (cc none)
unchanged-if false f item items more found rest none = ap (λ xs. item ∷ xs) (rest none)

unchanged : (n : ℕ) (f : LiveItem → LiveItem) (items : List LiveItem) → live_at n items ≡ None → changed n f items ≡ items
unchanged n f [] none = refl
unchanged n f (item ∷ items) none = unchanged-if (nat_eq item.number n) f item items (changed n f items) (live_at n items) (unchanged n f items) none

-- nothing to change
pub not-there : {X : Type 0} (g : LiveItem → X) (n : ℕ) (f : LiveItem → LiveItem) (items : List LiveItem) → None ≡ option_map g (live_at n items) → items ≡ changed n f items
not-there g n f items none = sym (unchanged n f items (none-of g (live_at n items) none))

same-folder : (a b : ℕ) → Some a ≡ Some b → b ≡ a
same-folder a b is = cc

moved-from : (old mid new : List (ℕ × ℕ)) (items all : List LiveItem) (n from to : ℕ) (f : LiveItem → LiveItem) (found : Option LiveItem) → IsCounted old items → live_at n items ≡ found
    → Some from ≡ option_map (λ (item : LiveItem). item.parent) found → ((x : LiveItem) → (f x).parent ≡ to) → CountsMore to old mid → CountsLess from mid new → all ≡ changed n f items → IsCounted new all
moved-from old mid new items all n from to f None was there left come more less is = absurd (cc left)
moved-from old mid new items all n from to f (Some x) was there left come more less is =
    moved-count old mid new items all n from to f x was there (same-folder from x.parent left) (come x) more less is

-- an item that stood in a folder stands in another one
pub placed-count : (old mid new : List (ℕ × ℕ)) (rows items all : List LiveItem) (n from to : ℕ) (f : LiveItem → LiveItem) → IsCounted old rows → rows ≡ items
    → Some from ≡ option_map (λ (item : LiveItem). item.parent) (live_at n items) → ((x : LiveItem) → (f x).parent ≡ to) → CountsMore to old mid → CountsLess from mid new → all ≡ changed n f rows → IsCounted new all
placed-count old mid new rows items all n from to f was view left come more less is =
    moved-from old mid new rows all n from to f (live_at n rows) was refl (left ∙ ap (λ (xs : List LiveItem). option_map (λ (item : LiveItem). item.parent) (live_at n xs)) (sym view)) come more less is
