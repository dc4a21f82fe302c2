-- Items that are put in order of a key one by one stand as an index by that key has them.
use Rattle.std.proofs.Common.{◌≡◌, ℕ, ◌<◌, zero, suc, inl, inr, Bool, true, false, ◌&&◌, cond, List, [], ◌∷◌, take, filter, Option, Some, None, refl, ap, sym, subst, ◌∙◌, arith}
use Rattle.std.specs.Prelude.{T}
use Rattle.std.specs.BTreeMap.{insert_entry}
use Rattle.std.specs.FinMap.Entries.{put, find, by_order, below_all, is_sorted, where_key, is_sorted-where_key, find-where_key, is_sorted-put, find-put, same_entries}
use Rattle.std.specs.List.{AllByRecursion}
use Rattle.std.specs.List.Sorted.{IsStrictlySortedBy}
use Rattle.std.specs.Map.{keys_of, values_of}
use Rattle.std.specs.Ordering.{nat_cmp, is_eq, is_lt, ordering_reverse, match_ordering}
use Rattle.std.specs.declared.cmp.Ordering.{Ordering}
use Rattle.std.specs.declared.cmp.Ordering.TheVariants.{Less, Equal, Greater}
use Rattle.std.proofs.lemmas.Cmp.{tied_itself}
use Rattle.std.proofs.lemmas.Map.Keys.{sorted_head, sorted_tail}
use Rattle.gd_names.proofs.Each.{each-so}
use Rattle.gd_names.proofs.Maps.{Up}
use Rattle.gd_item.specs.declared.live.LiveItem.{LiveItem}
use Rattle.gd_index.specs.declared.row.Row.{Row}
use Rattle.gd_index.specs.Indexed.{at, Indexes, items_in, items_at, item_and}
use Rattle.gd_index.proofs.Orders.{IsOrder, told}
use Rattle.gd_index.proofs.Finding.{row-by}
use Rattle.gd_index.proofs.Lines.{Lined, found, all-found, up, item-of}

t-both : (a b : Bool) → T a → T b → T (a && b)
t-both true b p q = q
t-both false b p q = absurd p

t-first : (a b : Bool) → T (a && b) → T a
t-first true b p = tt
t-first false b p = absurd p

t-second : (a b : Bool) → T (a && b) → T b
t-second true b p = p
t-second false b p = absurd p

abbrev or-else : {X : Type 0} → Option X → Option X → Option X
or-else None other = other
or-else (Some x) other = Some x

-- what holds of each holds of those that a test keeps
pub each-kept : {X : Type 0} (P : X → Type 0) (test : X → Bool) (xs : List X) → AllByRecursion P xs → AllByRecursion P (filter test xs)
each-kept P test [] all = tt
each-kept P test (x ∷ xs) all =
    elim (test x) as (λ b. AllByRecursion P (cond b (x ∷ filter test xs) (filter test xs))) [ true ↦ (all.0, each-kept P test xs all.1) | false ↦ each-kept P test xs all.1 ]

module _ {K : Type 0} {R : K → K → Ordering} (order : IsOrder R) where
  module _ {X : Type 0} where
    as-put-by : (o : Ordering) (a b c d : List (K × X)) → c ≡ d → match_ordering o a b c ≡ by_order o a b d
    as-put-by Less a b c d same = refl
    as-put-by Equal a b c d same = refl
    as-put-by Greater a b c d same = same

    as-put : (k : K) (v : X) (es : List (K × X)) → insert_entry R es k v ≡ put R k v es
    as-put k v [] = refl
    as-put k v (e ∷ es) = as-put-by (R k e.0) ((k, v) ∷ e ∷ es) ((e.0, v) ∷ es) (e ∷ insert_entry R es k v) (e ∷ put R k v es) (ap (λ more. e ∷ more) (as-put k v es))

    as-find : (q : K) (es : List (K × X)) → at R es q ≡ find R q es
    as-find q [] = refl
    as-find q (e ∷ es) = ap (λ more. cond (is_eq (R q e.0)) (Some e.1) more) (as-find q es)

    put-at : (q k : K) (v : X) (es : List (K × X)) → at R (insert_entry R es k v) q ≡ cond (is_eq (R q k)) (Some v) (at R es q)
    put-at q k v es =
        as-find q (insert_entry R es k v) ∙ ap (λ more. find R q more) (as-put k v es) ∙ find-put R order.total q k v es
        ∙ ap (λ more. cond (is_eq (R q k)) (Some v) more) (sym (as-find q es))

    sorted-insert : (k : K) (v : X) (es : List (K × X)) → T (is_sorted R es) → T (is_sorted R (insert_entry R es k v))
    sorted-insert k v es rises = subst (λ (more : List (K × X)). T (is_sorted R more)) (sym (as-put k v es)) (is_sorted-put R order.total k v es rises)

    below-keys : (k : K) (es : List (K × X)) → AllByRecursion (λ (q : K). R k q ≡ Less) (keys_of es) → T (below_all R k es)
    below-keys k [] all = tt
    below-keys k (e ∷ es) all = t-both (is_lt (R k e.0)) (below_all R k es) (subst (λ (o : Ordering). T (is_lt o)) (sym all.0) tt) (below-keys k es all.1)

    pub from-strict : (es : List (K × X)) → IsStrictlySortedBy R (keys_of es) → T (is_sorted R es)
    from-strict [] rises = tt
    from-strict (e ∷ es) rises =
        t-both (below_all R e.0 es) (is_sorted R es) (below-keys e.0 es (sorted_head R e.0 (keys_of es) rises)) (from-strict es (sorted_tail R e.0 (keys_of es) rises))

    -- each entry is found at its key
    past-first : (e : K × X) (whole es : List (K × X)) → AllByRecursion (λ (q : K). R e.0 q ≡ Less) (keys_of es) → AllByRecursion (λ (f : K × X). at R whole f.0 ≡ Some f.1) es
        → AllByRecursion (λ (f : K × X). at R (e ∷ whole) f.0 ≡ Some f.1) es
    past-first e whole [] above all = tt
    past-first e whole (f ∷ es) above all =
        (ap (λ o. cond (is_eq o) (Some e.1) (at R whole f.0)) (order.total.antisymm f.0 e.0 ∙ ap ordering_reverse above.0) ∙ all.0, past-first e whole es above.1 all.1)

    pub each-found : (es : List (K × X)) → IsStrictlySortedBy R (keys_of es) → AllByRecursion (λ (f : K × X). at R es f.0 ≡ Some f.1) es
    each-found [] rises = tt
    each-found (e ∷ es) rises =
        (ap (λ o. cond (is_eq o) (Some e.1) (at R es e.0)) (tied_itself order.total e.0), past-first e es es (sorted_head R e.0 (keys_of es) rises) (each-found es (sorted_tail R e.0 (keys_of es) rises)))

  module _ (key : LiveItem → K) where
    -- items in order of the key, those of the second list put among those of the first
    abbrev pub sorted_from : List (K × LiveItem) → List LiveItem → List (K × LiveItem)
    sorted_from placed [] = placed
    sorted_from placed (item ∷ items) = sorted_from (insert_entry R placed (key item) item) items

    sorted-from : (placed : List (K × LiveItem)) (items : List LiveItem) → T (is_sorted R placed) → T (is_sorted R (sorted_from placed items))
    sorted-from placed [] rises = rises
    sorted-from placed (item ∷ items) rises = sorted-from (insert_entry R placed (key item) item) items (sorted-insert (key item) item placed rises)

    abbrev Distinct : List LiveItem → Type 0
    Distinct [] = Unit {0}
    Distinct (y ∷ ys) = AllByRecursion (λ (z : LiveItem). is_eq (R (key y) (key z)) ≡ false) ys × Distinct ys

    abbrev first-at : K → List LiveItem → Option LiveItem
    first-at q [] = None
    first-at q (y ∷ ys) = cond (is_eq (R q (key y))) (Some y) (first-at q ys)

    never : (k : K) (ys : List LiveItem) → AllByRecursion (λ (z : LiveItem). is_eq (R k (key z)) ≡ false) ys → first-at k ys ≡ None
    never k [] all = refl
    never k (y ∷ ys) all = ap (λ b. cond b (Some y) (first-at k ys)) all.0 ∙ never k ys all.1

    mixed : (b : Bool) (y : LiveItem) (first stood : Option LiveItem) → (b ≡ true → first ≡ None) → or-else first (cond b (Some y) stood) ≡ or-else (cond b (Some y) first) stood
    mixed true y first stood none = ap (λ f. or-else f (Some y)) (none refl)
    mixed false y first stood none = refl

    key-is : (q k : K) → is_eq (R q k) ≡ true → q ≡ k
    key-is q k is = elim (told order q k) [ inl same ↦ same | inr apart ↦ absurd (cc (is, apart)) ]

    fold-at : (q : K) (placed : List (K × LiveItem)) (ys : List LiveItem) → Distinct ys → at R (sorted_from placed ys) q ≡ or-else (first-at q ys) (at R placed q)
    fold-at q placed [] apart = refl
    fold-at q placed (y ∷ ys) apart =
        fold-at q (insert_entry R placed (key y) y) ys apart.1 ∙ ap (λ stood. or-else (first-at q ys) stood) (put-at q (key y) y placed)
        ∙ mixed (is_eq (R q (key y))) y (first-at q ys) (at R placed q) (λ is. ap (λ k. first-at k ys) (key-is q (key y) is) ∙ never (key y) ys apart.0)

    module _ (rows : List (ℕ × Row)) where
      abbrev entry_and : K → Option Row → List (K × LiveItem) → List (K × LiveItem)
      entry_and k None es = es
      entry_and k (Some row) es = (k, row.item) ∷ es

      abbrev itemed : List (K × ℕ) → List (K × LiveItem)
      itemed [] = []
      itemed (e ∷ es) = entry_and e.0 (at nat_cmp rows e.1) (itemed es)

      abbrev Told : K × ℕ → Type 0
      Told e = (row : Row) × (at nat_cmp rows e.1 ≡ Some row) × (key row.item ≡ e.0)

      abbrev item-through : Option ℕ → Option LiveItem
      item-through None = None
      item-through (Some n) = item-of (at nat_cmp rows n)

      values-and : (k : K) (found : Option Row) (es : List (K × LiveItem)) → values_of (entry_and k found es) ≡ item_and found (values_of es)
      values-and k None es = refl
      values-and k (Some row) es = refl

      itemed-values : (es : List (K × ℕ)) → values_of (itemed es) ≡ items_at rows (values_of es)
      itemed-values [] = refl
      itemed-values (e ∷ es) = values-and e.0 (at nat_cmp rows e.1) (itemed es) ∙ ap (item_and (at nat_cmp rows e.1)) (itemed-values es)

      at-if : (b : Bool) (row : Row) (n : ℕ) (rest : Option LiveItem) (more : Option ℕ) → at nat_cmp rows n ≡ Some row → rest ≡ item-through more → cond b (Some row.item) rest ≡ item-through (cond b (Some n) more)
      at-if true row n rest more is same = sym (ap item-of is)
      at-if false row n rest more is same = same

      itemed-at : (q : K) (es : List (K × ℕ)) → AllByRecursion Told es → at R (itemed es) q ≡ item-through (at R es q)
      itemed-at q [] all = refl
      itemed-at q (e ∷ es) all =
          ap (λ found. at R (entry_and e.0 found (itemed es)) q) all.0.1
          ∙ at-if (is_eq (R q e.0)) all.0.0 e.1 (at R (itemed es) q) (at R es q) all.0.1 (itemed-at q es all.1)

      below-itemed : (k : K) (es : List (K × ℕ)) → AllByRecursion Told es → T (below_all R k es) → T (below_all R k (itemed es))
      below-itemed k [] all below = tt
      below-itemed k (e ∷ es) all below =
          subst (λ found. T (below_all R k (entry_and e.0 found (itemed es)))) (sym all.0.1)
          (t-both (is_lt (R k e.0)) (below_all R k (itemed es)) (t-first (is_lt (R k e.0)) (below_all R k es) below) (below-itemed k es all.1 (t-second (is_lt (R k e.0)) (below_all R k es) below)))

      sorted-itemed : (es : List (K × ℕ)) → AllByRecursion Told es → T (is_sorted R es) → T (is_sorted R (itemed es))
      sorted-itemed [] all rises = tt
      sorted-itemed (e ∷ es) all rises =
          subst (λ found. T (is_sorted R (entry_and e.0 found (itemed es)))) (sym all.0.1)
          (t-both (below_all R e.0 (itemed es)) (is_sorted R (itemed es)) (below-itemed e.0 es all.1 (t-first (below_all R e.0 es) (is_sorted R es) rises))
          (sorted-itemed es all.1 (t-second (below_all R e.0 es) (is_sorted R es) rises)))

      take-items : (n : ℕ) (es : List (K × ℕ)) → AllByRecursion Told es → items_at rows (take n (values_of es)) ≡ take n (items_at rows (values_of es))
      take-items zero es all = refl
      take-items (suc n) [] all = refl
      take-items (suc n) (e ∷ es) all =
          ap (λ found. item_and found (items_at rows (take n (values_of es)))) all.0.1 ∙ ap (λ items. all.0.0.item ∷ items) (take-items n es all.1)
          ∙ sym (ap (λ found. take (suc n) (item_and found (items_at rows (values_of es)))) all.0.1)

      module _ (index : List (K × ℕ)) (was : Indexes key (at nat_cmp rows) (at R index)) (p : K → Bool) (ok : LiveItem → Bool) (same : (item : LiveItem) → ok item ≡ p (key item)) where
        abbrev Listed : ℕ × Row → Type 0
        Listed e = (at R index (key e.1.item) ≡ Some e.0) × (at nat_cmp rows e.0 ≡ Some e.1)

        abbrev through : K → Option LiveItem
        through q = item-through (cond (p q) (at R index q) None)

        -- the first item at a key that passes
        here-is : (q : K) (e : ℕ × Row) → Listed e → ok e.1.item ≡ true → q ≡ key e.1.item → through q ≡ Some e.1.item
        here-is q e listed passes is =
            let on : p q ≡ true = ap p is ∙ sym (same e.1.item) ∙ passes in
            ap (λ b. item-through (cond b (at R index q) None)) on ∙ ap item-through (ap (at R index) is ∙ listed.0) ∙ ap item-of listed.1

        some-if : (b c : Bool) (q : K) (x : LiveItem) (e : ℕ × Row) (es : List (ℕ × Row)) → ok e.1.item ≡ b → is_eq (R q (key e.1.item)) ≡ c → Listed e
            → (first-at q (filter ok (items_in es)) ≡ Some x → through q ≡ Some x)
            → cond b (cond c (Some e.1.item) (first-at q (filter ok (items_in es)))) (first-at q (filter ok (items_in es))) ≡ Some x → through q ≡ Some x
        some-if true true q x e es passes tied listed rest there = here-is q e listed passes (key-is q (key e.1.item) tied) ∙ there
        some-if true false q x e es passes tied listed rest there = rest there
        some-if false c q x e es passes tied listed rest there = rest there

        first-if : (b : Bool) (q : K) (item : LiveItem) (more : List LiveItem) → first-at q (cond b (item ∷ more) more) ≡ cond b (cond (is_eq (R q (key item))) (Some item) (first-at q more)) (first-at q more)
        first-if true q item more = refl
        first-if false q item more = refl

        some-first : (q : K) (x : LiveItem) (es : List (ℕ × Row)) → AllByRecursion Listed es → first-at q (filter ok (items_in es)) ≡ Some x → through q ≡ Some x
        some-first q x [] all there = absurd (cc there)
        some-first q x (e ∷ es) all there =
            some-if (ok e.1.item) (is_eq (R q (key e.1.item))) q x e es refl refl all.0 (some-first q x es all.1)
            (sym (first-if (ok e.1.item) q e.1.item (filter ok (items_in es))) ∙ there)

        abbrev Misses : K → ℕ × Row → Type 0
        Misses q e = (ok e.1.item && is_eq (R q (key e.1.item))) ≡ false

        none-if : (b c : Bool) (q : K) (e : ℕ × Row) (es : List (ℕ × Row)) → ok e.1.item ≡ b → is_eq (R q (key e.1.item)) ≡ c → (first-at q (filter ok (items_in es)) ≡ None → AllByRecursion (Misses q) es)
            → cond b (cond c (Some e.1.item) (first-at q (filter ok (items_in es)))) (first-at q (filter ok (items_in es))) ≡ None → AllByRecursion (Misses q) (e ∷ es)
        none-if true true q e es passes tied rest none = absurd (cc none)
        none-if true false q e es passes tied rest none = (ap (λ b. b && is_eq (R q (key e.1.item))) passes ∙ tied, rest none)
        none-if false c q e es passes tied rest none = (ap (λ b. b && is_eq (R q (key e.1.item))) passes, rest none)

        none-first : (q : K) (es : List (ℕ × Row)) → first-at q (filter ok (items_in es)) ≡ None → AllByRecursion (Misses q) es
        none-first q [] none = tt
        none-first q (e ∷ es) none =
            none-if (ok e.1.item) (is_eq (R q (key e.1.item))) q e es refl refl (none-first q es)
            (sym (first-if (ok e.1.item) q e.1.item (filter ok (items_in es))) ∙ none)

        none-through : (b : Bool) (q : K) (stands : Option ℕ) → p q ≡ b → at R index q ≡ stands → AllByRecursion (Misses q) rows → item-through (cond b stands None) ≡ None
        none-through false q stands off is misses = refl
        none-through true q None on is misses = refl
        none-through true q (Some n) on is misses =
            let told-row : (row : Row) × (at nat_cmp rows n ≡ Some row) × (key row.item ≡ q) = row-by key q (at nat_cmp rows n) (was.sound q n is) in
            let miss : (ok told-row.0.item && is_eq (R q (key told-row.0.item))) ≡ false = found (Misses q) n told-row.0 rows misses told-row.1 in
            let passes : ok told-row.0.item ≡ true = same told-row.0.item ∙ ap p told-row.2 ∙ on in
            let tied : is_eq (R q (key told-row.0.item)) ≡ true = ap (λ k. is_eq (R q k)) told-row.2 ∙ ap is_eq (tied_itself order.total q) in
            absurd (cc (miss, passes, tied, ap (λ b. b && is_eq (R q (key told-row.0.item))) passes))

        through-by : (q : K) (first : Option LiveItem) → first-at q (filter ok (items_in rows)) ≡ first → AllByRecursion Listed rows → through q ≡ first
        through-by q (Some x) is all = some-first q x rows all is
        through-by q None is all =
            ap (λ stands. item-through (cond (p q) stands None)) refl ∙ none-through (p q) q (at R index q) refl refl (none-first q rows is)

        -- ---- siblings differ
        apart-rows : (e : ℕ × Row) (es : List (ℕ × Row)) → Listed e → AllByRecursion Listed es → AllByRecursion (λ (f : ℕ × Row). e.0 < f.0) es
            → AllByRecursion (λ (z : LiveItem). is_eq (R (key e.1.item) (key z)) ≡ false) (items_in es)
        apart-rows e [] here all above = tt
        apart-rows e (f ∷ es) here all above = (
          elim (told order (key e.1.item) (key f.1.item)) [
            | inl one ↦
                let number : Some e.0 ≡ Some f.0 = sym here.0 ∙ ap (at R index) one ∙ all.0.0 in
                let is : e.0 ≡ f.0 = cc in
                absurd (let less : e.0 < f.0 = above.0 in omega (arith, is, less))
            | inr apart ↦ apart
          ],
          apart-rows e es here all.1 above.1,
        )

        distinct-rows : (es : List (ℕ × Row)) → AllByRecursion Listed es → Up es → Distinct (filter ok (items_in es))
        distinct-rows [] all rises = tt
        distinct-rows (e ∷ es) all rises =
            elim (ok e.1.item) as (λ b. Distinct (cond b (e.1.item ∷ filter ok (items_in es)) (filter ok (items_in es)))) [
              | true ↦ (each-kept (λ (z : LiveItem). is_eq (R (key e.1.item) (key z)) ≡ false) ok (items_in es) (apart-rows e es all.0 all.1 rises.0), distinct-rows es all.1 rises.1)
              | false ↦ distinct-rows es all.1 rises.1
            ]

        module _ (lined : Lined rows) (rises : IsStrictlySortedBy nat_cmp (keys_of rows)) (ordered : IsStrictlySortedBy R (keys_of index)) where
          all-rows-listed : AllByRecursion Listed rows
          all-rows-listed = each-so (λ (e : ℕ × Row). at nat_cmp rows e.0 ≡ Some e.1) Listed (λ e there. (was.listed e.0 e.1 there, there)) rows (all-found rows rises)

          all-told : AllByRecursion Told index
          all-told = each-so (λ (e : K × ℕ). at R index e.0 ≡ Some e.1) Told (λ e there. row-by key e.0 (at nat_cmp rows e.1) (was.sound e.0 e.1 there)) index (each-found index ordered)

          abbrev part : List (K × ℕ)
          part = where_key R p index

          part-told : AllByRecursion Told part
          part-told = each-kept Told (λ (e : K × ℕ). p e.0) index all-told

          part-at : (q : K) → at R part q ≡ cond (p q) (at R index q) None
          part-at q =
              as-find q part ∙ find-where_key R p q (λ x tied. ap p (sym (order.exact q x tied))) index ∙ ap (λ stands. cond (p q) stands None) (sym (as-find q index))

          or-none : (first : Option LiveItem) → or-else first None ≡ first
          or-none None = refl
          or-none (Some x) = refl

          same-at : (q : K) → find R q (sorted_from [] (filter ok (items_in rows))) ≡ find R q (itemed part)
          same-at q =
              sym (as-find q (sorted_from [] (filter ok (items_in rows)))) ∙ fold-at q [] (filter ok (items_in rows)) (distinct-rows rows all-rows-listed (up rows rises))
              ∙ or-none (first-at q (filter ok (items_in rows))) ∙ sym (through-by q (first-at q (filter ok (items_in rows))) refl all-rows-listed)
              ∙ ap item-through (sym (part-at q)) ∙ sym (itemed-at q part part-told) ∙ as-find q (itemed part)

          same-order : sorted_from [] (filter ok (items_in rows)) ≡ itemed part
          same-order =
              same_entries R order.total order.exact (sorted_from [] (filter ok (items_in rows))) (itemed part) (sorted-from [] (filter ok (items_in rows)) tt)
              (sorted-itemed part part-told (is_sorted-where_key R p index (from-strict index ordered))) same-at

          -- the first items in order of the key are those of the first numbers that the index has
          pub first-in-order : (most : ℕ) → items_at rows (take most (values_of part)) ≡ take most (values_of (sorted_from [] (filter ok (items_in rows))))
          first-in-order most = take-items most part part-told ∙ ap (take most) (sym (itemed-values part) ∙ ap values_of (sym same-order))
