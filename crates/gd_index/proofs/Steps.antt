-- The three maps belong together after each step.
use Rattle.std.proofs.Common.{◌≡◌, ℕ, ◌<◌, Bool, ◌⊎◌, inl, inr, true, false, ◌&&◌, nat_eq, eqb-true, eq-eqb, List, [], ◌∷◌, ◌++◌, Option, Some, None, refl, ap, sym, subst, ◌∙◌}
use Rattle.std.specs.List.{AllByRecursion, All}
use Rattle.std.specs.List.Sorted.{IsStrictlySortedBy}
use Rattle.std.specs.Map.{keys_of, remove_entry}
use Rattle.std.specs.Ordering.{nat_cmp, is_eq}
use Rattle.std.specs.BTreeMap.{insert_entry, is_at}
use Rattle.gd_names.specs.Caseless.{lower_case}
use Rattle.gd_names.proofs.Each.{each, each-append}
use Rattle.gd_names.proofs.Inserted.{put-last}
use Rattle.gd_item.specs.declared.live.LiveItem.{LiveItem}
use Rattle.gd_index.specs.declared.row.Row.{Row}
use Rattle.gd_index.specs.Indexed.{at, spot_cmp, spot_of, digest_in, items_in, IsRow, Indexes, IsIndexed, Puts, Same, Moves, placed_row, filled_row, rewritten}
use Rattle.gd_index.proofs.Orders.{numbers, spots, never-apart, told, put-other}
use Rattle.gd_index.proofs.Indexing.{same-index, undone, pushed, changed-index, dropped}
use Rattle.std.specs.Cmp.Lexicographic.{pointwise}
use Rattle.gd_index.proofs.Finding.{both-true, same-text, text-itself}
use Rattle.gd_index.proofs.Lines.{none-rewritten, Lined, found, below-lines, none-there, one-more-item, lined-removed, rewritten-keys, rewritten-lined}

abbrev pub change-of : LiveItem → ℕ
change-of item = item.change

-- ---- one more row
module _ (rows more : List (ℕ × Row)) (row : Row) (lined : Lined rows) (above : All (λ (x : LiveItem). x.number < row.item.number) (items_in rows))
    (put : more ≡ insert_entry nat_cmp rows row.item.number row) where
  below : AllByRecursion (λ (e : ℕ × Row). e.0 < row.item.number) rows
  below = below-lines row.item.number rows (each (λ (x : LiveItem). x.number < row.item.number) (items_in rows) above) lined

  last-row : more ≡ rows ++ (row.item.number, row) ∷ []
  last-row = put ∙ put-last row.item.number row rows below

  pub inserted-items : items_in more ≡ items_in rows ++ row.item ∷ []
  inserted-items = ap items_in last-row ∙ one-more-item rows (row.item.number, row)

  pub none-before : at nat_cmp rows row.item.number ≡ None
  none-before = none-there row.item.number rows below

  inserted-lined : IsRow (row.item.number, row) → Lined more
  inserted-lined line = subst (λ es. AllByRecursion IsRow es) (sym last-row) (each-append IsRow rows ((row.item.number, row) ∷ []) lined (line, tt))

pub inserted : (rows more : List (ℕ × Row)) (names names2 : List ((ℕ × List ℕ) × ℕ)) (changes changes2 : List (ℕ × ℕ)) (row : Row) → IsIndexed rows names changes
    → row.spot ≡ spot_of row.item → row.digest ≡ digest_in row.item.bytes → All (λ (x : LiveItem). x.number < row.item.number) (items_in rows)
    → at nat_cmp changes row.item.change ≡ None → at spot_cmp names (spot_of row.item) ≡ None
    → more ≡ insert_entry nat_cmp rows row.item.number row → Puts nat_cmp row.item.number (Some row) rows more → IsStrictlySortedBy nat_cmp (keys_of more)
    → Puts spot_cmp (spot_of row.item) (Some row.item.number) names names2 → Puts nat_cmp row.item.change (Some row.item.number) changes changes2 → IsIndexed more names2 changes2
inserted rows more names names2 changes changes2 row was spot digest above fresh free put puts rises name change =
    let none : at nat_cmp rows row.item.number ≡ None = none-before rows more row was.lined above put in
    record {
      lined = inserted-lined rows more row was.lined above put (record { number = refl; spot = spot; digest = digest });
      rises = rises;
      by_name = pushed spots spot_of row.item.number row rows more names names2 was.by_name none free puts name;
      by_change = pushed numbers change-of row.item.number row rows more changes changes2 was.by_change none fresh puts change;
    }

-- put at its keys and taken out again
pub put-back : (rows more : List (ℕ × Row)) (names mid names2 : List ((ℕ × List ℕ) × ℕ)) (changes half changes2 : List (ℕ × ℕ)) (spot : ℕ × List ℕ) (change n : ℕ) → IsIndexed rows names changes
    → more ≡ rows → at nat_cmp changes change ≡ None → at spot_cmp names spot ≡ None
    → Puts spot_cmp spot (Some n) names mid → Puts nat_cmp change (Some n) changes half → Puts spot_cmp spot None mid names2 → Puts nat_cmp change None half changes2 → IsIndexed more names2 changes2
put-back rows more names mid names2 changes half changes2 spot change n was same fresh free name date unname undate =
    subst (λ (es : List (ℕ × Row)). IsIndexed es names2 changes2) (sym same) (record {
      lined = was.lined;
      rises = was.rises;
      by_name = same-index spots spot_of (at nat_cmp rows) names names2 was.by_name (undone spots spot_of spot n names mid names2 free name unname);
      by_change = same-index numbers change-of (at nat_cmp rows) changes changes2 was.by_change (undone numbers change-of change n changes half changes2 fresh date undate);
    })

-- ---- one row less
pub removed : (rows less : List (ℕ × Row)) (names names2 : List ((ℕ × List ℕ) × ℕ)) (changes changes2 : List (ℕ × ℕ)) (n : ℕ) (row : Row) → IsIndexed rows names changes
    → at nat_cmp rows n ≡ Some row → less ≡ remove_entry (is_at (nat_cmp n)) rows → Puts nat_cmp n None rows less → IsStrictlySortedBy nat_cmp (keys_of less)
    → Puts spot_cmp row.spot None names names2 → Puts nat_cmp row.item.change None changes changes2 → IsIndexed less names2 changes2
removed rows less names names2 changes changes2 n row was stood is gone rises name change =
    let line : IsRow (n, row) = found IsRow n row rows was.lined stood in
    let unname : Puts spot_cmp (spot_of row.item) None names names2 = subst (λ (s : ℕ × List ℕ). Puts spot_cmp s None names names2) line.spot name in
    record {
      lined = subst (λ (es : List (ℕ × Row)). Lined es) (sym is) (lined-removed (is_at (nat_cmp n)) rows was.lined);
      rises = rises;
      by_name = dropped spots spot_of n row rows less names names2 was.by_name stood gone unname;
      by_change = dropped numbers change-of n row rows less changes changes2 was.by_change stood gone change;
    }

-- ---- one row changed
rewritten-rises : (n : ℕ) (f : Row → Row) (rows more : List (ℕ × Row)) → more ≡ rewritten n f rows → IsStrictlySortedBy nat_cmp (keys_of rows) → IsStrictlySortedBy nat_cmp (keys_of more)
rewritten-rises n f rows more is rises = subst (λ (ks : List ℕ). IsStrictlySortedBy nat_cmp ks) (sym (ap keys_of is ∙ rewritten-keys n f rows)) rises

pub moved : (rows more : List (ℕ × Row)) (names names2 : List ((ℕ × List ℕ) × ℕ)) (changes changes2 : List (ℕ × ℕ)) (n change parent : ℕ) (name : List ℕ) (first : Row) → IsIndexed rows names changes
    → at nat_cmp rows n ≡ Some first → more ≡ rewritten n (placed_row change parent name) rows → Puts nat_cmp n (Some (placed_row change parent name first)) rows more
    → ((m : ℕ) → at spot_cmp names (parent, lower_case name) ≡ Some m → m ≡ n) → at nat_cmp changes change ≡ None
    → Moves spot_cmp n first.spot (parent, lower_case name) names names2 → Moves nat_cmp n first.item.change change changes changes2 → IsIndexed more names2 changes2
moved rows more names names2 changes changes2 n change parent name first was stood is put free fresh move date =
    let line : IsRow (n, first) = found IsRow n first rows was.lined stood in
    let names_move : Moves spot_cmp n (spot_of first.item) (parent, lower_case name) names names2 = subst (λ (s : ℕ × List ℕ). Moves spot_cmp n s (parent, lower_case name) names names2) line.spot move in
    record {
      lined = subst (λ (es : List (ℕ × Row)). Lined es) (sym is) (rewritten-lined n (placed_row change parent name) (λ e row. record { number = row.number; spot = refl; digest = row.digest }) rows was.lined);
      rises = rewritten-rises n (placed_row change parent name) rows more is was.rises;
      by_name = changed-index spots spot_of n first (placed_row change parent name first) rows more names names2 was.by_name stood put free names_move;
      by_change = changed-index numbers change-of n first (placed_row change parent name first) rows more changes changes2 was.by_change stood put (λ m there. absurd (cc (fresh, there))) date;
    }

-- an index at a key that stays
stays : (n : ℕ) (first : Row) (rows : List (ℕ × Row)) (names : List ((ℕ × List ℕ) × ℕ)) → Indexes spot_of (at nat_cmp rows) (at spot_cmp names) → at nat_cmp rows n ≡ Some first
    → Moves spot_cmp n (spot_of first.item) (spot_of first.item) names names
stays n first rows names was stood = record {
  here = was.listed n first stood;
  kept = λ k apart far. refl;
  left = λ apart. absurd (never-apart spots (spot_of first.item) (spot_of first.item) refl apart);
}

same-one : (a b : ℕ) → Some a ≡ Some b → a ≡ b
same-one a b is = cc

pub filled : (rows more : List (ℕ × Row)) (names : List ((ℕ × List ℕ) × ℕ)) (changes changes2 : List (ℕ × ℕ)) (n change : ℕ) (bytes : List ℕ) (first : Row) → IsIndexed rows names changes
    → at nat_cmp rows n ≡ Some first → more ≡ rewritten n (filled_row change bytes) rows → Puts nat_cmp n (Some (filled_row change bytes first)) rows more
    → at nat_cmp changes change ≡ None → Moves nat_cmp n first.item.change change changes changes2 → IsIndexed more names changes2
filled rows more names changes changes2 n change bytes first was stood is put fresh date =
    record {
      lined = subst (λ (es : List (ℕ × Row)). Lined es) (sym is) (rewritten-lined n (filled_row change bytes) (λ e row. record { number = row.number; spot = row.spot; digest = refl }) rows was.lined);
      rises = rewritten-rises n (filled_row change bytes) rows more is was.rises;
      by_name = changed-index spots spot_of n first (filled_row change bytes first) rows more names names was.by_name stood put
          (λ m there. same-one m n (sym there ∙ was.by_name.listed n first stood)) (stays n first rows names was.by_name stood);
      by_change = changed-index numbers change-of n first (filled_row change bytes first) rows more changes changes2 was.by_change stood put (λ m there. absurd (cc (fresh, there))) date;
    }

-- ---- a number that goes from spot to spot
abbrev pub same_spot : ℕ × List ℕ → ℕ × List ℕ → Bool
same_spot a b = nat_eq a.0 b.0 && pointwise nat_eq a.1 b.1

spot-is : (a b : ℕ × List ℕ) → same_spot a b ≡ true → a ≡ b
spot-is a b is =
    let parts : (nat_eq a.0 b.0 ≡ true) × (pointwise nat_eq a.1 b.1 ≡ true) = both-true (nat_eq a.0 b.0) (pointwise nat_eq a.1 b.1) is in
    ap (λ (p : ℕ). (p, a.1)) (eqb-true a.0 b.0 parts.0) ∙ ap (λ (t : List ℕ). (b.0, t)) (same-text a.1 b.1 parts.1)

spot-itself : (a b : ℕ × List ℕ) → a ≡ b → same_spot a b ≡ true
spot-itself a b is = subst (λ (s : ℕ × List ℕ). same_spot a s ≡ true) is (ap (λ b. b && pointwise nat_eq a.1 a.1) (eq-eqb a.0 a.0 refl) ∙ text-itself a.1)

pub spot-stays : (n : ℕ) (from to : ℕ × List ℕ) (old new : List ((ℕ × List ℕ) × ℕ)) → same_spot from to ≡ true → Puts spot_cmp to (Some n) old new → Moves spot_cmp n from to old new
spot-stays n from to old new is put = record {
  here = put.here;
  kept = λ k apart far. put-other spots to k (Some n) old new put apart;
  left = λ apart. absurd (never-apart spots to from (sym (spot-is from to is)) apart);
}

apart-by : (from to : ℕ × List ℕ) → same_spot from to ≡ false → (from ≡ to) ⊎ (is_eq (spot_cmp from to) ≡ false) → is_eq (spot_cmp from to) ≡ false
apart-by from to is (inl same) = absurd (let on : same_spot from to ≡ true = spot-itself from to same in cc)
apart-by from to is (inr apart) = apart

pub spot-goes : (n : ℕ) (from to : ℕ × List ℕ) (old mid new : List ((ℕ × List ℕ) × ℕ)) → same_spot from to ≡ false → Puts spot_cmp to (Some n) old mid → Puts spot_cmp from None mid new
    → Moves spot_cmp n from to old new
spot-goes n from to old mid new is put gone = record {
  here = put-other spots from to None mid new gone (apart-by from to is (told spots from to)) ∙ put.here;
  kept = λ k apart far. put-other spots from k None mid new gone far ∙ put-other spots to k (Some n) old mid put apart;
  left = λ apart. gone.here;
}

-- nothing changed
pub same-filled : (rows more : List (ℕ × Row)) (names : List ((ℕ × List ℕ) × ℕ)) (changes changes2 : List (ℕ × ℕ)) → IsIndexed rows names changes → more ≡ rows → Same nat_cmp changes changes2 → IsIndexed more names changes2
same-filled rows more names changes changes2 was same dates =
    subst (λ (es : List (ℕ × Row)). IsIndexed es names changes2) (sym same)
    (record { lined = was.lined; rises = was.rises; by_name = was.by_name; by_change = same-index numbers change-of (at nat_cmp rows) changes changes2 was.by_change dates })

-- the row may be there or not
pub filled-by : (stands : Option Row) (rows more : List (ℕ × Row)) (names : List ((ℕ × List ℕ) × ℕ)) (changes changes2 : List (ℕ × ℕ)) (n change : ℕ) (bytes : List ℕ) → IsIndexed rows names changes
    → at nat_cmp rows n ≡ stands → more ≡ rewritten n (filled_row change bytes) rows → at nat_cmp changes change ≡ None
    → ((row : Row) → at nat_cmp rows n ≡ Some row → Puts nat_cmp n (Some (filled_row change bytes row)) rows more × Moves nat_cmp n row.item.change change changes changes2)
    → (at nat_cmp rows n ≡ None → changes2 ≡ changes) → IsIndexed more names changes2
filled-by None rows more names changes changes2 n change bytes was is put fresh there none =
    subst (λ (cs : List (ℕ × ℕ)). IsIndexed more names cs) (sym (none is))
    (subst (λ (es : List (ℕ × Row)). IsIndexed es names changes) (sym (put ∙ none-rewritten n (filled_row change bytes) rows is)) was)
filled-by (Some row) rows more names changes changes2 n change bytes was is put fresh there none =
    filled rows more names changes changes2 n change bytes row was is put (there row is).0 fresh (there row is).1
