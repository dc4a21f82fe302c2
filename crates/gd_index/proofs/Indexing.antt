-- An index stays one where an item is made, changed or removed.
use Rattle.std.proofs.Common.{◌≡◌, ℕ, inl, inr, false, List, Option, Some, None, ap, sym, ◌∙◌}
use Rattle.std.specs.Option.{option_map}
use Rattle.std.specs.Ordering.{nat_cmp, is_eq}
use Rattle.std.specs.declared.cmp.Ordering.{Ordering}
use Rattle.gd_item.specs.declared.live.LiveItem.{LiveItem}
use Rattle.gd_index.specs.declared.row.Row.{Row}
use Rattle.gd_index.specs.Indexed.{at, Puts, Same, Moves, Indexes}
use Rattle.gd_index.proofs.Orders.{IsOrder, numbers, told, never-apart, put-other}

same-row : (a b : Row) → Some a ≡ Some b → a ≡ b
same-row a b is = cc

same-number : (a b : ℕ) → Some a ≡ Some b → a ≡ b
same-number a b is = cc

none-some : {X : Type 0} (x : X) → None ≡ Some x → ⊥
none-some x is = absurd (cc is)

module _ {K : Type 0} {R : K → K → Ordering} (order : IsOrder R) (key : LiveItem → K) where
  same-key : (a b : K) → Some a ≡ Some b → a ≡ b
  same-key a b is = cc

  abbrev key-of : Option Row → Option K
  key-of found = option_map (λ (row : Row). key row.item) found

  pub same-index : (rows : ℕ → Option Row) (old new : List (K × ℕ)) → Indexes key rows (at R old) → Same R old new → Indexes key rows (at R new)
  same-index rows old new was same = record {
    listed = λ n row there. same.each (key row.item) ∙ was.listed n row there;
    sound = λ k n there. was.sound k n (sym (same.each k) ∙ there);
  }

  -- the same rows, found in the same way
  pub same-rows : (rows more : ℕ → Option Row) (index : K → Option ℕ) → Indexes key rows index → ((n : ℕ) → more n ≡ rows n) → Indexes key more index
  same-rows rows more index was same = record {
    listed = λ n row there. was.listed n row (sym (same n) ∙ there);
    sound = λ k n there. ap (λ found. option_map (λ (row : Row). key row.item) found) (same n) ∙ was.sound k n there;
  }

  -- put and taken out again
  pub undone : (k : K) (n : ℕ) (old mid new : List (K × ℕ)) → at R old k ≡ None → Puts R k (Some n) old mid → Puts R k None mid new → Same R old new
  undone k n old mid new none put gone = record {
    each = λ q. elim (told order k q) [
      | inl same ↦ ap (at R new) (sym same) ∙ gone.here ∙ sym none ∙ ap (at R old) same
      | inr apart ↦ put-other order k q None mid new gone apart ∙ put-other order k q (Some n) old mid put apart
    ];
  }

  module _ (n : ℕ) (row : Row) (rows more : List (ℕ × Row)) (old new : List (K × ℕ)) (was : Indexes key (at nat_cmp rows) (at R old))
      (none : at nat_cmp rows n ≡ None) (free : at R old (key row.item) ≡ None) (put : Puts nat_cmp n (Some row) rows more) (also : Puts R (key row.item) (Some n) old new) where
    pushed-listed : (m : ℕ) (r : Row) → at nat_cmp more m ≡ Some r → at R new (key r.item) ≡ Some m
    pushed-listed m r there =
        elim (told numbers n m) [
          | inl same ↦
              let is : row ≡ r = same-row row r (sym put.here ∙ ap (at nat_cmp more) same ∙ there) in
              ap (λ (x : Row). at R new (key x.item)) (sym is) ∙ also.here ∙ ap (λ (x : ℕ). Some x) same
          | inr other ↦
              let listed : at R old (key r.item) ≡ Some m = was.listed m r (sym (put-other numbers n m (Some row) rows more put other) ∙ there) in
              elim (told order (key row.item) (key r.item)) [
                | inl same ↦ absurd (none-some m (sym free ∙ ap (at R old) same ∙ listed))
                | inr apart ↦ put-other order (key row.item) (key r.item) (Some n) old new also apart ∙ listed
              ]
        ]

    pushed-sound : (k : K) (m : ℕ) → at R new k ≡ Some m → key-of (at nat_cmp more m) ≡ Some k
    pushed-sound k m there =
        elim (told order (key row.item) k) [
          | inl same ↦
              let is : n ≡ m = same-number n m (sym also.here ∙ ap (at R new) same ∙ there) in
              ap (λ (x : ℕ). key-of (at nat_cmp more x)) (sym is) ∙ ap key-of put.here ∙ ap (λ (x : K). Some x) same
          | inr apart ↦
              let sound : key-of (at nat_cmp rows m) ≡ Some k = was.sound k m (sym (put-other order (key row.item) k (Some n) old new also apart) ∙ there) in
              elim (told numbers n m) [
                | inl same ↦ absurd (none-some k (sym (ap key-of (ap (at nat_cmp rows) (sym same) ∙ none)) ∙ sound))
                | inr other ↦ ap key-of (put-other numbers n m (Some row) rows more put other) ∙ sound
              ]
        ]

    pub pushed : Indexes key (at nat_cmp more) (at R new)
    pushed = record { listed = pushed-listed; sound = pushed-sound }

  -- an item that changes: its new key is free or its own, and its old key is left
  module _ (n : ℕ) (first then : Row) (rows more : List (ℕ × Row)) (old new : List (K × ℕ)) (was : Indexes key (at nat_cmp rows) (at R old))
      (stood : at nat_cmp rows n ≡ Some first) (put : Puts nat_cmp n (Some then) rows more) (free : (m : ℕ) → at R old (key then.item) ≡ Some m → m ≡ n)
      (move : Moves R n (key first.item) (key then.item) old new) where
    apart-from-itself : (m : ℕ) → m ≡ n → is_eq (nat_cmp n m) ≡ false → ⊥
    apart-from-itself m same other = never-apart numbers n m (sym same) other

    changed-listed : (m : ℕ) (r : Row) → at nat_cmp more m ≡ Some r → at R new (key r.item) ≡ Some m
    changed-listed m r there =
        elim (told numbers n m) [
          | inl same ↦
              let is : then ≡ r = same-row then r (sym put.here ∙ ap (at nat_cmp more) same ∙ there) in
              ap (λ (x : Row). at R new (key x.item)) (sym is) ∙ move.here ∙ ap (λ (x : ℕ). Some x) same
          | inr other ↦
              let listed : at R old (key r.item) ≡ Some m = was.listed m r (sym (put-other numbers n m (Some then) rows more put other) ∙ there) in
              elim (told order (key then.item) (key r.item)) [
                | inl same ↦ absurd (apart-from-itself m (free m (ap (at R old) same ∙ listed)) other)
                | inr apart ↦ elim (told order (key first.item) (key r.item)) [
                  | inl same ↦
                      let is : n ≡ m = same-number n m (sym (was.listed n first stood) ∙ ap (at R old) same ∙ listed) in
                      absurd (apart-from-itself m (sym is) other)
                  | inr far ↦ move.kept (key r.item) apart far ∙ listed
                ]
              ]
        ]

    changed-sound : (k : K) (m : ℕ) → at R new k ≡ Some m → key-of (at nat_cmp more m) ≡ Some k
    changed-sound k m there =
        elim (told order (key then.item) k) [
          | inl same ↦
              let is : n ≡ m = same-number n m (sym move.here ∙ ap (at R new) same ∙ there) in
              ap (λ (x : ℕ). key-of (at nat_cmp more x)) (sym is) ∙ ap key-of put.here ∙ ap (λ (x : K). Some x) same
          | inr apart ↦ elim (told order (key first.item) k) [
            | inl same ↦
                let away : is_eq (R (key then.item) (key first.item)) ≡ false = ap (λ (x : K). is_eq (R (key then.item) x)) same ∙ apart in
                absurd (none-some m (sym (move.left away) ∙ ap (at R new) same ∙ there))
            | inr far ↦
                let sound : key-of (at nat_cmp rows m) ≡ Some k = was.sound k m (sym (move.kept k apart far) ∙ there) in
                elim (told numbers n m) [
                  | inl same ↦
                      let is : key first.item ≡ k = same-key (key first.item) k (sym (ap key-of (ap (at nat_cmp rows) (sym same) ∙ stood)) ∙ sound) in
                      absurd (never-apart order (key first.item) k is far)
                  | inr other ↦ ap key-of (put-other numbers n m (Some then) rows more put other) ∙ sound
                ]
          ]
        ]

    pub changed-index : Indexes key (at nat_cmp more) (at R new)
    changed-index = record { listed = changed-listed; sound = changed-sound }

  module _ (n : ℕ) (row : Row) (rows less : List (ℕ × Row)) (old new : List (K × ℕ)) (was : Indexes key (at nat_cmp rows) (at R old))
      (stood : at nat_cmp rows n ≡ Some row) (gone : Puts nat_cmp n None rows less) (also : Puts R (key row.item) None old new) where
    dropped-listed : (m : ℕ) (r : Row) → at nat_cmp less m ≡ Some r → at R new (key r.item) ≡ Some m
    dropped-listed m r there =
        elim (told numbers n m) [
          | inl same ↦ absurd (none-some r (sym gone.here ∙ ap (at nat_cmp less) same ∙ there))
          | inr other ↦
              let listed : at R old (key r.item) ≡ Some m = was.listed m r (sym (put-other numbers n m None rows less gone other) ∙ there) in
              elim (told order (key row.item) (key r.item)) [
                | inl same ↦
                    let is : n ≡ m = same-number n m (sym (was.listed n row stood) ∙ ap (at R old) same ∙ listed) in
                    absurd (never-apart numbers n m is other)
                | inr apart ↦ put-other order (key row.item) (key r.item) None old new also apart ∙ listed
              ]
        ]

    dropped-sound : (k : K) (m : ℕ) → at R new k ≡ Some m → key-of (at nat_cmp less m) ≡ Some k
    dropped-sound k m there =
        elim (told order (key row.item) k) [
          | inl same ↦ absurd (none-some m (sym also.here ∙ ap (at R new) same ∙ there))
          | inr apart ↦
              let sound : key-of (at nat_cmp rows m) ≡ Some k = was.sound k m (sym (put-other order (key row.item) k None old new also apart) ∙ there) in
              elim (told numbers n m) [
                | inl same ↦
                    let is : key row.item ≡ k = same-key (key row.item) k (sym (ap key-of (ap (at nat_cmp rows) (sym same) ∙ stood)) ∙ sound) in
                    absurd (never-apart order (key row.item) k is apart)
                | inr other ↦ ap key-of (put-other numbers n m None rows less gone other) ∙ sound
              ]
        ]

    pub dropped : Indexes key (at nat_cmp less) (at R new)
    dropped = record { listed = dropped-listed; sound = dropped-sound }
