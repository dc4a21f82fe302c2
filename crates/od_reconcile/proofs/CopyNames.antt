-- Copy names: what the search for one finds, and where a copy's path is.
use Rattle.std.proofs.Common.{◌≡◌, ◌⊎◌, inl, inr, ℕ, zero, suc, ◌+◌, ◌<◌, ◌≤◌, Bool, true, false, cond, List, [], ◌∷◌, ◌++◌, length, nat_lt, is_none, Option, Some, None, IfSome, IfNone, refl, ap, sym, ◌∙◌, arith, length-append, append_assoc, ◌≢◌, ⊎_elim}
use Rattle.std.proofs.lemmas.Bool.{true≢false, false≢true, lt-ltb, ltb-true, false_from_ne_true, cases_lt}
use Rattle.std.specs.Option.{option_map, option_to_list}
use Rattle.gd_names.specs.Copies.{AllTaken, IsLeastCopy, copy_of, is_among}
use Rattle.od_merge.specs.Merging.{and_taken, copied}
use Rattle.od_merge.specs.Pairs.{folder_of}
use Rattle.od_merge.proofs.Lists.{Path}
use Rattle.od_reconcile.specs.Copying.{copy_among, copy_beside, copy_from, left_of, moves_of, name_of, names_in}

not-less : (a b : ℕ) → (a < b → ⊥) → b ≤ a
not-less a b none = ⊎_elim (λ (less : a < b). absurd (none less)) (λ (more : b ≤ a). more) (cases_lt a b)

module _ (name : List ℕ) (folder : Bool) (host : List ℕ) (names : List (List ℕ)) where
  found-at : (t : Bool) (more from k : ℕ) → is_among names (copy_of name folder host from) ≡ t → from ≤ k
      → (suc from ≤ k → copy_from more (suc from) name folder host names ≡ Some (copy_of name folder host k))
      → is_among names (copy_of name folder host k) ≡ false → ((n : ℕ) → from ≤ n → n < k → is_among names (copy_of name folder host n) ≡ true)
      → cond t (copy_from more (suc from) name folder host names) (Some (copy_of name folder host from)) ≡ Some (copy_of name folder host k)
  found-at true more from k is within rest free least =
      let apart : from ≢ k = λ same. true≢false (sym is ∙ (ap (λ (n : ℕ). is_among names (copy_of name folder host n)) same ∙ free)) in
      rest (omega (arith, apart))
  found-at false more from k is within rest free least =
      let not_less : k ≤ from = not-less from k (λ less. true≢false (sym (least from (omega arith) less) ∙ is)) in
      let same : from ≡ k = omega arith in
      ap (λ (n : ℕ). Some (copy_of name folder host n)) same

  found : (fuel from k : ℕ) → from ≤ k → k < from + fuel → is_among names (copy_of name folder host k) ≡ false
      → ((n : ℕ) → from ≤ n → n < k → is_among names (copy_of name folder host n) ≡ true) → copy_from fuel from name folder host names ≡ Some (copy_of name folder host k)
  unfolding copy_from
  found zero from k within below free least = absurd (omega arith)
  found (suc more) from k within below free least =
      found-at (is_among names (copy_of name folder host from)) more from k refl within
      (λ next. found more (suc from) k next (omega arith) free (λ n low high. least n (omega arith) high)) free least

  none-at : (t : Bool) (more from : ℕ) → is_among names (copy_of name folder host from) ≡ t → is_among names (copy_of name folder host from) ≡ true
      → copy_from more (suc from) name folder host names ≡ None → cond t (copy_from more (suc from) name folder host names) (Some (copy_of name folder host from)) ≡ None
  none-at true more from is taken rest = rest
  none-at false more from is taken rest = absurd (true≢false (sym taken ∙ is))

  none : (fuel from : ℕ) → ((n : ℕ) → from ≤ n → n < from + fuel → is_among names (copy_of name folder host n) ≡ true) → copy_from fuel from name folder host names ≡ None
  unfolding copy_from
  none zero from taken = refl
  none (suc more) from taken =
      none-at (is_among names (copy_of name folder host from)) more from refl (taken from (omega arith) (omega arith))
      (none more (suc from) (λ n low high. taken n (omega arith) (omega arith)))

  same-length : (a b : ℕ) → length (copy_of name folder host a) ≡ length (copy_of name folder host b)
  same-length a b = simp length-append

  long-enough : (t : Bool) (x : Option (List ℕ)) → t ≡ false → cond t None x ≡ x
  long-enough true x is = absurd (true≢false is)
  long-enough false x is = refl

  too-long : (t : Bool) (x : Option (List ℕ)) → t ≡ true → cond t None x ≡ None
  too-long true x is = refl
  too-long false x is = absurd (false≢true is)

  least-copy : (copy : List ℕ) → IsLeastCopy name folder host names copy → Some copy ≡ copy_among name folder host names
  least-copy copy least =
      let long : length copy ≡ length (copy_of name folder host 1) = ap (λ (c : List ℕ). length c) least.is ∙ same-length least.number 1 in
      let short : nat_lt 255 (length (copy_of name folder host 1)) ≡ false = false_from_ne_true (nat_lt 255 (length (copy_of name folder host 1)))
      (λ more. let is = ltb-true 255 (length (copy_of name folder host 1)) more in let within = least.within in omega (arith, is, long, within)) in
      let to = least.to_9999 in
      let free : is_among names (copy_of name folder host least.number) ≡ false = sym (ap (λ (c : List ℕ). is_among names c) least.is) ∙ least.free in
      ap (λ (c : List ℕ). Some c) least.is
      ∙ (sym (found 9999 1 least.number least.from_one (omega (arith, to)) free least.least) ∙ sym (long-enough (nat_lt 255 (length (copy_of name folder host 1))) (copy_from 9999 1 name folder host names) short))

  no-copy-at : (t : Bool) → nat_lt 255 (length (copy_of name folder host 1)) ≡ t → (AllTaken name folder host names ⊎ (255 < length (copy_of name folder host 1)))
      → None ≡ cond t None (copy_from 9999 1 name folder host names)
  no-copy-at true is cause = refl
  no-copy-at false is (inl taken) = sym (none 9999 1 (λ n low high. taken n low (omega arith)))
  no-copy-at false is (inr long) = absurd (true≢false (sym (lt-ltb 255 (length (copy_of name folder host 1)) long) ∙ is))

  pub copy-is : (copy : Option (List ℕ)) → IfSome copy (λ c. IsLeastCopy name folder host names c)
      → IfNone copy (AllTaken name folder host names ⊎ (255 < length (copy_of name folder host 1))) → copy ≡ copy_among name folder host names
  copy-is None some none_is = no-copy-at (nat_lt 255 (length (copy_of name folder host 1))) refl none_is
  copy-is (Some copy) some none_is = least-copy copy some

-- the folder and the name of a path
pub folder-end : (folder : Path) (name : List ℕ) → folder_of (folder ++ name ∷ []) ≡ folder
folder-end [] name = refl
folder-end (top ∷ []) name = refl
folder-end (top ∷ (next ∷ folder)) name = ap (λ (path : Path). top ∷ path) (folder-end (next ∷ folder) name)

name-end : (folder : Path) (name : List ℕ) → name_of (folder ++ name ∷ []) ≡ name
name-end [] name = refl
name-end (top ∷ []) name = refl
name-end (top ∷ (next ∷ folder)) name = name-end (next ∷ folder) name

beside-long : (host : List ℕ) (folder : Bool) (taken : List Path) (above : Path) (name : List ℕ) → copy_beside host folder taken (above ++ name ∷ [])
    ≡ option_map (λ copy. folder_of (above ++ name ∷ []) ++ copy ∷ []) (copy_among (name_of (above ++ name ∷ [])) folder host (names_in (folder_of (above ++ name ∷ [])) taken))
beside-long host folder taken [] name = refl
beside-long host folder taken (top ∷ above) name = refl

pub beside : (host : List ℕ) (folder : Bool) (taken : List Path) (path above : Path) (name : List ℕ) → path ≡ above ++ name ∷ []
    → option_map (λ copy. above ++ copy ∷ []) (copy_among name folder host (names_in above taken)) ≡ copy_beside host folder taken path
beside host folder taken path above name is =
    sym (ap (λ (p : Path). copy_beside host folder taken p) is ∙ (beside-long host folder taken above name
    ∙ (ap (λ (f : Path). option_map (λ copy. f ++ copy ∷ []) (copy_among (name_of (above ++ name ∷ [])) folder host (names_in f taken))) (folder-end above name)
    ∙ ap (λ (n : List ℕ). option_map (λ copy. above ++ copy ∷ []) (copy_among n folder host (names_in above taken))) (name-end above name))))

-- one more conflict
pub moves-more : (to : Option Path) (path : Path) (those : List (Path × Option Path)) → moves_of ((path, to) ∷ those) ≡ option_to_list (option_map (λ new. (path, new)) to) ++ moves_of those
moves-more None path those = refl
moves-more (Some to) path those = refl

pub left-more : (to : Option Path) (path : Path) (those : List (Path × Option Path)) → left_of ((path, to) ∷ those) ≡ cond (is_none to) (path ∷ []) [] ++ left_of those
left-more None path those = refl
left-more (Some to) path those = refl

module _ (copy : List Path → Path → Option Path) where
  pub moves-step : (path : Path) (to : Option Path) (taken new_taken left rest : List Path) (old new goal : List (Path × Path)) → left ≡ path ∷ rest → to ≡ copy taken path → new_taken ≡ and_taken to taken
      → old ++ moves_of (copied copy taken left) ≡ goal → new ≡ old ++ option_to_list (option_map (λ n. (path, n)) to) → new ++ moves_of (copied copy new_taken rest) ≡ goal
  moves-step path to taken new_taken left rest old new goal left_is to_is taken_is before put =
      ap (λ (ps : List Path). new ++ moves_of (copied copy ps rest)) (taken_is ∙ ap (λ x. and_taken x taken) to_is)
      ∙ (ap (λ (ms : List (Path × Path)). ms ++ moves_of (copied copy (and_taken (copy taken path) taken) rest)) (put ∙ ap (λ x. old ++ option_to_list (option_map (λ n. (path, n)) x)) to_is)
      ∙ (append_assoc old (option_to_list (option_map (λ n. (path, n)) (copy taken path))) (moves_of (copied copy (and_taken (copy taken path) taken) rest))
      ∙ (ap (λ (ms : List (Path × Path)). old ++ ms) (sym (moves-more (copy taken path) path (copied copy (and_taken (copy taken path) taken) rest)))
      ∙ (ap (λ (ps : List Path). old ++ moves_of (copied copy taken ps)) (sym left_is) ∙ before))))

  pub left-step : (path : Path) (to : Option Path) (taken new_taken left rest : List Path) (old new goal : List Path) → left ≡ path ∷ rest → to ≡ copy taken path → new_taken ≡ and_taken to taken
      → old ++ left_of (copied copy taken left) ≡ goal → new ≡ old ++ cond (is_none to) (path ∷ []) [] → new ++ left_of (copied copy new_taken rest) ≡ goal
  left-step path to taken new_taken left rest old new goal left_is to_is taken_is before put =
      ap (λ (ps : List Path). new ++ left_of (copied copy ps rest)) (taken_is ∙ ap (λ x. and_taken x taken) to_is)
      ∙ (ap (λ (ms : List Path). ms ++ left_of (copied copy (and_taken (copy taken path) taken) rest)) (put ∙ ap (λ x. old ++ cond (is_none x) (path ∷ []) []) to_is)
      ∙ (append_assoc old (cond (is_none (copy taken path)) (path ∷ []) []) (left_of (copied copy (and_taken (copy taken path) taken) rest))
      ∙ (ap (λ (ms : List Path). old ++ ms) (sym (left-more (copy taken path) path (copied copy (and_taken (copy taken path) taken) rest)))
      ∙ (ap (λ (ps : List Path). old ++ left_of (copied copy taken ps)) (sym left_is) ∙ before))))
