-- The session of a number gets the bytes of a fragment; a session ends.
use Rattle.std.proofs.Common.{◌≡◌, ℕ, ◌+◌, ◌<◌, ◌≤◌, zero, suc, Bool, true, false, not, cond, nat_eq, List, [], ◌∷◌, ◌++◌, length, map, take, drop, set, get_or, Result, Ok, Err, OnOk, OnErr, refl, sym, ap, ◌∙◌, subst, append_assoc, arith}
use Rattle.std.specs.List.{All, AllPairs}
use Rattle.std.proofs.lemmas.Bool.{eqb-true, ne_eqb}
use Rattle.std.proofs.lemmas.List.{length-append, length-map, drop_more, take_more, take-append-le, take_all}
use Rattle.std.proofs.lemmas.List.Elements.{All-cons, All-head, All-tail, All-filter}
use Rattle.std.proofs.lemmas.List.Kept.{AllPairs-filter}
use Rattle.std.proofs.lemmas.List.Sums.{length-filter, count_by-le-length, sum_by-cons}
use Rattle.gd_names.proofs.Each.{AllPairs-head, AllPairs-tail}
use Rattle.gd_names.specs.declared.memory.NoMemory.{NoMemory}
use Rattle.gd_item.specs.Sessions.{Session, held_bytes, without_session, with_fragment}
use Rattle.gd_item.proofs.Pairs.{AllPairs-same_map}
use Rattle.gd_laws.proofs.Serving.{written_to, bytes-without}
use Rattle.gd_upload.specs.Stands.{IsWithin}

abbrev pub IsBefore : Session → Session → Type 0
IsBefore x y = x.number < y.number

-- no session above has the number
untouched : (number total : ℕ) (bytes : List ℕ) (sessions : List Session) → All (λ (session : Session). number < session.number) sessions → with_fragment number total bytes sessions ≡ sessions
untouched number total bytes [] above = refl
untouched number total bytes (session ∷ sessions) above =
    let high : number < session.number = All-head (λ (s : Session). number < s.number) session sessions above in
    ap (λ b. cond b (written_to total bytes session) session ∷ with_fragment number total bytes sessions) (ne_eqb session.number number (λ is. omega arith))
    ∙ ap (λ rest. session ∷ rest) (untouched number total bytes sessions (All-tail (λ (s : Session). number < s.number) session sessions above))

-- the first one has it
first-written : (number total : ℕ) (bytes : List ℕ) (session : Session) (sessions : List Session) → AllPairs IsBefore (session ∷ sessions) → nat_eq session.number number ≡ true
    → with_fragment number total bytes (session ∷ sessions) ≡ written_to total bytes session ∷ sessions
first-written number total bytes session sessions rising at =
    let above : All (λ (s : Session). number < s.number) sessions =
    subst (λ n. All (λ (s : Session). n < s.number) sessions) (eqb-true session.number number at) (AllPairs-head IsBefore session sessions rising) in
    ap (λ b. cond b (written_to total bytes session) session ∷ with_fragment number total bytes sessions) at ∙ ap (λ rest. written_to total bytes session ∷ rest) (untouched number total bytes sessions above)

-- the one at a place has it
pub written-at : (number total : ℕ) (bytes : List ℕ) (sessions : List Session) (i : ℕ) (d : Session) → AllPairs IsBefore sessions → i < length sessions
    → (get_or sessions i d).number ≡ number → set sessions i (written_to total bytes (get_or sessions i d)) ≡ with_fragment number total bytes sessions
written-at number total bytes [] i d rising lt at = absurd (omega arith)
written-at number total bytes (session ∷ sessions) zero d rising lt at =
    sym (first-written number total bytes session sessions rising (grind (arith, at)))
written-at number total bytes (session ∷ sessions) (suc i) d rising lt at =
    let below : session.number < (get_or sessions i d).number = AllPairs-head IsBefore session sessions rising i d (omega arith) in
    let off : nat_eq session.number number ≡ false = ne_eqb session.number number (λ is. omega arith) in
    ap (λ rest. session ∷ rest) (written-at number total bytes sessions i d (AllPairs-tail IsBefore session sessions rising) (omega arith) at)
    ∙ ap (λ b. cond b (written_to total bytes session) session ∷ with_fragment number total bytes sessions) (sym off)

-- the loop has come to it
pub written-found : (number total : ℕ) (bytes : List ℕ) (whole sessions : List Session) (i : ℕ) (at new : Session) (n : ℕ) → AllPairs IsBefore whole → sessions ≡ whole → i < length whole
    → at ≡ get_or sessions i at → n ≡ (get_or sessions i at).number → n ≡ number → new ≡ written_to total bytes (get_or sessions i at)
    → set sessions i new ≡ with_fragment number total bytes whole
written-found number total bytes whole sessions i at new n rising same lt is numbered test made =
    let P : List Session → Type 0 = λ xs. (get_or xs i at).number ≡ number in
    let here : (get_or whole i at).number ≡ number = subst P same (sym numbered ∙ test) in
    ap (set sessions i) made ∙ ap (λ xs. set xs i (written_to total bytes (get_or xs i at))) same ∙ written-at number total bytes whole i at rising lt here

-- none that a loop has seen has it
pub passed : (number total : ℕ) (bytes : List ℕ) (sessions : List Session) (i : ℕ) (d : Session) → i < length sessions → ((get_or sessions i d).number ≡ number → ⊥)
    → with_fragment number total bytes sessions ≡ take i sessions ++ with_fragment number total bytes (drop i sessions)
    → with_fragment number total bytes sessions ≡ take (i + 1) sessions ++ with_fragment number total bytes (drop (i + 1) sessions)
passed number total bytes sessions i d lt off so_far =
    let at = get_or sessions i d in
    let rest = with_fragment number total bytes (drop (i + 1) sessions) in
    let more : drop i sessions ≡ at ∷ drop (i + 1) sessions = drop_more sessions i d lt in
    let front : take (i + 1) sessions ≡ take i sessions ++ at ∷ [] = take_more sessions i d lt in
    let change : with_fragment number total bytes (drop i sessions) ≡ at ∷ rest =
    ap (with_fragment number total bytes) more ∙ ap (λ b. cond b (written_to total bytes at) at ∷ rest) (ne_eqb at.number number off) in
    so_far ∙ ap (λ t. take i sessions ++ t) change ∙ sym (append_assoc (take i sessions) (at ∷ []) rest) ∙ ap (λ t. t ++ rest) (sym front)

-- ---- the bounds
bytes-first : (session : Session) (sessions : List Session) → held_bytes (session ∷ sessions) ≡ length session.filled + held_bytes sessions
bytes-first session sessions = sum_by-cons (λ (s : Session). length s.filled) session sessions

bytes-written : (number total : ℕ) (bytes : List ℕ) (sessions : List Session) → AllPairs IsBefore sessions → held_bytes (with_fragment number total bytes sessions) ≤ held_bytes sessions + length bytes
bytes-written number total bytes [] rising = omega arith
bytes-written number total bytes (session ∷ sessions) rising =
    let rest : List Session = with_fragment number total bytes sessions in
    let now : Session = written_to total bytes session in
    (elim (nat_eq session.number number) as (λ b. nat_eq session.number number ≡ b → held_bytes (cond b now session ∷ rest) ≤ held_bytes (session ∷ sessions) + length bytes) [
      | true ↦ λ at.
          let whole : now ∷ rest ≡ now ∷ sessions = ap (λ b. cond b now session ∷ rest) (sym at) ∙ first-written number total bytes session sessions rising at in
          omega (arith, ap held_bytes whole, bytes-first now sessions, bytes-first session sessions, length-append session.filled bytes)
      | false ↦ λ off. omega (arith, bytes-written number total bytes sessions (AllPairs-tail IsBefore session sessions rising), bytes-first session sessions, bytes-first session rest)
    ]) refl

numbers-written : (number total : ℕ) (bytes : List ℕ) (sessions : List Session) → map (λ (s : Session). s.number) sessions ≡ map (λ (s : Session). s.number) (with_fragment number total bytes sessions)
numbers-written number total bytes [] = refl
numbers-written number total bytes (session ∷ sessions) =
    elim (nat_eq session.number number) as (λ b. map (λ (s : Session). s.number) (session ∷ sessions) ≡ map (λ (s : Session). s.number) (cond b (written_to total bytes session) session ∷ with_fragment number total bytes sessions)) [
      | true ↦ ap (λ ns. session.number ∷ ns) (numbers-written number total bytes sessions)
      | false ↦ ap (λ ns. session.number ∷ ns) (numbers-written number total bytes sessions)
    ]

given-written : (number total begun : ℕ) (bytes : List ℕ) (sessions : List Session) → All (λ (s : Session). s.number ≤ begun) sessions → All (λ (s : Session). s.number ≤ begun) (with_fragment number total bytes sessions)
given-written number total begun bytes [] all = all
given-written number total begun bytes (session ∷ sessions) all =
    let P : Session → Type 0 = λ s. s.number ≤ begun in
    let rest : List Session = with_fragment number total bytes sessions in
    let later : All P rest = given-written number total begun bytes sessions (All-tail P session sessions all) in
    elim (nat_eq session.number number) as (λ b. All P (cond b (written_to total bytes session) session ∷ rest)) [
      | true ↦ All-cons P (written_to total bytes session) rest (All-head P session sessions all) later
      | false ↦ All-cons P session rest (All-head P session sessions all) later
    ]

pub within-written : (number total begun : ℕ) (bytes : List ℕ) (sessions : List Session) → IsWithin sessions begun → held_bytes sessions + length bytes ≤ 536870912
    → IsWithin (with_fragment number total bytes sessions) begun
within-written number total begun bytes sessions within light =
    let now : List Session = with_fragment number total bytes sessions in
    let number_of : Session → ℕ = λ (s : Session). s.number in
    let few : length sessions ≤ 1000 = within.few in
    let same : map number_of sessions ≡ map number_of now = numbers-written number total bytes sessions in
    let long : length now ≡ length sessions = sym (length-map now number_of) ∙ sym (ap length same) ∙ length-map sessions number_of in
    record {
      given = given-written number total begun bytes sessions within.given;
      rising = AllPairs-same_map number_of (λ x y. x < y) sessions now same within.rising;
      few = omega (arith, few, long);
      fits = within.fits;
      light = omega (arith, bytes-written number total bytes sessions within.rising, light);
    }

pub within-without : (number begun : ℕ) (sessions : List Session) → IsWithin sessions begun → IsWithin (without_session number sessions) begun
within-without number begun sessions within =
    let other : Session → Bool = λ (session : Session). not (nat_eq session.number number) in
    let few : length sessions ≤ 1000 = within.few in
    let light : held_bytes sessions ≤ 536870912 = within.light in
    record {
      given = All-filter other (λ (s : Session). s.number ≤ begun) sessions within.given;
      rising = AllPairs-filter IsBefore other sessions within.rising;
      few = omega (arith, few, length-filter other sessions, count_by-le-length other sessions);
      fits = within.fits;
      light = omega (arith, light, bytes-without number sessions);
    }

-- what is lent of the sessions is given back, with the bytes of a fragment or as it was
pub kept-within : (number total begun count : ℕ) (bytes : List ℕ) (sessions lent new more : List Session) (result : Result (Unit {0}) NoMemory) → lent ≡ sessions → length lent ≡ count
    → OnOk result (new ≡ with_fragment number total bytes lent) → OnErr result (new ≡ lent) → IsWithin sessions begun → held_bytes sessions + length bytes ≤ 536870912
    → IsWithin (take count (new ++ more)) begun
kept-within number total begun count bytes sessions lent new more (Ok done) same long ok err within light =
    let made : new ≡ with_fragment number total bytes sessions = ok ∙ ap (with_fragment number total bytes) same in
    let wide : length new ≡ count = ap length ok ∙ length-map lent _ ∙ long in
    let cut : take count (new ++ more) ≡ new = take-append-le count new more (omega arith) ∙ take_all count new (omega arith) in
    subst (λ xs. IsWithin xs begun) (sym (cut ∙ made)) (within-written number total begun bytes sessions within light)
kept-within number total begun count bytes sessions lent new more (Err fault) same long ok err within light =
    let wide : length new ≡ count = ap length err ∙ long in
    let cut : take count (new ++ more) ≡ new = take-append-le count new more (omega arith) ∙ take_all count new (omega arith) in
    subst (λ xs. IsWithin xs begun) (sym (cut ∙ err ∙ same)) within
