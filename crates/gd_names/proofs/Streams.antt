-- What a read from the source in memory does to the bytes that are left, and counts that have risen.
use Rattle.std.proofs.Common.{◌≡◌, ℕ, ◌+◌, ◌-◌, ◌<◌, ◌≤◌, min, List, ◌++◌, length, take, drop, Some, Ok, refl, ap, ◌∙◌, arith, length-take, length-drop, length-append}
use Rattle.std.proofs.lemmas.List.{take_rest, take_at, take-append-drop, drop-drop, nil_from_length}
use Rattle.gd_names.specs.Streams.{Reads, Rose}

-- the next bytes, as many as a piece and the room allow
pub reads_piece : (bytes slice room filled : List ℕ) (at count piece fits : ℕ) → slice ≡ bytes → fits ≡ min (length (take (length slice - at) (drop at slice))) piece
    → count ≡ min fits (length room) → 0 < piece → filled ≡ take count (take (length slice - at) (drop at slice))
    → Reads (Some (drop at bytes)) (Some (drop (at + count) bytes)) (Ok count) (filled ++ drop count room)
reads_piece bytes slice room filled at count piece fits same is_fits is_count some_piece is_filled =
    let whole : take (length slice - at) (drop at slice) ≡ drop at bytes = take_rest slice at ∙ ap (drop at) same in
    let is_filled : filled ≡ take count (drop at bytes) = is_filled ∙ ap (take count) whole in
    let least : fits ≡ min (length (drop at bytes)) piece = is_fits ∙ ap (λ xs. min (length xs) piece) whole in
    let filled_length : length filled ≡ count = ap length is_filled ∙ (length-take count (drop at bytes) ∙ omega arith) in
    let front : take count (filled ++ drop count room) ≡ take count (drop at bytes) = take_at filled (drop count room) count filled_length ∙ is_filled in
    record {
      ok = λ left is_left. (drop (at + count) bytes, refl, rw (front, ← (drop-drop count at bytes), take-append-drop count (drop at bytes)) (cc));
      end = λ none has_room left is_left.
          let rest : left ≡ drop at bytes = cc in
          let room_length : length (filled ++ drop count room) ≡ length filled + (length room - count) = length-append filled (drop count room) ∙ ap (λ n. length filled + n) (length-drop count room) in
          let empty : length (drop at bytes) ≡ 0 = omega arith in
          rest ∙ nil_from_length (drop at bytes) empty;
      err = tt;
    }

-- a count that has risen has risen since before and until later
pub rose-later : (a b c : ℕ) → a ≤ b → Rose b c → Rose a c
rose-later a b c later rose = omega (arith, later, rose)

pub rose-on : (a b c : ℕ) → Rose a b → b ≤ c → Rose a c
rose-on a b c rose later = omega (arith, rose, later)
