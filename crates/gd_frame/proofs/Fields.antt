-- One more field of a head.
use Rattle.std.proofs.Common.{◌≡◌, ℕ, suc, ◌+◌, ◌<◌, false, cond, List, map, drop, length, get_or, count_by, refl, add-one, drop-cons}
use Rattle.std.proofs.lemmas.List.Sums.{sum_by-cons}
use Rattle.httparse.specs.declared.spans.HeaderSpan.{HeaderSpan}
use Rattle.httparse.specs.Spans.{header_bytes}
use Rattle.gd_frame.specs.Framing.{is_length, the_length}

pub find_step : (buf : List ℕ) (hs : List HeaderSpan) (i : ℕ) (d : HeaderSpan) → i < length hs → is_length (header_bytes buf (get_or hs i d)) ≡ false → the_length (map (header_bytes buf) (drop i hs)) ≡ the_length (map (header_bytes buf) (drop (i + 1) hs))
find_step buf hs i d within other = rw (add-one, drop-cons hs i d) (rw other refl)

pub count_step : (buf : List ℕ) (hs : List HeaderSpan) (i : ℕ) (d : HeaderSpan) → i < length hs → count_by is_length (map (header_bytes buf) (drop i hs)) ≡ cond (is_length (header_bytes buf (get_or hs i d))) 1 0 + count_by is_length (map (header_bytes buf) (drop (i + 1) hs))
count_step buf hs i d within = rw (add-one, drop-cons hs i d) (sum_by-cons (λ x. cond (is_length x) 1 0) (header_bytes buf (get_or hs i d)) (map (header_bytes buf) (drop (suc i) hs)))
