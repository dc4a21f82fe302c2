-- Numbers, ids and digests are read as they were written.
use Rattle.std.proofs.Common.{◌≡◌, ℕ, ◌<◌, ◌^◌, ◌-◌, true, false, List, ◌++◌, length, Some, Ok, refl, sym, ap, ◌∙◌, arith, length-append}
use Rattle.std.specs.Prelude.{codes, nat_eq, nat_lt, option_map}
use Rattle.std.specs.Fmt.{decimal}
use Rattle.std.specs.Str.{all_ascii_digits}
use Rattle.std.specs.Str.Parse.{digits_value}
use Rattle.std.proofs.Math.Seq.{drop-append_seam, take-append_seam}
use Rattle.std.proofs.lemmas.Bool.{lt-ltb, ne_eqb}
use Rattle.std.proofs.lemmas.Fmt.{digits_decimal, digits_value-decimal, decimal_nonempty}
use Rattle.std.proofs.lemmas.Str.Parse.{IsNumeralModel, numerals_by_value, tells_all_ascii_digits}
use Rattle.hex.specs.Hex.{IsBytes, decode_pairs, upper_digits, encode_upper}
use Rattle.hex.proofs.HexLemmas.{decode_of-even, decode_of-encode_upper, length-encode_with}
use Rattle.gd_item.specs.Ids.{hex_digits, item_id}
use Rattle.gd_item.specs.declared.id.ItemId.{ItemId}
use Rattle.gd_item.specs.declared.digest.Digest.{Digest}
use Rattle.gd_item.proofs.Hex.{length-hex_digits, list_all-hex_digits, hex_number_from-hex_digits, read_digits}
use Rattle.gd_json.specs.Numbers.{number_of_text, expected_of_text, item_id_of, id_written}
use Rattle.gd_json.specs.Items.{digest_of_text, digest_text}

pub id_again : (id : ItemId) → 0 < id.0 → id.0 < 2 ^ 64 → item_id_of (id_written id) ≡ Some id
unfolding item_id_of id_written
id_again id some small =
    ap (option_map item_id) (read_digits (hex_digits 16 id.0) id.0 (length-hex_digits 16 id.0) (list_all-hex_digits 16 id.0) (hex_number_from-hex_digits 16 id.0 small) some)

pub digest_again : (digest : Digest) → length digest.0 ≡ 32 → IsBytes digest.0 → digest_of_text (digest_text digest) ≡ Some digest
unfolding digest_of_text digest_text
digest_again digest len bytes =
    let long : length (encode_upper digest.0) ≡ 64 = length-encode_with upper_digits digest.0 ∙ rw len refl in
    let pairs : decode_pairs 0 (encode_upper digest.0) ≡ Ok digest.0 = sym (decode_of-even (encode_upper digest.0) (rw long refl)) ∙ decode_of-encode_upper digest.0 bytes in
    rw (long, pairs) refl

pub own : IsNumeralModel (λ ds. all_ascii_digits ds ≡ true) (digits_value 10)
own = numerals_by_value (λ ds. all_ascii_digits ds ≡ true) tells_all_ascii_digits

pub number_again : (n : ℕ) → n < 2 ^ 64 → number_of_text (decimal n) ≡ Some n
unfolding number_of_text
number_again n small =
    let digits : all_ascii_digits (decimal n) ≡ true = digits_decimal own n small in
    let value : digits_value 10 (decimal n) ≡ n = digits_value-decimal own n small in
    let some : nat_eq (length (decimal n)) 0 ≡ false = ne_eqb (length (decimal n)) 0 (λ e. let h = decimal_nonempty n small in omega arith) in
    let below : nat_lt n (2 ^ 64) ≡ true = lt-ltb n (2 ^ 64) small in
    rw (some, digits, value, below) refl

front_length : (text : List ℕ) → length (text ++ codes "-") - 1 ≡ length text
front_length text = omega (arith, length-append text (codes "-"))

pub expected_again : (n : ℕ) → n < 2 ^ 64 → expected_of_text (decimal n ++ codes "-") ≡ Some n
unfolding expected_of_text
expected_again n small =
    let text = decimal n in
    rw (front_length (decimal n), drop-append_seam (decimal n) (codes "-"), take-append_seam (decimal n) (codes "-")) (number_again n small)
