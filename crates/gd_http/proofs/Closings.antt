-- One more word of a list.
use Rattle.std.proofs.Common.{◌≡◌, ℕ, true, false, List, Option, refl}
use Rattle.std.specs.List.{list_any}
use Rattle.gd_target.specs.Cuts.{cut, parts_after}
use Rattle.gd_target.proofs.Cutting.{parts_cut}
use Rattle.gd_http.specs.Closing.{is_close, lists_close}

pub word_closes : (text word : List ℕ) (rest : Option (List ℕ)) → cut 44 text ≡ (word, rest) → is_close word ≡ true → lists_close text ≡ true
word_closes text word rest is closes = rw (parts_cut 44 text, is) (rw closes refl)

pub word_other : (text word : List ℕ) (rest : Option (List ℕ)) → cut 44 text ≡ (word, rest) → is_close word ≡ false → lists_close text ≡ list_any is_close (parts_after 44 rest)
word_other text word rest is other = rw (parts_cut 44 text, is) (rw other refl)
