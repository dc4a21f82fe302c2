-- The token of a feed: `t`, the epoch, the position and the start, in decimal without leading zeros and with dots
-- between them.
use Rattle.std.specs.Prelude.{ℕ, ◌+◌, ◌-◌, ◌*◌, ◌^◌, ◌&&◌, cond, List, [], ◌∷◌, ◌++◌, codes, nat_eq, nat_lt, Option, Some, None}
use Rattle.std.specs.Cmp.Lexicographic.{pointwise}
use Rattle.std.specs.Fmt.{decimal}
use Rattle.gd_item.specs.declared.token.Token.{Token}

-- the text of a token
abbrev pub token_text : Token → List ℕ
token_text token = codes "t" ++ decimal token.epoch ++ codes "." ++ decimal token.position ++ codes "." ++ decimal token.start

-- the fields of a text between its dots, the first of which begins with what was read already
abbrev pub fields_from : List ℕ → List ℕ → List (List ℕ)
fields_from current [] = current ∷ []
fields_from current (b ∷ text) = cond (nat_eq b 46) (current ∷ fields_from [] text) (fields_from (current ++ b ∷ []) text)

-- the number that digits spell after those of another one
abbrev pub digits_value : ℕ → List ℕ → ℕ
digits_value high [] = high
digits_value high (b ∷ digits) = digits_value (10 * high + (b - 48)) digits

-- the number below 2 ^ 64 whose decimal text this is
abbrev pub number_of_text : List ℕ → Option ℕ
number_of_text text = let n = digits_value 0 text in cond (nat_lt n (2 ^ 64) && pointwise nat_eq text (decimal n)) (Some n) None

abbrev pub token_of : Option ℕ → Option ℕ → Option ℕ → Option Token
token_of None position start = None
token_of (Some epoch) None start = None
token_of (Some epoch) (Some position) None = None
token_of (Some epoch) (Some position) (Some start) = Some (record { epoch = epoch; position = position; start = start })

abbrev pub token_of_fields : List (List ℕ) → Option Token
token_of_fields [] = None
token_of_fields (epoch ∷ []) = None
token_of_fields (epoch ∷ position ∷ []) = None
token_of_fields (epoch ∷ position ∷ start ∷ []) = token_of (number_of_text epoch) (number_of_text position) (number_of_text start)
token_of_fields (epoch ∷ position ∷ start ∷ more ∷ fields) = None

-- the token that a text spells, if it spells one
abbrev pub token_of_text : List ℕ → Option Token
token_of_text [] = None
token_of_text (b ∷ text) = cond (nat_eq b 116) (token_of_fields (fields_from [] text)) None
