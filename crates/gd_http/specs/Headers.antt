-- What the headers of a message say (RFC 9110). Names are caseless.
use Rattle.std.specs.Prelude.{ℕ, cond, List, codes, Option, Some, None, option_and_then, Result, Ok, Err}
use Rattle.std.specs.List.{filter_map}
use Rattle.std.specs.Str.{is_utf8}
use Rattle.gd_names.specs.Caseless.{equal_caseless}
use Rattle.gd_item.specs.declared.condition.Condition.{Condition}
use Rattle.gd_item.specs.declared.condition.Condition.TheVariants.{Free, Match}
use Rattle.gd_json.specs.Links.{past}
use Rattle.gd_json.specs.Numbers.{number_of_text}
use Rattle.gd_target.specs.declared.fault.RequestFault.{RequestFault}
use Rattle.gd_target.specs.declared.fault.RequestFault.TheVariants.{Invalid}
use Rattle.gd_target.specs.Cuts.{cut}
use Rattle.gd_target.specs.Faults.{◌>>=◌, ok_or}
use Rattle.gd_target.specs.Queries.{once}
use Rattle.gd_frame.specs.declared.frame.Field.{Field}
use Rattle.gd_http.specs.declared.range.Range.{Range}

-- the field's value, where it has this name
unfoldable pub value_in : List ℕ → Field → Option (List ℕ)
value_in name field = cond (equal_caseless field.name name) (Some field.value) None

-- the values that headers have under a name
abbrev pub header_values : List ℕ → List Field → List (List ℕ)
header_values name fields = filter_map (value_in name) fields

-- a value that is a text
abbrev pub text_value : List ℕ → Result (List ℕ) RequestFault
text_value value = cond (is_utf8 value) (Ok value) (Err Invalid)

-- ---- If-Match

abbrev pub condition_in : Option (List ℕ) → Result Condition RequestFault
condition_in None = Ok Free
condition_in (Some value) = text_value value >>= λ text. Ok (Match text)

unfoldable pub condition_of : List Field → Result Condition RequestFault
condition_of fields = once (header_values (codes "If-Match") fields) >>= condition_in

-- ---- Content-Range: `bytes FIRST-LAST/TOTAL`

abbrev pub range_from : Option ℕ → Option ℕ → Option ℕ → Option Range
range_from (Some first) (Some last) (Some total) = Some (record { first = first; last = last; total = total })
range_from first last total = None

abbrev pub range_to : List ℕ → List ℕ × Option (List ℕ) → Option Range
range_to first (last, None) = None
range_to first (last, Some total) = range_from (number_of_text first) (number_of_text last) (number_of_text total)

abbrev pub range_in_parts : List ℕ × Option (List ℕ) → Option Range
range_in_parts (first, None) = None
range_in_parts (first, Some rest) = range_to first (cut 47 rest)

unfoldable pub range_of_text : List ℕ → Option Range
range_of_text text = option_and_then (λ rest. range_in_parts (cut 45 rest)) (past (codes "bytes ") text)

-- it has to be there
abbrev pub range_in : Option (List ℕ) → Result Range RequestFault
range_in None = Err Invalid
range_in (Some text) = ok_or Invalid (range_of_text text)

unfoldable pub range_of : List Field → Result Range RequestFault
range_of fields = once (header_values (codes "Content-Range") fields) >>= range_in
