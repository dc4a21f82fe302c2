-- The language of replay scripts: one line per LF, the last LF optional, in UTF-8. Words are parted by one space.
-- A line that is empty or begins with `#` does nothing.
use Rattle.std.specs.Prelude.{ℕ, ◌+◌, ◌-◌, ◌*◌, Bool, true, not, ◌&&◌, ◌||◌, cond, List, [], ◌∷◌, ◌++◌, length, take, drop, codes, nat_eq, nat_le, Option, Some, None, Result, Ok, Err}
use Rattle.std.specs.List.{list_any, list_all, starts_with, ends_with}
use Rattle.std.specs.Option.{option_map}
use Rattle.std.specs.Str.{is_utf8}
use Rattle.std.specs.Cmp.Lexicographic.{pointwise}
use Rattle.gd_names.specs.Escapes.{is_between}
use Rattle.gd_names.specs.Paths.{path_of_text}
use Rattle.gd_item.specs.Tokens.{digits_value}
use Rattle.od_cli.specs.declared.line.Content.{Content}
use Rattle.od_cli.specs.declared.line.Content.TheVariants.{Text, Fill}
use Rattle.od_cli.specs.declared.line.Line.{Line}
use Rattle.od_cli.specs.declared.line.Line.TheVariants.{OtherPut, OtherMakeFolder, OtherMove, OtherRemove, Expire, Restore, EndSession, Page, Pull, Drive, Sync, Local, Requests}
use Rattle.od_cli.specs.Following.{can_follow, is_allowed}

-- the lines of a text, the first of which begins with what was read already
abbrev pub lines_from : List ℕ → List ℕ → List (List ℕ)
lines_from [] [] = []
lines_from (c ∷ current) [] = (c ∷ current) ∷ []
lines_from current (b ∷ text) = cond (nat_eq b 10) (current ∷ lines_from [] text) (lines_from (current ++ b ∷ []) text)

abbrev pub lines_of : List ℕ → List (List ℕ)
lines_of text = lines_from [] text

-- the path of an entry, if it is one: not the root
abbrev pub entry_path : Option (List (List ℕ)) → Option (List (List ℕ))
entry_path None = None
entry_path (Some []) = None
entry_path (Some (name ∷ path)) = Some (name ∷ path)

abbrev pub script_path : List ℕ → Option (List (List ℕ))
script_path word = entry_path (path_of_text word)

-- whether a byte may stand in a quoted text: printable ASCII other than `"`
abbrev pub is_plain : ℕ → Bool
is_plain b = is_between 32 126 b && not (nat_eq b 34)

-- what stands between the quotes
abbrev pub unquoted : List ℕ → List ℕ
unquoted text = take (length text - 2) (drop 1 text)

-- whether the text is in quotes
abbrev pub is_quoted : List ℕ → Bool
is_quoted text = nat_le 2 (length text) && starts_with nat_eq text (codes "\"") && ends_with nat_eq text (codes "\"") && list_all is_plain (unquoted text)

-- the first word of a text, and what follows the space after it, if there is one
abbrev pub word_before : ℕ → Option (List ℕ × List ℕ) → Option (List ℕ × List ℕ)
word_before b None = None
word_before b (Some parts) = Some (b ∷ parts.0, parts.1)

abbrev pub first_word : List ℕ → Option (List ℕ × List ℕ)
first_word [] = None
first_word (b ∷ text) = cond (nat_eq b 32) (Some ([], text)) (word_before b (first_word text))

-- a number in decimal from 1 up to a most, without leading zeros
abbrev pub is_digit : ℕ → Bool
is_digit b = is_between 48 57 b

abbrev pub is_number : List ℕ → Bool
is_number word = not (nat_eq (length word) 0) && not (starts_with nat_eq word (codes "0")) && list_all is_digit word

abbrev pub script_number : ℕ → List ℕ → Option ℕ
script_number most word = cond (is_number word && nat_le (digits_value 0 word) most) (Some (digits_value 0 word)) None

-- the byte that two hexadecimal digits of either case spell
abbrev pub hex_digit : ℕ → Option ℕ
hex_digit b =
    cond (is_between 48 57 b) (Some (b - 48)) (cond (is_between 65 70 b) (Some (b - 55)) (cond (is_between 97 102 b) (Some (b - 87)) None))

abbrev pub hex_pair : Option ℕ → Option ℕ → Option ℕ
hex_pair None low = None
hex_pair (Some high) None = None
hex_pair (Some high) (Some low) = Some (high * 16 + low)

abbrev pub hex_byte : List ℕ → Option ℕ
hex_byte [] = None
hex_byte (high ∷ []) = None
hex_byte (high ∷ low ∷ []) = hex_pair (hex_digit high) (hex_digit low)
hex_byte (high ∷ low ∷ more ∷ word) = None

-- a content: a text in quotes, or `fill`, a count of at most 70,000,000 and a byte
abbrev pub fill_with : Option ℕ → Option ℕ → Option Content
fill_with None byte = None
fill_with (Some count) None = None
fill_with (Some count) (Some byte) = Some (Fill count byte)

abbrev pub fill_parts : Option (List ℕ × List ℕ) → Option Content
fill_parts None = None
fill_parts (Some parts) = fill_with (script_number 70000000 parts.0) (hex_byte parts.1)

abbrev pub fill_words : Option (List ℕ × List ℕ) → Option Content
fill_words None = None
fill_words (Some parts) = cond (pointwise nat_eq parts.0 (codes "fill")) (fill_parts (first_word parts.1)) None

abbrev pub script_content : List ℕ → Option Content
script_content text = cond (is_quoted text) (Some (Text (unquoted text))) (fill_words (first_word text))

-- a path that is the last word
abbrev pub last_path : List ℕ → Option (List (List ℕ))
last_path word = cond (list_any (λ b. nat_eq b 32) word) None (script_path word)

-- what another client does, by the words that follow
abbrev pub put_of : Option (List (List ℕ)) → Option Content → Option Line
put_of None content = None
put_of (Some path) None = None
put_of (Some path) (Some content) = Some (OtherPut path content)

abbrev pub put_parts : Option (List ℕ × List ℕ) → Option Line
put_parts None = None
put_parts (Some parts) = put_of (script_path parts.0) (script_content parts.1)

abbrev pub move_of : Option (List (List ℕ)) → Option (List (List ℕ)) → Option Line
move_of None to = None
move_of (Some from) None = None
move_of (Some from) (Some to) = Some (OtherMove from to)

abbrev pub move_parts : Option (List ℕ × List ℕ) → Option Line
move_parts None = None
move_parts (Some parts) = move_of (script_path parts.0) (last_path parts.1)

abbrev pub other_line : List ℕ → List ℕ → Option Line
other_line word rest =
    cond (pointwise nat_eq word (codes "put")) (put_parts (first_word rest))
    (cond (pointwise nat_eq word (codes "mkdir")) (option_map OtherMakeFolder (last_path rest))
    (cond (pointwise nat_eq word (codes "move")) (move_parts (first_word rest))
    (cond (pointwise nat_eq word (codes "rm")) (option_map OtherRemove (last_path rest)) None)))

abbrev pub other_parts : Option (List ℕ × List ℕ) → Option Line
other_parts None = None
other_parts (Some parts) = other_line parts.0 parts.1

-- what a word and a number do to the drive; most numbers are below 2^32
abbrev pub most_number : ℕ
most_number = 4294967295

abbrev pub number_line : List ℕ → List ℕ → Option Line
number_line word rest =
    cond (pointwise nat_eq word (codes "page")) (option_map Page (script_number 200 rest))
    (cond (pointwise nat_eq word (codes "expire")) (option_map Expire (script_number most_number rest))
    (cond (pointwise nat_eq word (codes "endsession")) (option_map EndSession (script_number most_number rest)) None))

abbrev pub command_parts : Option (List ℕ × List ℕ) → Option Line
command_parts None = None
command_parts (Some parts) =
    cond (pointwise nat_eq parts.0 (codes "other")) (other_parts (first_word parts.1)) (number_line parts.0 parts.1)

-- the line that a text spells which is neither empty nor a comment
abbrev pub command : List ℕ → Option Line
command text =
    cond (pointwise nat_eq text (codes "pull")) (Some Pull)
    (cond (pointwise nat_eq text (codes "drive")) (Some Drive)
    (cond (pointwise nat_eq text (codes "sync")) (Some Sync)
    (cond (pointwise nat_eq text (codes "local")) (Some Local)
    (cond (pointwise nat_eq text (codes "requests")) (Some Requests)
    (cond (pointwise nat_eq text (codes "restore")) (Some Restore) (command_parts (first_word text)))))))

-- whether a line does nothing
abbrev pub is_silent : List ℕ → Bool
is_silent text = nat_eq (length text) 0 || starts_with nat_eq text (codes "#")

-- a line that is read, where this client can follow all lines before it or not
abbrev pub allowed : Bool → Option Line → Option Line
allowed followed None = None
allowed followed (Some line) = cond (is_allowed followed line) (Some line) None

-- the lines that one line of a script stands for: none or one, if it is a script line
abbrev pub line_of : Bool → List ℕ → Option (List Line)
line_of followed text =
    cond (is_utf8 text) (cond (is_silent text) (Some []) (option_map (λ line. line ∷ []) (allowed followed (command text)))) None

-- whether this client can follow these lines too
abbrev pub still_followed : Bool → List Line → Bool
still_followed followed [] = followed
still_followed followed (line ∷ lines) = can_follow line && followed

-- a line before the others: the first that is no script line is told
abbrev pub joined : ℕ → Option (List Line) → Result (List Line) ℕ → Result (List Line) ℕ
joined number None others = Err number
joined number (Some line) (Ok others) = Ok (line ++ others)
joined number (Some line) (Err bad) = Err bad

-- what follows a line, if it is a script line
abbrev pub following : Bool → Option (List Line) → (Bool → Result (List Line) ℕ) → Result (List Line) ℕ
following followed None others = Ok []
following followed (Some line) others = others (still_followed followed line)

-- the lines from this number on
abbrev pub script_from : ℕ → Bool → List (List ℕ) → Result (List Line) ℕ
script_from number followed [] = Ok []
script_from number followed (line ∷ lines) =
    joined number (line_of followed line) (following followed (line_of followed line) (λ after. script_from (number + 1) after lines))

-- what a text spells: its lines, or the number of the first that is no script line
abbrev pub script : List ℕ → Result (List Line) ℕ
script text = script_from 1 true (lines_of text)
