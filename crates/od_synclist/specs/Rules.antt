-- The rules file `sync_list`: a rule on each line, after the manual of the abraunegg onedrive client.
use Rattle.std.specs.Prelude.{ℕ, ◌+◌, ◌-◌, min, Bool, true, false, ◌&&◌, ◌||◌, not, if◌then◌else◌, List, [], ◌∷◌, ◌++◌, length, take, map, filter, count_by, codes, nat_eq, nat_lt, nat_le, slice_index, Option, Some, None}
use Rattle.std.specs.List.{list_any}
use Rattle.std.specs.Str.{is_utf8}
use Rattle.std.specs.Str.Lines.{lines}
use Rattle.gd_names.specs.Paths.{parts_from}
use Rattle.od_synclist.specs.Matching.{matches_path}
use Rattle.od_synclist.specs.declared.rule.Rule.{Rule}

-- whether a line is a rule: it is not empty, and does not begin with `#` or `;`
abbrev pub is_rule : List ℕ → Bool
is_rule [] = false
is_rule (b ∷ line) = not (nat_eq b 35 || nat_eq b 59)

-- `!` or `-`, and `/`
abbrev pub is_mark : ℕ → Bool
is_mark b = nat_eq b 33 || nat_eq b 45

abbrev pub is_slash : ℕ → Bool
is_slash b = nat_eq b 47

-- whether a list begins with such an element, and a text without one that it begins with
abbrev pub begins : {X : Type 0} → (X → Bool) → List X → Bool
begins is [] = false
begins is (x ∷ xs) = is x

abbrev pub without_first : (ℕ → Bool) → List ℕ → List ℕ
without_first is [] = []
without_first is (b ∷ text) = if is b then text else b ∷ text

-- whether a text ends with a slash, and the text without one that it ends with
abbrev pub ends_with_slash : List ℕ → Bool
ends_with_slash text = is_slash (slice_index text (length text - 1))

abbrev pub without_last_slash : List ℕ → List ℕ
without_last_slash text = if ends_with_slash text then take (length text - 1) text else text

-- a mark makes an exclusion; then a slash anchors; a slash at the end makes a rule for folders alone
abbrev pub is_exclusion : List ℕ → Bool
is_exclusion line = begins is_mark line

abbrev pub after_mark : List ℕ → List ℕ
after_mark line = without_first is_mark line

abbrev pub is_anchored : List ℕ → Bool
is_anchored line = begins is_slash (after_mark line)

abbrev pub after_anchor : List ℕ → List ℕ
after_anchor line = without_first is_slash (after_mark line)

abbrev pub is_for_folders : List ℕ → Bool
is_for_folders line = ends_with_slash (after_anchor line)

-- the rest, which is cut at its slashes
abbrev pub written_components : List ℕ → List (List ℕ)
written_components line = parts_from [] (without_last_slash (after_anchor line))

-- a rule that is not anchored is read as if it began with `**`
abbrev pub components_of : List ℕ → List (List ℕ)
components_of line = if is_anchored line then written_components line else codes "**" ∷ written_components line

abbrev pub rule_of : List ℕ → Rule
rule_of line = record { exclude = is_exclusion line; folders = is_for_folders line; components = components_of line }

-- the rules of a file
abbrev pub rules_of : List ℕ → List Rule
rules_of bytes = map rule_of (filter is_rule (lines bytes))

-- whether a line is a bad one after so many rules: it is no UTF-8, or it is a rule with an empty component, or one
-- after a thousand others
abbrev pub is_empty : List ℕ → Bool
is_empty text = nat_eq (length text) 0

abbrev pub has_empty_component : List ℕ → Bool
has_empty_component line = list_any is_empty (written_components line)

abbrev pub is_bad : ℕ → List ℕ → Bool
is_bad rules line = not (is_utf8 line) || is_rule line && (has_empty_component line || nat_le 1000 rules)

-- the number of the first bad line, counted from 1, after these lines
abbrev pub first_bad : List (List ℕ) → List (List ℕ) → Option ℕ
first_bad before [] = None
first_bad before (line ∷ others) =
    if is_bad (count_by is_rule before) line then Some (length before + 1) else first_bad (before ++ line ∷ []) others

-- the number of the line that holds the byte after the first 65,536
abbrev pub overlong_line : List ℕ → Option ℕ
overlong_line bytes = if nat_lt 65536 (length bytes) then Some (count_by (nat_eq 10) (take 65536 bytes) + 1) else None

abbrev pub earlier : Option ℕ → Option ℕ → Option ℕ
earlier None other = other
earlier (Some line) None = Some line
earlier (Some line) (Some other) = Some (min line other)

-- the number of the line for which a file is refused
abbrev pub bad_line : List ℕ → Option ℕ
bad_line bytes = earlier (first_bad [] (lines bytes)) (overlong_line bytes)

-- the paths of the folders above an entry
abbrev pub folders_above : List (List ℕ) → List (List (List ℕ))
folders_above [] = []
folders_above (name ∷ []) = []
folders_above (name ∷ (next ∷ names)) = (name ∷ []) ∷ map (λ above. name ∷ above) (folders_above (next ∷ names))

-- whether a rule matches an entry: its path, which has to be a folder's where the rule is for folders alone, or the
-- path of a folder above it
abbrev pub matches_entry : Rule → List (List ℕ) → Bool → Bool
matches_entry rule names folder =
    (folder || not rule.folders) && matches_path rule.components names || list_any (matches_path rule.components) (folders_above names)

abbrev pub is_included : List Rule → List (List ℕ) → Bool → Bool
is_included rules names folder = list_any (λ rule. not rule.exclude && matches_entry rule names folder) rules

abbrev pub is_excluded : List Rule → List (List ℕ) → Bool → Bool
is_excluded rules names folder = list_any (λ rule. rule.exclude && matches_entry rule names folder) rules

-- whether an entry passes: without rules all do, and else those that an inclusion matches and no exclusion does
abbrev pub passes : List Rule → List (List ℕ) → Bool → Bool
passes [] names folder = true
passes (rule ∷ rules) names folder = is_included (rule ∷ rules) names folder && not (is_excluded (rule ∷ rules) names folder)

-- whether an entry passes under the rules of a file
abbrev pub passes_file : List ℕ → List (List ℕ) → Bool → Bool
passes_file bytes names folder = passes (rules_of bytes) names folder
