-- The tags of an item (`eTag` and `cTag`): a letter and a number in decimal. A condition holds where it is free,
-- where it is `*`, or where it is one of the two tags, bare or in double quotes (`If-Match` of RFC 9110).
use Rattle.std.specs.Prelude.{ℕ, Bool, true, false, ◌||◌, List, ◌++◌, codes, nat_eq, Option, Some, None}
use Rattle.std.specs.Fmt.{decimal}
use Rattle.std.specs.Cmp.Lexicographic.{pointwise}
use Rattle.gd_item.specs.declared.item.Tag.{Tag}
use Rattle.gd_item.specs.declared.condition.Condition.{Condition}
use Rattle.gd_item.specs.declared.condition.Condition.TheVariants.{Free, Match}

-- the tag of a change number
abbrev pub etag_text : ℕ → List ℕ
etag_text change = codes "e" ++ decimal change

-- the tag of a content number
abbrev pub ctag_text : ℕ → List ℕ
ctag_text content = codes "c" ++ decimal content

-- a tag with this text
abbrev pub tag_of : List ℕ → Tag
tag_of text = record { 0 = text }

-- whether the text is the tag, bare or in double quotes
abbrev pub is_spelling : List ℕ → Tag → Bool
is_spelling text tag = pointwise nat_eq text tag.0 || pointwise nat_eq text (codes "\"" ++ tag.0 ++ codes "\"")

-- whether the text is the tag, if there is one
abbrev pub is_spelling_of_some : List ℕ → Option Tag → Bool
is_spelling_of_some text None = false
is_spelling_of_some text (Some tag) = is_spelling text tag

-- whether the condition holds of an item with these tags
abbrev pub is_matching : Condition → Tag → Option Tag → Bool
is_matching Free etag ctag = true
is_matching (Match text) etag ctag = pointwise nat_eq text (codes "*") || is_spelling text etag || is_spelling_of_some text ctag
