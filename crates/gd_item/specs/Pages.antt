-- The pages of the feed (delta of Microsoft Graph): what a token asks for, and the page that is given for it.
use Rattle.std.specs.Prelude.{ℕ, Bool, true, false, ◌||◌, not, cond, List, [], ◌∷◌, codes, max, nat_eq, nat_lt, Option, Some, None}
use Rattle.std.specs.Cmp.Lexicographic.{pointwise}
use Rattle.gd_names.specs.Causes.{first_cause}
use Rattle.gd_item.specs.Records.{feed, first_of, last_of}
use Rattle.gd_item.specs.Sessions.{State, held}
use Rattle.gd_item.specs.Tokens.{token_text, token_of_text}
use Rattle.gd_item.specs.declared.reply.Page.{Page}
use Rattle.gd_item.specs.declared.reply.PageLink.{PageLink}
use Rattle.gd_item.specs.declared.reply.PageLink.TheVariants.{Next, Delta}
use Rattle.gd_item.specs.declared.reply.Resync.{Resync}
use Rattle.gd_item.specs.declared.reply.Resync.TheVariants.{ApplyDifferences, UploadDifferences}
use Rattle.gd_item.specs.declared.token.Token.{Token}

-- what a token asks for: the feed past a position, with the removals past a start; nothing but a link; or it is none,
-- or can no longer be served
pub data Asked : Type 0 where
  Past : (position start : ℕ) → Asked
  Latest : Asked
  Bad : Asked
  Lost : (resync : Resync) → Asked

-- what a token is that is not served, the first that holds: it is of another epoch, ahead of the drive, or too old
abbrev pub token_fault : State → Token → Option Asked
token_fault state token =
    first_cause (
    (not (nat_eq token.epoch state.epoch), Lost UploadDifferences)
    ∷ (nat_lt (held state).number token.position || nat_lt (held state).number token.start, Bad)
    ∷ (nat_lt (max token.position token.start) state.floor, Lost ApplyDifferences)
    ∷ [])

abbrev pub asked_unless : Option Asked → Token → Asked
asked_unless None token = Past token.position token.start
asked_unless (Some fault) token = fault

abbrev pub asked_by_token : State → Option Token → Asked
asked_by_token state None = Bad
asked_by_token state (Some token) = asked_unless (token_fault state token) token

-- what the text of a token asks for, and what no token asks for: all that lives
abbrev pub asked : State → Option (List ℕ) → Asked
asked state None = Past 0 (held state).number
asked state (Some text) = cond (pointwise nat_eq text (codes "latest")) Latest (asked_by_token state (token_of_text text))

-- the link at the end of a page: past the last record that was sent, where more follow, and else past all of now
abbrev pub page_link : ℕ → ℕ → ℕ → Option ℕ → PageLink
page_link epoch start number None = Delta (token_text (record { epoch = epoch; position = number; start = start }))
page_link epoch start number (Some last) = Next (token_text (record { epoch = epoch; position = last; start = start }))

-- the page past a position, of at most so many records
abbrev pub page_past : State → ℕ → ℕ → ℕ → Page
page_past state position start size =
    let changes = feed (held state) position start in
    record { items = first_of size changes; link = page_link state.epoch start (held state).number (last_of size changes) }

-- the page without records
abbrev pub latest_page : State → Page
latest_page state = record { items = []; link = page_link state.epoch (held state).number (held state).number None }

-- whether a token is none
abbrev pub is_bad : Asked → Bool
is_bad (Past position start) = false
is_bad Latest = false
is_bad Bad = true
is_bad (Lost resync) = false
