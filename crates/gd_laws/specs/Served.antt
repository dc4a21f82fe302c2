-- Which tokens of the feed a drive serves, and what the page of a token has.
use Rattle.std.specs.Prelude.{◌≡◌, ℕ, Bool, true, false, cond, List, map, Option}
use Rattle.std.specs.Map.{values_of}
use Rattle.gd_item.specs.Answers.{bare_item}
use Rattle.gd_item.specs.Pages.{Asked, Past, Latest, Bad, Lost, asked, page_link}
use Rattle.gd_item.specs.Records.{feed, first_of, last_of}
use Rattle.gd_item.specs.Sessions.{State, held}
use Rattle.gd_item.specs.Tokens.{token_text}
use Rattle.gd_item.specs.declared.item.Item.{Item}
use Rattle.gd_item.specs.declared.reply.Page.{Page}
use Rattle.gd_item.specs.declared.step.DriveEvent.TheVariants.{Expire, Restore, EndSession, Plain}
use Rattle.gd_item.specs.declared.step.Step.{Step}
use Rattle.gd_item.specs.declared.step.Step.TheVariants.{Ask, Event}

-- whether what a token asks for is the feed past a position
abbrev pub is_page : Asked → Bool
is_page (Past position start) = true
is_page Latest = false
is_page Bad = false
is_page (Lost resync) = false

-- whether a drive serves a token, and all that lives where none is sent
abbrev pub is_served_token : State → Option (List ℕ) → Bool
is_served_token state token = is_page (asked state token)

-- whether a step leaves each token served: tokens of before neither expire nor are of another epoch after it
abbrev pub is_token_safe : Step → Bool
is_token_safe (Ask who request served heard) = true
is_token_safe (Event (Expire number)) = false
is_token_safe (Event Restore) = false
is_token_safe (Event (EndSession session)) = true
is_token_safe (Event Plain) = true

-- items as a drive shows them that is plain or not
abbrev pub shown_items : Bool → List Item → List Item
shown_items plain items = cond plain (map bare_item items) items

-- a page has the first records of the feed past a position, and the link that goes on from there
pub record IsPagePast (state : State) (position start size : ℕ) (page : Page) : Type 0 where
  pub items : page.items ≡ shown_items state.plain (first_of size (feed (held state) position start))
  pub link : page.link ≡ page_link state.epoch start (held state).number (last_of size (feed (held state) position start))

-- a last page has the whole feed past a position, and its token stands at the drive's number
pub record IsLastPast (state : State) (position start : ℕ) (page : Page) (end : List ℕ) : Type 0 where
  pub items : page.items ≡ shown_items state.plain (values_of (feed (held state) position start))
  pub token : end ≡ token_text (record { epoch = state.epoch; position = (held state).number; start = start })
