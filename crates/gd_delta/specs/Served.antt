-- What is answered to what a token asks for.
use Rattle.std.specs.Prelude.{◌≡◌, ◌⊎◌, ℕ, Bool, true, false, Result, Ok, Err}
use Rattle.gd_item.specs.Pages.{Asked, Past, Latest, Bad, Lost, page_past, latest_page}
use Rattle.gd_item.specs.Sessions.{State}
use Rattle.gd_item.specs.declared.reply.Page.{Page}
use Rattle.gd_item.specs.declared.reply.PageLink.{PageLink}
use Rattle.gd_item.specs.declared.reply.PageLink.TheVariants.{Next, Delta}
use Rattle.gd_delta.specs.declared.pages.DeltaFault.{DeltaFault}
use Rattle.gd_delta.specs.declared.pages.DeltaFault.TheVariants.{BadToken, Gone, Memory}

-- a page of at most so many records, or why there is none
abbrev pub answer_to : State → ℕ → Asked → Result Page DeltaFault
answer_to state size (Past position start) = Ok (page_past state position start size)
answer_to state size Latest = Ok (latest_page state)
answer_to state size Bad = Err BadToken
answer_to state size (Lost resync) = Err (Gone resync)

-- whether a link is that of the next enumeration
abbrev pub is_last : PageLink → Bool
is_last (Next token) = false
is_last (Delta token) = true

-- this answer is given, or memory is wanting
abbrev pub Serves : Result Page DeltaFault → Result Page DeltaFault → Type 0
Serves answer given = (given ≡ answer) ⊎ (given ≡ Err Memory)
