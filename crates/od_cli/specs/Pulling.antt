-- A pull by another client, of a drive that no one else asks meanwhile: it asks for all that lives, and then for what each reply
-- goes on with, until one ends it or so many came.
use Rattle.std.specs.Prelude.{◌≡◌, ◌⊎◌, ℕ, ◌≤◌, zero, suc, Bool, true, false, List, [], ◌∷◌, ◌++◌, map, IsSome, Option, Some, None}
use Rattle.std.specs.Map.{values_of}
use Rattle.gd_item.specs.Answers.{answer}
use Rattle.gd_item.specs.Records.{feed}
use Rattle.gd_item.specs.Sessions.{State, held}
use Rattle.gd_item.specs.Steps.{state_of}
use Rattle.gd_item.specs.Tokens.{token_text}
use Rattle.gd_item.specs.declared.item.Item.{Item}
use Rattle.gd_item.specs.declared.reply.PageLink.{PageLink}
use Rattle.gd_item.specs.declared.reply.PageLink.TheVariants as link
use Rattle.gd_item.specs.declared.reply.Reply.{Reply}
use Rattle.gd_item.specs.declared.reply.Reply.TheVariants as reply
use Rattle.gd_item.specs.declared.request.Request.{Request}
use Rattle.gd_item.specs.declared.request.Request.TheVariants.{Delta}
use Rattle.gd_item.specs.declared.step.Step.{Step}
use Rattle.gd_item.specs.declared.step.Step.TheVariants.{Ask}
use Rattle.gd_item.specs.declared.step.Who.TheVariants.{Other}
use Rattle.gd_laws.specs.Served.{is_served_token, shown_items}
use Rattle.od_mirror.specs.Pulled.{Pulled, with_records}
use Rattle.od_mirror.specs.declared.mirror.Taken.{Taken}
use Rattle.od_mirror.specs.declared.mirror.Taken.TheVariants.{More, Last}
use Rattle.od_cli.specs.Worlds.{WorldValue, with_other}

-- how many replies a pull takes at most
abbrev pub most_replies : ℕ
most_replies = 4096

-- what is asked after a reply, if anything: for what the next page begins with, or for all that lives where a token is no longer
-- served
abbrev pub next_of_link : PageLink → Option (Option (List ℕ))
next_of_link (link.Next token) = Some (Some token)
next_of_link (link.Delta token) = None

abbrev pub next_of : Reply → Option (Option (List ℕ))
next_of (reply.Page page) = next_of_link page.link
next_of (reply.Gone resync) = Some None
next_of reply = None

-- the requests, so many at most, and whether a reply ends them
abbrev pub asks_from : ℕ → State → ℕ → Option (Option (List ℕ)) → List Request
asks_from times state size None = []
asks_from zero state size (Some token) = []
asks_from (suc times) state size (Some token) = Delta token ∷ asks_from times state size (next_of (answer state size (Delta token)))

abbrev pub ends_from : ℕ → State → ℕ → Option (Option (List ℕ)) → Bool
ends_from times state size None = true
ends_from zero state size (Some token) = false
ends_from (suc times) state size (Some token) = ends_from times state size (next_of (answer state size (Delta token)))

-- the steps of other clients that requests are
abbrev pub others_steps : List Request → List Step
others_steps requests = map (λ (request : Request). Ask Other request true true) requests

-- the token of the next request: of none where nothing was sent, or of what was sent last
abbrev pub TokenAt : State → ℕ → Option (List ℕ) → Type 0
TokenAt state position token =
    ((position ≡ 0) × (token ≡ None)) ⊎ (token ≡ Some (token_text (record { epoch = state.epoch; position = position; start = (held state).number })))

-- a pull that is underway has the records of the feed up to a position
pub record IsUnderway (state : State) (pulled : Pulled) : Type 0 where
  pub position : ℕ
  pub within : position ≤ (held state).number
  pub token : TokenAt state position pulled.token
  pub served : is_served_token state pulled.token ≡ true
  pub sent : List (ℕ × Item)
  pub feed_is : feed (held state) 0 (held state).number ≡ sent ++ feed (held state) position (held state).number
  pub items_are : pulled.items ≡ with_records [] (shown_items state.plain (values_of sent))

-- a pull that has ended has the whole feed
pub record HasAll (state : State) (pulled : Pulled) : Type 0 where
  pub items_are : pulled.items ≡ with_records [] (shown_items state.plain (values_of (feed (held state) 0 (held state).number)))
  pub last : IsSome pulled.last

-- one more request of a pull, and its reply
pub record Takes (before after : WorldValue) (pulled next : Pulled) (taken : Taken) : Type 0 where
  pub world : after ≡ record before { log = with_other before.log (Delta pulled.token) }
  pub last : taken ≡ Last → (next_of (answer (state_of before.log) before.size (Delta pulled.token)) ≡ None) × HasAll (state_of before.log) next
  pub more : taken ≡ More → (next_of (answer (state_of before.log) before.size (Delta pulled.token)) ≡ Some next.token) × IsUnderway (state_of before.log) next

-- all requests of a pull
pub record TakesPages (before after : WorldValue) (pulled : Pulled) (ended : Bool) : Type 0 where
  pub world : after ≡ record before { log = before.log ++ others_steps (asks_from most_replies (state_of before.log) before.size (Some None)) }
  pub rests : state_of after.log ≡ state_of before.log
  pub ended_is : ended ≡ ends_from most_replies (state_of before.log) before.size (Some None)
  pub all : ended ≡ true → HasAll (state_of before.log) pulled
