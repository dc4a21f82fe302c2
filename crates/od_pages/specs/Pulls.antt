-- What a drive gives for a pull: pages, of which the last ends it, and the token with which the next pull asks. A pull over
-- pages is read off the drive's log, to which anybody adds steps between two requests.
use Rattle.std.specs.Prelude.{◌≡◌, ℕ, ◌≤◌, true, false, List, [], ◌∷◌, ◌++◌, Option, None}
use Rattle.std.specs.List.{All}
use Rattle.gd_item.specs.Answers.{answer_of}
use Rattle.gd_item.specs.Records.{records_of}
use Rattle.gd_item.specs.Steps.{state_of, held_by, number_of}
use Rattle.gd_item.specs.Tokens.{token_text}
use Rattle.gd_item.specs.Views.{ItemsAre}
use Rattle.gd_item.specs.declared.digest.Digest.{Digest}
use Rattle.gd_item.specs.declared.id.ItemId.{ItemId}
use Rattle.gd_item.specs.declared.item.Item.{Item}
use Rattle.gd_item.specs.declared.item.Kind.TheVariants.{File}
use Rattle.gd_item.specs.declared.item.Tag.{Tag}
use Rattle.gd_item.specs.declared.reply.Page.{Page}
use Rattle.gd_item.specs.declared.reply.PageLink.TheVariants as link
use Rattle.gd_item.specs.declared.reply.Reply.{Reply}
use Rattle.gd_item.specs.declared.reply.Reply.TheVariants as reply
use Rattle.gd_item.specs.declared.request.Request.TheVariants.{Delta}
use Rattle.gd_item.specs.declared.step.Step.{Step}
use Rattle.gd_item.specs.declared.step.Step.TheVariants.{Ask}
use Rattle.gd_item.specs.declared.step.Who.TheVariants.{Own}
use Rattle.od_mirror.specs.Pulled.{Pulled, begun, after_page}

-- a page that a drive gives for a token, or for none, after which no more come
pub record IsLastPage (log : List Step) (token : Option (List ℕ)) (page : Page) : Type 0 where
  pub size : ℕ
  pub given : reply.Page page ≡ answer_of log size (Delta token)
  pub end : List ℕ
  pub link_is : page.link ≡ link.Delta end

-- the token of a page that was given for none
abbrev pub token_then : List Step → List ℕ
token_then log = token_text (record { epoch = (state_of log).epoch; position = number_of log; start = number_of log })

-- a token that stands at the drive's number
pub record IsTokenNow (log : List Step) (token : List ℕ) : Type 0 where
  pub start : ℕ
  pub low : start ≤ number_of log
  pub is : token ≡ token_text (record { epoch = (state_of log).epoch; position = number_of log; start = start })

-- what is pulled after one more answer: a page is taken; where the token is gone, the pull begins anew
abbrev pub after_answer : Pulled → Reply → Pulled
after_answer pulled (reply.Page page) = after_page pulled page
after_answer pulled (reply.Gone resync) = begun [] None
after_answer pulled other = pulled

-- what is pulled after one more step of the drive's log: the client hears the answer to its own request for changes, which
-- carried the token of what was pulled, in a page of 1 to 200 records; each other step leaves it
abbrev pub Hears : List Step → Pulled → Step → Pulled → Type 0
Hears log pulled (Ask Own (Delta token) true true) next =
    (token ≡ pulled.token) × (size : ℕ) × (1 ≤ size) × (size ≤ 200) × (next ≡ after_answer pulled (answer_of log size (Delta token)))
Hears log pulled step next = next ≡ pulled

-- step by step
abbrev pub HearsAll : List Step → Pulled → List Step → Pulled → Type 0
HearsAll log pulled [] last = last ≡ pulled
HearsAll log pulled (step ∷ more) last = (next : Pulled) × Hears log pulled step next × HearsAll (log ++ step ∷ []) next more last

-- a pull: it began with items and a token that were the drive's, and went on while the drive's log grew to this one
pub record IsPull (log : List Step) (pulled : Pulled) : Type 0 where
  pub first : List Step
  pub items : List Item
  pub token : Option (List ℕ)
  pub sound : ItemsAre items first token
  pub more : List Step
  pub grown : log ≡ first ++ more
  pub heard : HearsAll first (begun items token) more pulled

-- each file that the drive holds with this id and this eTag has this digest
abbrev pub IsDigestThere : List Step → ItemId → Tag → Digest → Type 0
IsDigestThere log id etag digest = All (λ (item : Item). item.id ≡ id → item.etag ≡ etag → item.kind ≡ File digest) (records_of (held_by log))
