-- A drive that no one else asks, and that has a reply to each request for changes since a token that it serves, and to those
-- of fetches.
use Rattle.std.specs.Prelude.{◌≡◌, Bool, true, false, List, ◌++◌, Option, Some, None}
use Rattle.gd_item.specs.Sessions.{State}
use Rattle.gd_item.specs.Steps.{state_of}
use Rattle.gd_item.specs.declared.request.Request.{Request}
use Rattle.gd_item.specs.declared.request.Request.TheVariants.{Content, Download, Delta}
use Rattle.gd_item.specs.declared.step.Step.{Step}
use Rattle.gd_laws.specs.Served.{is_served_token}
use Rattle.od_transfer.specs.Alone.{AreOwnHeard, AreOwnServed}

-- whether a request always has a reply: one for changes since a token that is served, and those of fetches
abbrev pub is_servable : State → Request → Bool
is_servable state (Delta token) = is_served_token state token
is_servable state (Content at) = true
is_servable state (Download id version) = true
is_servable state request = false

abbrev pub MayBeServed : Request → Option (List Step) → Type 0
MayBeServed request log = (old : List Step) → log ≡ Some old → is_servable (state_of old) request ≡ true

-- the log grows by requests of this client alone, each of them served and heard
pub record GrowsByOwn (old : List Step) (after : Option (List Step)) : Type 0 where
  pub part : List Step
  pub own : AreOwnServed part
  pub heard : AreOwnHeard part
  pub grown : after ≡ Some (old ++ part)

-- what was undisturbed stays so: no one else does anything, each request that is made is served and heard, and a log that is
-- not told stays untold
pub record Undisturbed (undisturbed_before undisturbed_now : Bool) (before after : Option (List Step)) : Type 0 where
  pub stays : undisturbed_before ≡ true → undisturbed_now ≡ true
  pub alone : undisturbed_before ≡ true → (old : List Step) → before ≡ Some old → GrowsByOwn old after
  pub untold : undisturbed_before ≡ true → before ≡ None → after ≡ None
