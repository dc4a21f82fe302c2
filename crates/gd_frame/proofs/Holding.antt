-- What a reader holds.
use Rattle.std.proofs.Common.{◌≡◌, ℕ, ◌<◌, ◌≤◌, true, false, List, [], ◌++◌, length, Ok, inl, sym, subst, lit<}
use Rattle.gd_frame.specs.declared.message.Kind.{Kind}
use Rattle.gd_frame.specs.declared.spot.Spot.{Spot}
use Rattle.gd_frame.specs.declared.spot.Spot.TheVariants.{Empty}
use Rattle.gd_frame.specs.declared.stream.Phase.{Phase}
use Rattle.gd_frame.specs.declared.stream.Phase.TheVariants as phase
use Rattle.gd_frame.specs.declared.stream.Taken.TheVariants.{Need}
use Rattle.gd_frame.specs.Messages.{HasNoMessage, HasNoFittingHead, HasOpenHead}
use Rattle.gd_frame.specs.Scanning.{Holds, Takes}
use Rattle.gd_frame.specs.Spots.{spot_of, is_known, EndsAtSpot}
use Rattle.gd_frame.specs.Syntax.{syntax_of}
use Rattle.gd_frame.proofs.Heads.{plain, never_long, none_in_nothing, not_yet}
use Rattle.gd_frame.proofs.Known.{closed_there}
use Rattle.gd_frame.proofs.Spots.{goes_on, begins, open_there, no_message}

-- what a reader begins with
pub holds_nothing : (kind : Kind) (held : List ℕ) (at : Phase) → held ≡ [] → at ≡ phase.Head Empty → Holds kind held at
holds_nothing kind held at nothing head = rw (nothing, head) (lit< tt, none_in_nothing (syntax_of kind) (plain kind), begins kind)

-- what is held is no message
pub holds_none : (kind : Kind) (held : List ℕ) (at : Phase) → Holds kind held at → HasNoMessage (syntax_of kind) held
holds_none kind held (phase.Head at) h = h.1
holds_none kind held (phase.Body end body) h = not_yet (syntax_of kind) (plain kind) held end body h.1 h.0

-- a head that is open still
pub open_need : (kind : Kind) (at : Spot) (held piece new : List ℕ) → EndsAtSpot kind at held → new ≡ held ++ piece → HasOpenHead (syntax_of kind) (held ++ piece)
    → Takes kind held piece (Ok (Need (phase.Head (spot_of kind at piece)))) new
open_need kind at held piece new ends is o =
    let none = no_message (syntax_of kind) (held ++ piece) o.none in
    (none, inl o, is, (rw is o.short, subst (HasNoMessage (syntax_of kind)) (sym is) none, subst (EndsAtSpot kind (spot_of kind at piece)) (sym is) (goes_on kind at held piece ends)))

-- and that is told by the last bytes alone
pub known_need : (kind : Kind) (at : Spot) (held piece new : List ℕ) → EndsAtSpot kind at held → new ≡ held ++ piece → is_known kind (spot_of kind at piece) ≡ true → length (held ++ piece) < 65536
    → Takes kind held piece (Ok (Need (phase.Head (spot_of kind at piece)))) new
known_need kind at held piece new ends is known short =
    let here = open_there kind (spot_of kind at piece) (held ++ piece) (goes_on kind at held piece ends) known in
    open_need kind at held piece new ends is (record { short = short; none = here.0; may = here.1 })

-- or of too many bytes
pub known_long : (kind : Kind) (at : Spot) (held piece : List ℕ) → EndsAtSpot kind at held → is_known kind (spot_of kind at piece) ≡ true → 65536 ≤ length (held ++ piece)
    → HasNoFittingHead (syntax_of kind) (held ++ piece)
known_long kind at held piece ends known long =
    never_long (syntax_of kind) (held ++ piece) (open_there kind (spot_of kind at piece) (held ++ piece) (goes_on kind at held piece ends) known).0 long

-- where the last bytes do not tell it, the head is not open
pub unknown_never : (kind : Kind) (at : Spot) (held piece : List ℕ) → EndsAtSpot kind at held → is_known kind (spot_of kind at piece) ≡ false → HasOpenHead (syntax_of kind) (held ++ piece) → ⊥
unknown_never kind at held piece ends unknown o = closed_there kind (spot_of kind at piece) (held ++ piece) (goes_on kind at held piece ends) unknown o
