-- A request's spots and the parts of its first line: bytes that end in a broken target end inside a target.
use Rattle.std.proofs.Common.{◌≡◌, ℕ, Bool, true, false, ◌==◌, List, [], ◌∷◌, cond, refl, sym, ap, ◌∙◌}
use Rattle.std.specs.Prelude.{nat_le}
use Rattle.std.specs.Char.{is_ascii_digit}
use Rattle.std.specs.Int.{is_in_range}
use Rattle.httparse.specs.Grammar.{is_token_byte, is_uri_byte, is_value_byte, EndsInTarget, HasNoRequest}
use Rattle.gd_frame.specs.declared.message.Kind.TheVariants.{Request}
use Rattle.gd_frame.specs.declared.spot.Spot.{Spot}
use Rattle.gd_frame.specs.declared.spot.Spot.TheVariants as spot
use Rattle.gd_frame.specs.declared.target.Part.{Part}
use Rattle.gd_frame.specs.declared.target.Part.TheVariants.{Blank, Return, Method, Target, Other}
use Rattle.gd_frame.specs.Spots.{line_after, target_after, character_after, spot_after, spot_of, EndsAtSpot}
use Rattle.gd_frame.specs.Targets.{part_after, part_of}
use Rattle.gd_frame.proofs.Targets.{ends, ended, no_head}

-- the part in which a spot stands
abbrev spot_part : Spot → Part
spot_part spot.Empty = Blank
spot_part spot.EmptyReturn = Return
spot_part spot.Method = Method
spot_part spot.TargetStart = Target
spot_part spot.Target = Target
spot_part spot.TargetOne = Target
spot_part spot.TargetTwo = Target
spot_part spot.TargetThree = Target
spot_part spot.TargetE0 = Target
spot_part spot.TargetEd = Target
spot_part spot.TargetF0 = Target
spot_part spot.TargetF4 = Target
spot_part spot.TargetBroken = Target
spot_part at = Other

same : (test : Bool) (x y : Spot) (p : Part) → spot_part x ≡ p → spot_part y ≡ p → spot_part (cond test x y) ≡ p
same true x y p e f = e
same false x y p e f = f

either : (test : Bool) (x y : Spot) (p q : Part) → spot_part x ≡ p → spot_part y ≡ q → spot_part (cond test x y) ≡ cond test p q
either true x y p q e f = e
either false x y p q e f = f

target_part : (b : ℕ) → spot_part (target_after b) ≡ Target
target_part b =
    let after4 : Spot = cond (b == 244) spot.TargetF4 spot.TargetBroken in
    let after3 : Spot = cond (is_in_range 241 243 b) spot.TargetThree after4 in
    let after0 : Spot = cond (b == 240) spot.TargetF0 after3 in
    let after_high : Spot = cond (is_in_range 238 239 b) spot.TargetTwo after0 in
    let after_ed : Spot = cond (b == 237) spot.TargetEd after_high in
    let after_low : Spot = cond (is_in_range 225 236 b) spot.TargetTwo after_ed in
    let after_e0 : Spot = cond (b == 224) spot.TargetE0 after_low in
    let after_two : Spot = cond (is_in_range 194 223 b) spot.TargetOne after_e0 in
    same (nat_le b 127) spot.Target after_two Target refl
    (same (is_in_range 194 223 b) spot.TargetOne after_e0 Target refl
    (same (b == 224) spot.TargetE0 after_low Target refl
    (same (is_in_range 225 236 b) spot.TargetTwo after_ed Target refl
    (same (b == 237) spot.TargetEd after_high Target refl
    (same (is_in_range 238 239 b) spot.TargetTwo after0 Target refl
    (same (b == 240) spot.TargetF0 after3 Target refl
    (same (is_in_range 241 243 b) spot.TargetThree after4 Target refl
    (same (b == 244) spot.TargetF4 spot.TargetBroken Target refl refl))))))))

character_part : (low high : ℕ) (next : Spot) (b : ℕ) → spot_part next ≡ Target → spot_part (character_after low high next b) ≡ part_after Target b
character_part low high next b e =
    either (is_uri_byte b) (cond (is_in_range low high b) next spot.TargetBroken) spot.Unknown Target Other
    (same (is_in_range low high b) next spot.TargetBroken Target e refl) refl

line_part : (other : Spot) (b : ℕ) → spot_part other ≡ Other → spot_part (line_after b other) ≡ Other
line_part other b e = same (b == 10) spot.Line (cond (b == 13) spot.Return other) Other refl (same (b == 13) spot.Return other Other refl e)

step : (at : Spot) (b : ℕ) → spot_part (spot_after Request at b) ≡ part_after (spot_part at) b
step spot.Empty b =
    let first : Spot = cond (is_token_byte b) spot.Method spot.Unknown in
    let part : Part = cond (is_token_byte b) Method Other in
    either (b == 10) spot.Empty (cond (b == 13) spot.EmptyReturn first) Blank (cond (b == 13) Return part) refl
    (either (b == 13) spot.EmptyReturn first Return part refl (either (is_token_byte b) spot.Method spot.Unknown Method Other refl refl))
step spot.EmptyReturn b = either (b == 10) spot.Empty spot.Unknown Blank Other refl refl
step spot.Method b =
    either (is_token_byte b) spot.Method (cond (b == 32) spot.TargetStart spot.Unknown) Method (cond (b == 32) Target Other) refl (either (b == 32) spot.TargetStart spot.Unknown Target Other refl refl)
step spot.TargetStart b = either (is_uri_byte b) (target_after b) spot.Unknown Target Other (target_part b) refl
step spot.Target b =
    either (is_uri_byte b) (target_after b) (cond (b == 32) spot.Version0 spot.Unknown) Target Other (target_part b) (same (b == 32) spot.Version0 spot.Unknown Other refl refl)
step spot.TargetOne b = character_part 128 191 spot.Target b refl
step spot.TargetTwo b = character_part 128 191 spot.TargetOne b refl
step spot.TargetThree b = character_part 128 191 spot.TargetTwo b refl
step spot.TargetE0 b = character_part 160 191 spot.TargetOne b refl
step spot.TargetEd b = character_part 128 159 spot.TargetOne b refl
step spot.TargetF0 b = character_part 144 191 spot.TargetTwo b refl
step spot.TargetF4 b = character_part 128 143 spot.TargetTwo b refl
step spot.TargetBroken b = either (is_uri_byte b) spot.TargetBroken spot.Unknown Target Other refl refl
step spot.Version0 b = same (b == 72) spot.Version1 spot.Unknown Other refl refl
step spot.Version1 b = same (b == 84) spot.Version2 spot.Unknown Other refl refl
step spot.Version2 b = same (b == 84) spot.Version3 spot.Unknown Other refl refl
step spot.Version3 b = same (b == 80) spot.Version4 spot.Unknown Other refl refl
step spot.Version4 b = same (b == 47) spot.Version5 spot.Unknown Other refl refl
step spot.Version5 b = same (b == 49) spot.Version6 spot.Unknown Other refl refl
step spot.Version6 b = same (b == 46) spot.Version7 spot.Unknown Other refl refl
step spot.Version7 b = same (b == 48) spot.LineEnd (cond (b == 49) spot.LineEnd spot.Unknown) Other refl (same (b == 49) spot.LineEnd spot.Unknown Other refl refl)
step spot.Status b = same (b == 32) spot.Code0 spot.Unknown Other refl refl
step spot.Code0 b = same (is_ascii_digit b) spot.Code1 spot.Unknown Other refl refl
step spot.Code1 b = same (is_ascii_digit b) spot.Code2 spot.Unknown Other refl refl
step spot.Code2 b = same (is_ascii_digit b) spot.Code3 spot.Unknown Other refl refl
step spot.Code3 b = same (b == 32) spot.Value (line_after b spot.Unknown) Other refl (line_part spot.Unknown b refl)
step spot.LineEnd b = line_part spot.Unknown b refl
step spot.Return b = same (b == 10) spot.Line spot.Unknown Other refl refl
step spot.Line b = same (is_token_byte b) spot.Name (cond (b == 13) spot.EndReturn spot.Unknown) Other refl (same (b == 13) spot.EndReturn spot.Unknown Other refl refl)
step spot.Name b = same (is_token_byte b) spot.Name (cond (b == 58) spot.Value spot.Unknown) Other refl (same (b == 58) spot.Value spot.Unknown Other refl refl)
step spot.Value b = same (is_value_byte b) spot.Value (line_after b spot.Unknown) Other refl (line_part spot.Unknown b refl)
step spot.EndReturn b = refl
step spot.Unknown b = refl

walk : (at : Spot) (bytes : List ℕ) → spot_part (spot_of Request at bytes) ≡ part_of (spot_part at) bytes
walk at [] = refl
walk at (b ∷ bytes) = walk (spot_after Request at b) bytes ∙ ap (λ (p : Part). part_of p bytes) (step at b)

broken_part : (bytes : List ℕ) → EndsAtSpot Request spot.TargetBroken bytes → part_of Blank bytes ≡ Target
broken_part bytes e = sym (walk spot.Empty bytes) ∙ ap spot_part e

pub broken_waits : (bytes : List ℕ) → EndsAtSpot Request spot.TargetBroken bytes → EndsInTarget bytes
broken_waits bytes e = ends bytes (broken_part bytes e)

pub broken_none : (bytes : List ℕ) → EndsAtSpot Request spot.TargetBroken bytes → HasNoRequest bytes
broken_none bytes e = no_head bytes (broken_part bytes e)

-- and where the spot is not known they end inside none
pub waits_not : (bytes : List ℕ) → EndsAtSpot Request spot.Unknown bytes → EndsInTarget bytes → ⊥
waits_not bytes e waits =
    let is : Target ≡ Other = sym (ended bytes waits) ∙ sym (walk spot.Empty bytes) ∙ ap spot_part e in
    absurd cc
