-- Whether bytes end inside a request's target: empty lines, a method, a blank and bytes of a target.
use Rattle.std.specs.Prelude.{ℕ, ◌==◌, List, [], ◌∷◌, if◌then◌else◌}
use Rattle.httparse.specs.Grammar.{is_token_byte, is_uri_byte}
use Rattle.gd_frame.specs.declared.target.Part.{Part}
use Rattle.gd_frame.specs.declared.target.Part.TheVariants.{Blank, Return, Method, Target, Other}

-- the part in which the next byte stands
abbrev pub part_after : Part → ℕ → Part
part_after Blank b = if b == 10 then Blank else (if b == 13 then Return else (if is_token_byte b then Method else Other))
part_after Return b = if b == 10 then Blank else Other
part_after Method b = if is_token_byte b then Method else (if b == 32 then Target else Other)
part_after Target b = if is_uri_byte b then Target else Other
part_after Other b = Other

abbrev pub part_of : Part → List ℕ → Part
part_of at [] = at
part_of at (b ∷ bytes) = part_of (part_after at b) bytes
