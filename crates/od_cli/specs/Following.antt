-- What this client can follow: it cannot yet begin anew where its token is no longer served, nor take a feed in pages, so that it
-- does not sync after a line that may bring it there.
use Rattle.std.specs.Prelude.{Bool, true, false, ◌&&◌, nat_le, List, [], ◌∷◌}
use Rattle.od_cli.specs.declared.line.Line.{Line}
use Rattle.od_cli.specs.declared.line.Line.TheVariants.{Expire, Restore, Page, Sync}

-- whether it can follow what a line does
abbrev pub can_follow : Line → Bool
can_follow (Expire number) = false
can_follow Restore = false
can_follow (Page size) = false
can_follow line = true

-- whether a line may stand where it can follow all lines before or not; a page has from 1 to 200 items
abbrev pub is_allowed : Bool → Line → Bool
is_allowed followed Sync = followed
is_allowed followed (Page size) = nat_le 1 size && nat_le size 200
is_allowed followed line = true

abbrev pub are_allowed : Bool → List Line → Bool
are_allowed followed [] = true
are_allowed followed (line ∷ lines) = is_allowed followed line && are_allowed (can_follow line && followed) lines
