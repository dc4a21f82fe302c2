-- Whether a request asks that its connection be closed after the reply: it is of HTTP/1.0, or a `Connection` header
-- lists `close` (RFC 9110, section 7.6.1). The words of the list stand between commas, and are caseless.
use Rattle.std.specs.Prelude.{ℕ, Bool, ◌&&◌, ◌||◌, List, nat_eq, codes}
use Rattle.std.specs.List.{list_any}
use Rattle.httparse.specs.Grammar.{trim_ows}
use Rattle.gd_names.specs.Caseless.{equal_caseless}
use Rattle.gd_target.specs.Cuts.{parts}
use Rattle.gd_frame.specs.declared.frame.Field.{Field}
use Rattle.gd_frame.specs.declared.frame.RequestFrame.{RequestFrame}

-- the word `close`, whatever blanks stand around it
unfoldable pub is_close : List ℕ → Bool
is_close word = equal_caseless (trim_ows word) (codes "close")

-- a list of words has that one
abbrev pub lists_close : List ℕ → Bool
lists_close value = list_any is_close (parts 44 value)

-- the header asks to close
unfoldable pub is_closing : Field → Bool
is_closing field = equal_caseless field.name (codes "Connection") && lists_close field.value

abbrev pub asks_to_close : RequestFrame → Bool
asks_to_close frame = nat_eq frame.minor 0 || list_any is_closing frame.fields
