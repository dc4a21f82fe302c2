use Rattle.std.proofs.Common.{◌≡◌, drop}
use Rattle.std.specs.List.{list_any}
use Rattle.gd_http.specs.Closing.{is_closing}
use Rattle.gd_http.proofs.closing.has_closing.Given as goal

abbrev pub invariant-loop-field : goal.invariant-loop-field
invariant-loop-field l = list_any is_closing l.fields ≡ list_any is_closing (drop l.field-index l.field-items)
