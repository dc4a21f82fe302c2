use Rattle.std.proofs.Common.{◌≡◌, drop}
use Rattle.std.specs.List.{cons_option, filter_map}
use Rattle.gd_target.specs.Queries.{shown, once}
use Rattle.gd_http.specs.Headers.{value_in}
use Rattle.gd_http.proofs.header.header_value.Given as goal

abbrev pub invariant-loop-field : goal.invariant-loop-field
invariant-loop-field l = once (cons_option (shown l.found) (filter_map (value_in l.name) (drop l.field-index l.field-items))) ≡ once (filter_map (value_in l.name) l.fields)
