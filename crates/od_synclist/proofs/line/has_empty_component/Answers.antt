use Rattle.std.proofs.Common.{true, sym, ap, ◌∙◌}
use Rattle.od_synclist.specs.Rules.{without_last_slash, after_anchor}
use Rattle.od_synclist.proofs.Components.{is_any_empty, any_empty}
use Rattle.od_synclist.proofs.line.has_empty_component.Goals as goal

pub loop-b-init : goal.loop-b-init
loop-b-init c = any_empty (without_last_slash (after_anchor c.args.line.now)) ∙ ap (is_any_empty true) (sym c.written-b-items.ensures)
