use Rattle.std.proofs.Common.{List, ap, ◌∙◌}
use Rattle.od_tree.specs.declared.entry.Entry.{Entry}
use Rattle.od_scan.specs.Visits.{pushed, turns}
use Rattle.od_scan.proofs.Ends.{fails}
use Rattle.od_scan.proofs.Listing.{root-waits}
use Rattle.od_scan.proofs.Looking.{stops-short}
use Rattle.od_scan.proofs.scanning.begin.Goals as goal

pub returns-in_err-entries : goal.returns-in_err-entries
returns-in_err-entries g c = rw (fails c.from_residual.ensures) c.in_err-entries.ensures

pub returns-in_err-push_entries : goal.returns-in_err-push_entries
returns-in_err-push_entries g c = rw (fails c.from_residual-in_err-push_entries.ensures) (stops-short (λ k next begun. begun.stays) (λ w k more root. root.looks) c.in_ok-entries.ensures)

pub returns : goal.returns
returns g c =
    root-waits c.root-root.result c.in_ok-entries.entries (turns c.args.waiting.now.items) (turns c.push_entries.new.waiting.items) c.root-root.ensures
    (c.in_ok-push_entries.ensures ∙ ap (λ (entries : List Entry). pushed c.root-root.result entries (turns c.args.waiting.now.items)) c.as_slice.ensures) c.in_ok-entries.ensures
