use Rattle.std.proofs.Common.{List, ap, ◌∙◌}
use Rattle.od_tree.specs.declared.entry.Entry.{Entry}
use Rattle.od_scan.specs.Visits.{pushed, turns}
use Rattle.od_scan.proofs.Ends.{fails}
use Rattle.od_scan.proofs.Looking.{stops-short}
use Rattle.od_scan.proofs.Visiting.{folder-none, folder-some}
use Rattle.od_scan.proofs.scanning.visit_folder.Goals as goal

pub returns-in_err-entries : goal.returns-in_err-entries
returns-in_err-entries g c = rw (fails c.from_residual.ensures) c.in_err-entries.ensures

pub returns-in_err-push_entries-in-Some : goal.returns-in_err-push_entries-in-Some
returns-in_err-push_entries-in-Some g c = rw (fails c.from_residual-in_err-push_entries-in-Some.ensures) (stops-short (λ k next listed. listed.grows.stays) (λ w k more sees. sees.looks) c.in_ok-entries.ensures)

pub returns-in_err-push-in-Some : goal.returns-in_err-push-in-Some
returns-in_err-push-in-Some g c = rw (fails c.from_residual-in_err-push-in-Some.ensures) (stops-short (λ k next listed. listed.grows.stays) (λ w k more sees. sees.looks) c.in_ok-entries.ensures)

pub returns-in_ok-push-in-Some : goal.returns-in_ok-push-in-Some
returns-in_ok-push-in-Some g c =
    folder-some c.args.at c.in-Some.entries c.args.found.now.items c.push.new.self.items (turns c.args.waiting.now.items) (turns c.push_entries.new.waiting.items) c.in_ok-push-in-Some.ensures.items
    (c.in_ok-push_entries-in-Some.ensures ∙ ap (λ (entries : List Entry). pushed c.args.at entries (turns c.args.waiting.now.items)) c.as_slice.ensures) (rw c.in-Some.is at c.in_ok-entries.ensures)

pub returns-in-None : goal.returns-in-None
returns-in-None g c = folder-none c.args.at c.args.found.now.items (turns c.args.waiting.now.items) (rw c.in-None.is at c.in_ok-entries.ensures)
