use Rattle.od_synclist.specs.Rules.{rules_of}
use Rattle.od_scan.proofs.Ends.{fails}
use Rattle.od_scan.proofs.Looking.{stops-short}
use Rattle.od_scan.proofs.Visiting.{file-none, file-some}
use Rattle.od_scan.proofs.scanning.visit_file.Goals as goal

pub returns-in_err-node : goal.returns-in_err-node
returns-in_err-node g c = rw (fails c.from_residual.ensures) c.in_err-node.ensures

pub returns-in_err-push-in-Some : goal.returns-in_err-push-in-Some
returns-in_err-push-in-Some g c = rw (fails c.from_residual-in_err-push-in-Some.ensures) (stops-short (λ k next found. found.grows.stays) (λ w k more sees. sees.looks) c.in_ok-node.ensures)

pub returns-in_ok-push-in-Some : goal.returns-in_ok-push-in-Some
returns-in_ok-push-in-Some g c =
    file-some (rules_of c.args.rules.now) c.args.at c.args.size c.in-Some.node c.args.found.now.items c.push.new.self.items c.in_ok-push-in-Some.ensures.items (rw c.in-Some.is at c.in_ok-node.ensures)

pub returns-in-None : goal.returns-in-None
returns-in-None g c = file-none (rules_of c.args.rules.now) c.args.at c.args.size c.args.found.now.items (rw c.in-None.is at c.in_ok-node.ensures)
