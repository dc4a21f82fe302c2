use Rattle.std.proofs.Common.{◌≡◌, ◌++◌, ◌∷◌, [], ◌&&◌, true, false, List, length, drop, Some, None, inl, inr, ap, ◌∙◌, refl}
use Rattle.od_tree.specs.Memory as tree
use Rattle.od_tree.specs.declared.step.LocalStep.{LocalStep}
use Rattle.gd_item.specs.Sessions.{held}
use Rattle.gd_item.specs.Steps.{state_of}
use Rattle.gd_item.specs.declared.step.DriveEvent.TheVariants as event
use Rattle.gd_item.specs.declared.step.Step.{Step}
use Rattle.gd_item.specs.declared.step.Step.TheVariants.{Event}
use Rattle.od_cli.specs.Played.{request_of}
use Rattle.od_cli.specs.Plays.{Plays}
use Rattle.od_cli.specs.Pulling.{asks_from, most_replies}
use Rattle.od_cli.specs.Runs.{Run, local_text}
use Rattle.od_cli.specs.RunStates.{PlaysTo, StandsFor}
use Rattle.od_cli.specs.declared.line.Line.{Line}
use Rattle.od_cli.specs.declared.line.Line.TheVariants.{OtherPut, OtherMakeFolder, OtherMove, OtherRemove, Expire, Restore, EndSession, Pull}
use Rattle.od_cli.proofs.Asking.{ok-gives}
use Rattle.od_cli.proofs.Leading.{event-leads, local-leads, other-leads, others-safe, page-leads, request-safe, requests-lead}
use Rattle.od_cli.proofs.play.Run.play.Goals as goal

pub returns-in-OtherPut-clause-plays : goal.returns-in-OtherPut-clause-plays
returns-in-OtherPut-clause-plays c =
    let self = c.args.self.now in
    let line : Line = OtherPut c.in-OtherPut.path c.in-OtherPut.content in
    ok-gives c.put.result (Plays self.world c.put.new.world c.args.out.now c.put.new.out line)
    ((value : Run) → StandsFor self.world self.folder self.keeper self.counted self.followed value → PlaysTo c.put.new.world self.folder self.keeper self.counted self.followed value c.args.line.now c.args.out.now c.put.new.out) c.put.ensures
    (λ plays. other-leads self.world c.put.new.world self.folder self.keeper self.counted self.followed line c.args.line.now c.args.out.now c.put.new.out c.in-OtherPut.is (λ run. (refl, refl)) plays (λ run. request-safe (request_of (held (state_of run.drive)) line)))

pub returns-in-OtherMakeFolder-clause-plays : goal.returns-in-OtherMakeFolder-clause-plays
returns-in-OtherMakeFolder-clause-plays c =
    let self = c.args.self.now in
    let line : Line = OtherMakeFolder c.in-OtherMakeFolder.path in
    ok-gives c.make_folder.result (Plays self.world c.make_folder.new.world c.args.out.now c.make_folder.new.out line)
    ((value : Run) → StandsFor self.world self.folder self.keeper self.counted self.followed value → PlaysTo c.make_folder.new.world self.folder self.keeper self.counted self.followed value c.args.line.now c.args.out.now c.make_folder.new.out) c.make_folder.ensures
    (λ plays. other-leads self.world c.make_folder.new.world self.folder self.keeper self.counted self.followed line c.args.line.now c.args.out.now c.make_folder.new.out c.in-OtherMakeFolder.is (λ run. (refl, refl)) plays (λ run. request-safe (request_of (held (state_of run.drive)) line)))

pub returns-in-OtherMove-clause-plays : goal.returns-in-OtherMove-clause-plays
returns-in-OtherMove-clause-plays c =
    let self = c.args.self.now in
    let line : Line = OtherMove c.in-OtherMove.from c.in-OtherMove.to in
    ok-gives c.move_item.result (Plays self.world c.move_item.new.world c.args.out.now c.move_item.new.out line)
    ((value : Run) → StandsFor self.world self.folder self.keeper self.counted self.followed value → PlaysTo c.move_item.new.world self.folder self.keeper self.counted self.followed value c.args.line.now c.args.out.now c.move_item.new.out) c.move_item.ensures
    (λ plays. other-leads self.world c.move_item.new.world self.folder self.keeper self.counted self.followed line c.args.line.now c.args.out.now c.move_item.new.out c.in-OtherMove.is (λ run. (refl, refl)) plays (λ run. request-safe (request_of (held (state_of run.drive)) line)))

pub returns-in-OtherRemove-clause-plays : goal.returns-in-OtherRemove-clause-plays
returns-in-OtherRemove-clause-plays c =
    let self = c.args.self.now in
    let line : Line = OtherRemove c.in-OtherRemove.path in
    ok-gives c.remove.result (Plays self.world c.remove.new.world c.args.out.now c.remove.new.out line)
    ((value : Run) → StandsFor self.world self.folder self.keeper self.counted self.followed value → PlaysTo c.remove.new.world self.folder self.keeper self.counted self.followed value c.args.line.now c.args.out.now c.remove.new.out) c.remove.ensures
    (λ plays. other-leads self.world c.remove.new.world self.folder self.keeper self.counted self.followed line c.args.line.now c.args.out.now c.remove.new.out c.in-OtherRemove.is (λ run. (refl, refl)) plays (λ run. request-safe (request_of (held (state_of run.drive)) line)))

pub returns-in-Pull-clause-plays : goal.returns-in-Pull-clause-plays
returns-in-Pull-clause-plays c =
    let self = c.args.self.now in
    ok-gives c.print_pull.result (Plays self.world c.print_pull.new.world c.args.out.now c.print_pull.new.out Pull)
    ((value : Run) → StandsFor self.world self.folder self.keeper self.counted self.followed value → PlaysTo c.print_pull.new.world self.folder self.keeper self.counted self.followed value c.args.line.now c.args.out.now c.print_pull.new.out) c.print_pull.ensures
    (λ plays. other-leads self.world c.print_pull.new.world self.folder self.keeper self.counted self.followed Pull c.args.line.now c.args.out.now c.print_pull.new.out c.in-Pull.is (λ run. (refl, refl)) plays (λ run. others-safe (asks_from most_replies (state_of run.drive) run.size (Some None))))

pub returns-in-Local-clause-plays : goal.returns-in-Local-clause-plays
returns-in-Local-clause-plays c =
    let self = c.args.self.now in
    ok-gives c.print_local.result ((local : List LocalStep) → tree.log_of self.folder ≡ Some local → c.print_local.new.out ≡ c.args.out.now ++ local_text local)
    ((value : Run) → StandsFor self.world self.folder self.keeper self.counted self.followed value → PlaysTo self.world self.folder self.keeper self.counted self.followed value c.args.line.now c.args.out.now c.print_local.new.out) c.print_local.ensures
    (λ printed. local-leads self.world self.folder self.keeper self.counted self.followed c.args.line.now c.args.out.now c.print_local.new.out c.in-Local.is printed)

pub returns-in_ok-print_requests-in-Requests-clause-plays : goal.returns-in_ok-print_requests-in-Requests-clause-plays
returns-in_ok-print_requests-in-Requests-clause-plays c =
    let self = c.args.self.now in
    λ value stands. requests-lead self.world self.folder self.keeper self.counted _ self.followed c.args.line.now c.steps_after.result.now c.args.out.now c.print_requests.new.out c.in-Requests.is (ap (λ (l : List Step). length l) c.log-in-Requests.ensures)
    (c.steps_after.ensures ∙ ap (λ (l : List Step). drop self.counted l) c.log.ensures) c.in_ok-print_requests-in-Requests.ensures value stands

pub returns-in-Expire-clause-plays : goal.returns-in-Expire-clause-plays
returns-in-Expire-clause-plays c =
    let self = c.args.self.now in
    let after = c.event.new.self in
    ok-gives c.event.result ((after.world ≡ record self.world { log = self.world.log ++ Event (event.Expire c.in-Expire.number) ∷ [] }) × (after.folder ≡ self.folder) × (after.keeper ≡ self.keeper) × (after.counted ≡ self.counted) × (after.followed ≡ (false && self.followed)))
    ((value : Run) → StandsFor self.world self.folder self.keeper self.counted self.followed value → PlaysTo after.world after.folder after.keeper after.counted after.followed value c.args.line.now c.args.out.now c.args.out.now) c.event.ensures
    (λ befell. event-leads self.world after.world self.folder after.folder self.keeper after.keeper self.counted after.counted self.followed after.followed c.args.out.now befell.1 befell.2 befell.3 (Expire c.in-Expire.number) c.args.line.now (event.Expire c.in-Expire.number) c.in-Expire.is befell.0 false befell.4 (inr refl) (λ run. (refl, refl)))

pub returns-in-Restore-clause-plays : goal.returns-in-Restore-clause-plays
returns-in-Restore-clause-plays c =
    let self = c.args.self.now in
    let after = c.event-in-Restore.new.self in
    ok-gives c.event-in-Restore.result ((after.world ≡ record self.world { log = self.world.log ++ Event event.Restore ∷ [] }) × (after.folder ≡ self.folder) × (after.keeper ≡ self.keeper) × (after.counted ≡ self.counted) × (after.followed ≡ (false && self.followed)))
    ((value : Run) → StandsFor self.world self.folder self.keeper self.counted self.followed value → PlaysTo after.world after.folder after.keeper after.counted after.followed value c.args.line.now c.args.out.now c.args.out.now) c.event-in-Restore.ensures
    (λ befell. event-leads self.world after.world self.folder after.folder self.keeper after.keeper self.counted after.counted self.followed after.followed c.args.out.now befell.1 befell.2 befell.3 Restore c.args.line.now event.Restore c.in-Restore.is befell.0 false befell.4 (inr refl) (λ run. (refl, refl)))

pub returns-in-EndSession-clause-plays : goal.returns-in-EndSession-clause-plays
returns-in-EndSession-clause-plays c =
    let self = c.args.self.now in
    let after = c.event-in-EndSession.new.self in
    ok-gives c.event-in-EndSession.result ((after.world ≡ record self.world { log = self.world.log ++ Event (event.EndSession c.in-EndSession.session) ∷ [] }) × (after.folder ≡ self.folder) × (after.keeper ≡ self.keeper) × (after.counted ≡ self.counted) × (after.followed ≡ (true && self.followed)))
    ((value : Run) → StandsFor self.world self.folder self.keeper self.counted self.followed value → PlaysTo after.world after.folder after.keeper after.counted after.followed value c.args.line.now c.args.out.now c.args.out.now) c.event-in-EndSession.ensures
    (λ befell. event-leads self.world after.world self.folder after.folder self.keeper after.keeper self.counted after.counted self.followed after.followed c.args.out.now befell.1 befell.2 befell.3 (EndSession c.in-EndSession.session) c.args.line.now (event.EndSession c.in-EndSession.session) c.in-EndSession.is befell.0 true befell.4 (inl refl) (λ run. (refl, refl)))

pub returns-in-Page-clause-plays : goal.returns-in-Page-clause-plays
returns-in-Page-clause-plays c =
    let self = c.args.self.now in
    let after = c.set_page.new.self in
    ok-gives c.set_page.result ((after.world ≡ record self.world { size = c.in-Page.size }) × (after.folder ≡ self.folder) × (after.keeper ≡ self.keeper) × (after.counted ≡ self.counted) × (after.followed ≡ false))
    ((value : Run) → StandsFor self.world self.folder self.keeper self.counted self.followed value → PlaysTo after.world after.folder after.keeper after.counted after.followed value c.args.line.now c.args.out.now c.args.out.now) c.set_page.ensures
    (λ befell. page-leads self.world after.world self.folder after.folder self.keeper after.keeper self.counted after.counted self.followed after.followed c.args.out.now befell.1 befell.2 befell.3 c.args.line.now c.in-Page.size c.in-Page.is befell.0 befell.4)
