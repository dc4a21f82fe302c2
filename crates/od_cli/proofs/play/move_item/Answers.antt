use Rattle.std.proofs.Common.{◌≡◌, ◌++◌, Some, refl}
use Rattle.gd_item.specs.declared.condition.Condition.TheVariants.{Free}
use Rattle.gd_item.specs.declared.fault.ErrorCode.TheVariants.{ItemNotFound}
use Rattle.gd_item.specs.declared.request.Address.TheVariants.{ByPath}
use Rattle.gd_item.specs.declared.request.Request.{Request}
use Rattle.gd_item.specs.declared.request.Request.TheVariants.{Patch}
use Rattle.od_cli.specs.Played.{refusal_line}
use Rattle.od_cli.specs.Plays.{IsAsked, Plays}
use Rattle.od_cli.specs.declared.line.Line.TheVariants.{OtherMove}
use Rattle.od_cli.proofs.Asking.{no-folder, ok-gives, plays}
use Rattle.od_cli.proofs.Moves.{move-nowhere, move-request}
use Rattle.od_cli.proofs.play.move_item.Goals as goal

pub returns-in-None : goal.returns-in-None
returns-in-None c =
    ok-gives c.print_refusal.result (c.print_refusal.new.out ≡ c.args.out.now ++ refusal_line 404 ItemNotFound)
    (Plays c.args.world.now c.args.world.now c.args.out.now c.print_refusal.new.out (OtherMove c.args.from.now c.args.to.now)) c.print_refusal.ensures
    (λ printed. no-folder c.args.world.now c.args.out.now c.print_refusal.new.out (OtherMove c.args.from.now c.args.to.now) refl refl
    (move-nowhere c.args.world.now.log c.store.result.now c.args.from.now c.args.to.now c.in_ok-above.above c.by_path.result c.store.ensures.holds
    (λ effects holds. c.by_path.ensures effects holds.0 holds.1 holds.2) c.in-None.is c.in_ok-above.ensures.0) printed)

pub returns : goal.returns
returns c =
    let request : Request = Patch (ByPath c.in_ok-path.path) (Some c.in_ok-above.name) (Some c.in-Some.parent) Free in
    ok-gives c.ask.result (IsAsked c.args.world.now c.ask.new.world c.args.out.now c.ask.new.out request)
    (Plays c.args.world.now c.ask.new.world c.args.out.now c.ask.new.out (OtherMove c.args.from.now c.args.to.now)) c.ask.ensures
    (λ asks. plays c.args.world.now c.ask.new.world c.args.out.now c.ask.new.out (OtherMove c.args.from.now c.args.to.now) request refl refl
    (move-request c.args.world.now.log c.store.result.now c.args.from.now c.args.to.now c.in_ok-path.path c.in_ok-above.above c.in_ok-above.name c.by_path.result c.in-Some.parent c.store.ensures.holds
    (λ effects holds. c.by_path.ensures effects holds.0 holds.1 holds.2) c.in-Some.is c.in_ok-above.ensures.0 c.in_ok-above.ensures.1 c.in_ok-path.ensures.cases) asks)
