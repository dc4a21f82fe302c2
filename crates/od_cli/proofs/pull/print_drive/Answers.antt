use Rattle.std.proofs.Common.{◌≡◌, ◌++◌, List}
use Rattle.gd_item.specs.Inventory.{Effect, inventory}
use Rattle.gd_item.specs.Steps.{state_of}
use Rattle.od_cli.specs.Worlds.{Holds}
use Rattle.od_cli.specs.Played.{drive_text}
use Rattle.od_cli.specs.Plays.{Plays}
use Rattle.od_cli.specs.declared.line.Line.TheVariants.{Drive}
use Rattle.od_cli.proofs.Asking.{ok-gives}
use Rattle.od_cli.proofs.Shown.{drive-plays}
use Rattle.od_cli.proofs.pull.print_drive.Goals as goal

pub print_store-requires : goal.print_store-requires
print_store-requires c = ((state_of c.args.world.now.log).effects, c.store.ensures.holds)

pub returns : goal.returns
returns c =
    ok-gives c.print_store.result ((log : List Effect) → Holds c.store.result.now log → c.print_store.new.out ≡ c.args.out.now ++ drive_text (inventory log))
    (Plays c.args.world.now c.args.world.now c.args.out.now c.print_store.new.out Drive) c.print_store.ensures
    (λ printed. drive-plays c.args.world.now c.store.result.now c.args.out.now c.print_store.new.out c.store.ensures.holds printed)
