use Rattle.std.proofs.Common.{◌≡◌, ◌++◌, false, List}
use Rattle.std.specs.List.{flat_map}
use Rattle.gd_item.specs.Steps.{held_by, state_of}
use Rattle.gd_item.specs.declared.step.Step.{Step}
use Rattle.od_cli.specs.Played.{pulled_text}
use Rattle.od_cli.specs.Pulled.{item_line}
use Rattle.od_cli.specs.Pulling.{HasAll}
use Rattle.od_cli.specs.Worlds.{Holds}
use Rattle.od_cli.proofs.Asking.{ok-gives}
use Rattle.od_cli.proofs.Prints.{pulled-printed}
use Rattle.od_cli.proofs.pull.print_pulled.Goals as goal

pub paths_pulled-requires : goal.paths_pulled-requires
paths_pulled-requires c = (c.requires.0, c.requires.1, c.requires.2)

pub returns : goal.returns
returns c =
    ok-gives c.print_items.result (c.print_items.new.out ≡ c.print_number.new.out ++ flat_map item_line c.as_slice.result.now)
    ((log : List Step) → HasAll (state_of log) c.args.mirror → (state_of log).plain ≡ false → Holds c.args.store.now (state_of log).effects → c.print_items.new.out ≡ c.args.out.now ++ pulled_text (held_by log)) c.print_items.ensures
    (λ printed log all whole stands. pulled-printed log c.args.mirror c.args.store.now c.in_ok-paths.paths c.as_slice.result.now c.number.result c.args.out.now c.print_number.new.out c.print_items.new.out all whole stands c.in_ok-paths.ensures
    c.as_slice.ensures (c.number.ensures (state_of log).effects stands.0 stands.1 stands.2) c.in_ok-print_number.ensures printed)
