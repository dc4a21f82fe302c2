use Rattle.std.proofs.Common.{◌≡◌, ◌++◌, List}
use Rattle.std.specs.List.{flat_map}
use Rattle.gd_item.specs.Inventory.{Effect, inventory}
use Rattle.od_cli.specs.Worlds.{Holds}
use Rattle.od_cli.specs.Played.{drive_text}
use Rattle.od_cli.specs.Pulled.{shown_line}
use Rattle.od_cli.proofs.Asking.{ok-gives}
use Rattle.od_cli.proofs.Listed.{paths-listed}
use Rattle.od_cli.proofs.Pulls.{whole-of}
use Rattle.od_cli.proofs.Shown.{store-printed}
use Rattle.od_cli.proofs.pull.print_store.Goals as goal

pub paths_in-requires : goal.paths_in-requires
paths_in-requires c =
    whole-of c.in_ok-page.page c.args.store.now c.requires.0 c.requires.1 (c.in_ok-page.ensures.items c.requires.0 c.requires.1) c.in_ok-page.ensures.last

pub print_contents-requires : goal.print_contents-requires
print_contents-requires c = (
  c.requires.0,
  c.requires.1,
  paths-listed c.args.store.now c.requires.0 c.in_ok-page.page.items c.in_ok-paths.paths c.as_slice.result.now c.requires.1 (c.in_ok-page.ensures.items c.requires.0 c.requires.1) c.in_ok-paths.ensures c.as_slice.ensures,
)

pub returns : goal.returns
returns c =
    ok-gives c.print_contents.result ((log : List Effect) → Holds c.args.store.now log → c.print_contents.new.out ≡ c.print_number.new.out ++ flat_map (shown_line (inventory log)) c.as_slice.result.now)
    ((log : List Effect) → Holds c.args.store.now log → c.print_contents.new.out ≡ c.args.out.now ++ drive_text (inventory log)) c.print_contents.ensures
    (λ printed log stands. store-printed c.args.store.now log c.in_ok-page.page.items c.in_ok-paths.paths c.as_slice.result.now c.number.result c.args.out.now c.print_number.new.out c.print_contents.new.out stands
    (c.in_ok-page.ensures.items log stands) c.in_ok-paths.ensures c.as_slice.ensures (c.number.ensures log stands.0 stands.1 stands.2) c.in_ok-print_number.ensures (printed log stands))
