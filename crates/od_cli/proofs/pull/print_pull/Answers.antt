use Rattle.std.proofs.Common.{true, false, sym, subst, ap, ◌∙◌}
use Rattle.gd_item.specs.Sessions.{State}
use Rattle.od_cli.specs.Plays.{Plays}
use Rattle.od_cli.specs.Pulling.{TakesPages}
use Rattle.od_cli.specs.Worlds.{Holds}
use Rattle.od_cli.specs.declared.line.Line.TheVariants.{Pull}
use Rattle.od_cli.proofs.Asking.{ok-gives}
use Rattle.od_cli.proofs.Prints.{pull-plays}
use Rattle.od_cli.proofs.pull.print_pull.Goals as goal

pub print_pulled-requires : goal.print_pulled-requires
print_pulled-requires c =
    let takes = c.in_ok-ended.ensures in (
      c.args.world.now.log,
      takes.all c.if-ended.true,
      sym (ap (λ (s : State). s.plain) takes.rests) ∙ c.store.ensures.whole,
      subst (λ (s : State). Holds c.store.result.now s.effects) takes.rests c.store.ensures.holds,
    )

pub returns-then-ended : goal.returns-then-ended
returns-then-ended c =
    let takes = c.in_ok-ended.ensures in
    let log = c.args.world.now.log in
    ok-gives c.print_pulled.result _ (Plays c.args.world.now c.take_pages.new.world c.args.out.now c.print_pulled.new.out Pull) c.print_pulled.ensures
    (λ printed. pull-plays c.args.world.now c.take_pages.new.world c.take_pages.new.mirror true c.args.out.now c.print_pulled.new.out (subst (λ b. TakesPages c.args.world.now c.take_pages.new.world c.take_pages.new.mirror b) c.if-ended.true takes)
    (printed log (takes.all c.if-ended.true) (sym (ap (λ (s : State). s.plain) takes.rests) ∙ c.store.ensures.whole) (subst (λ (s : State). Holds c.store.result.now s.effects) takes.rests c.store.ensures.holds)))

pub returns-else-ended : goal.returns-else-ended
returns-else-ended c =
    ok-gives c.push_slice.result _ (Plays c.args.world.now c.take_pages.new.world c.args.out.now c.push_slice.new.self Pull) c.push_slice.ensures.ok
    (λ printed. pull-plays c.args.world.now c.take_pages.new.world c.take_pages.new.mirror false c.args.out.now c.push_slice.new.self (subst (λ b. TakesPages c.args.world.now c.take_pages.new.world c.take_pages.new.mirror b) c.if-ended.false c.in_ok-ended.ensures) printed)
