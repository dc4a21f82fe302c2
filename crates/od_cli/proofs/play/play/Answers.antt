use Rattle.std.proofs.Common.{arith, ap, ◌∙◌}
use Rattle.od_cli.specs.Following.{are_allowed}
use Rattle.od_cli.proofs.Playing.{all-played, allowed-after, allowed-next, none-yet, one-more}
use Rattle.od_cli.proofs.play.play.Goals as goal

pub loop-line-init : goal.loop-line-init
loop-line-init c = (
  none-yet c.in_ok-run.run'.world c.in_ok-run.run'.folder c.in_ok-run.run'.keeper c.in_ok-run.run'.counted c.in_ok-run.run'.followed c.new-out.result c.args.lines.now c.in_ok-run.ensures c.new-out.ensures,
  ap (λ f. are_allowed f c.args.lines.now) c.in_ok-run.ensures.followed_is ∙ c.requires,
)

pub play-requires : goal.play-requires
play-requires c =
    allowed-next c.args.lines.now c.loop-line.line-index c.line-item.result c.loop-line.run.followed c.loop-line.invariant.1 c.loop-line-test.true c.line-item.is

pub loop-line-preserved : goal.loop-line-preserved
loop-line-preserved c =
    let run = c.loop-line.run in
    let after = c.play.new.self in (
      one-more run.world after.world run.folder after.folder run.keeper after.keeper run.counted after.counted run.followed after.followed c.loop-line.out c.play.new.out c.args.lines.now c.loop-line.line-index c.line-item.result
          c.loop-line.invariant.0 c.loop-line-test.true c.line-item.is c.in_ok-play.ensures.plays,
      allowed-after c.args.lines.now c.loop-line.line-index c.line-item.result run.followed c.loop-line.invariant.1 c.loop-line-test.true c.line-item.is after.followed c.in_ok-play.ensures.followed,
    )

pub returns : goal.returns
returns c =
    let run = c.loop-line.run in
    all-played run.world run.folder run.keeper run.counted run.followed c.loop-line.out c.args.lines.now c.loop-line.line-index (omega arith) c.loop-line.invariant.0
