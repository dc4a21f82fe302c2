use Rattle.std.proofs.Common.{◌≡◌, ◌++◌}
use Rattle.od_cli.specs.Played.{reply_text}
use Rattle.od_cli.specs.Plays.{IsAsked}
use Rattle.od_cli.proofs.Asking.{asked, ok-gives}
use Rattle.od_cli.proofs.play.ask.Goals as goal

pub returns : goal.returns
returns c =
    ok-gives c.print_reply.result (c.print_reply.new.out ≡ c.args.out.now ++ reply_text c.in_ok-reply.reply) (IsAsked c.args.world.now c.other.new.self c.args.out.now c.print_reply.new.out c.args.request) c.print_reply.ensures
    (λ printed. asked c.args.world.now c.other.new.self c.args.out.now c.print_reply.new.out c.args.request c.in_ok-reply.reply c.in_ok-reply.ensures.reply c.in_ok-reply.ensures.log printed)
