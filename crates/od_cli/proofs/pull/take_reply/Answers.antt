use Rattle.std.proofs.Common.{◌∙◌}
use Rattle.od_cli.proofs.Pages.{page-came, takes}
use Rattle.od_cli.proofs.pull.take_reply.Goals as goal

pub returns-in_ok-taken-in-Page : goal.returns-in_ok-taken-in-Page
returns-in_ok-taken-in-Page c =
    takes c.args.world.now c.other.new.self c.args.mirror.now c.take_page.new.self c.in_ok-token.token c.in_ok-reply.reply c.other.ensures.size c.requires (c.in_ok-token.ensures ∙ c.token.ensures) c.in_ok-reply.ensures.reply
    c.in_ok-reply.ensures.log c.in-Page.page c.in_ok-taken-in-Page.taken c.in-Page.is c.in_ok-taken-in-Page.ensures.ok.0 c.in_ok-taken-in-Page.ensures.ok.1

pub returns-in-Gone : goal.returns-in-Gone
returns-in-Gone c =
    let came = page-came c.args.world.now c.other.new.self c.args.mirror.now c.args.mirror.now c.in_ok-token.token c.in_ok-reply.reply c.other.ensures.size c.requires (c.in_ok-token.ensures ∙ c.token.ensures) c.in_ok-reply.ensures.reply c.in_ok-reply.ensures.log in
    absurd (cc (came.1, c.in-Gone.is))

pub unreachable-requires : goal.unreachable-requires
unreachable-requires c =
    let came = page-came c.args.world.now c.other.new.self c.args.mirror.now c.args.mirror.now c.in_ok-token.token c.in_ok-reply.reply c.other.ensures.size c.requires (c.in_ok-token.ensures ∙ c.token.ensures) c.in_ok-reply.ensures.reply c.in_ok-reply.ensures.log in
    c.in_default.not-Page came.0 came.1
