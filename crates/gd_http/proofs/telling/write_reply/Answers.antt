use Rattle.std.proofs.Common.{sym, ap, ◌∙◌, subst}
use Rattle.gd_http.specs.Sending.{HasReplyBody}
use Rattle.gd_http.specs.WrittenReplies.{written_reply}
use Rattle.gd_http.proofs.RepliesAgain.{answered}
use Rattle.gd_http.proofs.telling.write_reply.Goals as goal

pub returns-clause-read_again : goal.returns-clause-read_again
returns-clause-read_again c = λ l same.
    answered l c.args.reply.now c.in_ok-out.out (c.in_ok-out.ensures.text ∙ ap (λ base. written_reply base c.args.reply.now) (sym same)) c.known_reply.ensures
    (subst (λ base. HasReplyBody base c.args.reply.now) (sym same) c.in_ok-out.ensures.has)
