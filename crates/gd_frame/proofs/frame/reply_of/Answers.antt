use Rattle.std.proofs.Common.{Ok, drop, sym, ap, ◌∙◌, length-drop}
use Rattle.httparse.proofs.GrammarLemmas.{response_unique}
use Rattle.gd_frame.specs.Frames.{reply_frame}
use Rattle.gd_frame.proofs.frame.reply_of.Goals as goal

pub returns : goal.returns
returns c =
    let found = rw (c.in-Ok-Complete.field-0-is, c.as_slice-bytes.ensures.value) at c.in-Ok-Complete.ensures.complete in
    let at = found.1 in
    let f = c.requires.framed in
    let bytes = c.args.whole.items in
    let body = drop c.args.end bytes in
    let same = response_unique bytes found.0 f.head (drop c.in-Ok-Complete.head.len bytes) body at.reads f.begins.reads in (
      record { head = f.head; body = body; begins = f.begins; framed = f.framed ∙ ap Ok (sym (length-drop c.args.end bytes)) },
      rw (c.in_ok-fields-in-Ok-Complete.ensures, c.from_vec.ensures, c.without_front.ensures, c.as_slice-bytes.ensures.value, at.code, at.fields) (ap (λ h. reply_frame h body) same.0),
    )
