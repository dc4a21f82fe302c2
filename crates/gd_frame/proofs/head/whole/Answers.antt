use Rattle.std.proofs.Common.{drop, sym, ◌∙◌, arith}
use Rattle.std.proofs.lemmas.List.{length-map}
use Rattle.gd_frame.specs.Syntax.{syntax_of}
use Rattle.gd_frame.proofs.Heads.{plain, never_big, cause_of}
use Rattle.gd_frame.proofs.head.whole.Goals as goal

pub returns-then-end-gt-MAX_HEAD : goal.returns-then-end-gt-MAX_HEAD
returns-then-end-gt-MAX_HEAD c =
    let h = c.requires.head in
    never_big (syntax_of c.args.kind) (plain c.args.kind) c.args.bytes.now (drop c.args.end c.args.bytes.now) h.head h.reads (omega (arith, h.end_is, c.if-end-gt-MAX_HEAD.true))

pub returns-in-Ok : goal.returns-in-Ok
returns-in-Ok c =
    let h = c.requires.head in
    record {
      head = h.head;
      begins = record { reads = h.reads; short = omega (arith, h.end_is, c.if-end-gt-MAX_HEAD.false); few = omega (arith, simp length-map at h.count, c.requires.few) };
      end_is = h.end_is;
      framed = h.announced ∙ sym c.in-Ok.ensures.is;
      small = c.in-Ok.ensures.announced;
    }

pub returns-in-Err : goal.returns-in-Err
returns-in-Err c =
    let h = c.requires.head in
    cause_of (syntax_of c.args.kind) c.in-Err.cause c.args.bytes.now (record {
      head = h.head;
      rest = drop c.args.end c.args.bytes.now;
      begins = record { reads = h.reads; short = omega (arith, h.end_is, c.if-end-gt-MAX_HEAD.false); few = omega (arith, simp length-map at h.count, c.requires.few) };
      framed = h.announced ∙ sym c.in-Err.ensures.is;
    }) c.in-Err.ensures.announced
