use Rattle.std.proofs.Common.{subst, arith}
use Rattle.od_sync.specs.Deltas.{SentCause}
use Rattle.od_sync.proofs.Sends.{asks-page, asks-stopped, asks-failed, asks-unserved, spent-sent}
use Rattle.od_sync.proofs.Undisturbing.{undisturbed-then, no-faults-again}
use Rattle.od_sync.proofs.delta.send_again.Goals as goal

pub returns-in_err-sent-clause-log : goal.returns-in_err-sent-clause-log
returns-in_err-sent-clause-log g c =
    asks-stopped c.args.request.now c.loop-sent._sent c.loop-sent.replies c.from_residual.result (g.R.Remote.log c.args.remote.now) (g.R.Remote.log c.loop-sent.remote) (g.R.Remote.log c.send_delta.new.remote)
    c.in_err-sent.field-0.0 (grind arith) c.from_residual.ensures c.loop-sent.invariant.log c.in_err-sent.ensures.log

pub returns-in_err-sent-clause-undisturbed : goal.returns-in_err-sent-clause-undisturbed
returns-in_err-sent-clause-undisturbed g c =
    undisturbed-then (g.R.Remote.undisturbed c.args.remote.now) (g.R.Remote.undisturbed c.loop-sent.remote) (g.R.Remote.undisturbed c.send_delta.new.remote)
    (g.R.Remote.log c.args.remote.now) (g.R.Remote.log c.loop-sent.remote) (g.R.Remote.log c.send_delta.new.remote) c.loop-sent.invariant.undisturbed c.in_err-sent.ensures.undisturbed

pub returns-in_err-sent-clause-no_faults : goal.returns-in_err-sent-clause-no_faults
returns-in_err-sent-clause-no_faults g c =
    no-faults-again c.args.request.now c.loop-sent._sent c.loop-sent.replies (g.R.Remote.undisturbed c.args.remote.now) (g.R.Remote.undisturbed c.loop-sent.remote) (g.R.Remote.log c.args.remote.now) (g.R.Remote.log c.loop-sent.remote)
    (g.R.Remote.faults c.args.remote.now) (g.R.Remote.faults c.loop-sent.remote) (g.R.Remote.faults c.send_delta.new.remote) c.requires.delta c.loop-sent.invariant.undisturbed c.loop-sent.invariant.log c.loop-sent.invariant.no_faults
    c.in_err-sent.ensures.no_faults

pub returns-in-Ok-clause-log : goal.returns-in-Ok-clause-log
returns-in-Ok-clause-log g c =
    asks-page c.args.request.now c.loop-sent._sent c.loop-sent.replies c.in-Ok.page c.in_ok-sent.sent (g.R.Remote.log c.args.remote.now) (g.R.Remote.log c.loop-sent.remote) (g.R.Remote.log c.send_delta.new.remote)
    (grind arith) c.in-Ok.is c.loop-sent.invariant.log c.in_ok-sent.ensures.log

pub returns-in-Ok-clause-undisturbed : goal.returns-in-Ok-clause-undisturbed
returns-in-Ok-clause-undisturbed g c =
    undisturbed-then (g.R.Remote.undisturbed c.args.remote.now) (g.R.Remote.undisturbed c.loop-sent.remote) (g.R.Remote.undisturbed c.send_delta.new.remote)
    (g.R.Remote.log c.args.remote.now) (g.R.Remote.log c.loop-sent.remote) (g.R.Remote.log c.send_delta.new.remote) c.loop-sent.invariant.undisturbed c.in_ok-sent.ensures.undisturbed

pub returns-in-Ok-clause-no_faults : goal.returns-in-Ok-clause-no_faults
returns-in-Ok-clause-no_faults g c =
    no-faults-again c.args.request.now c.loop-sent._sent c.loop-sent.replies (g.R.Remote.undisturbed c.args.remote.now) (g.R.Remote.undisturbed c.loop-sent.remote) (g.R.Remote.log c.args.remote.now) (g.R.Remote.log c.loop-sent.remote)
    (g.R.Remote.faults c.args.remote.now) (g.R.Remote.faults c.loop-sent.remote) (g.R.Remote.faults c.send_delta.new.remote) c.requires.delta c.loop-sent.invariant.undisturbed c.loop-sent.invariant.log c.loop-sent.invariant.no_faults
    c.in_ok-sent.ensures.no_faults

pub loop-sent-preserved : goal.loop-sent-preserved
loop-sent-preserved g c =
    let before = c.loop-sent.invariant in
    let one = c.in_ok-sent.ensures in
    let sent = subst (SentCause (g.R.Remote.faults c.loop-sent.remote) (g.R.Remote.faults c.send_delta.new.remote) (g.R.Remote.answers c.loop-sent.remote) (g.R.Remote.answers c.send_delta.new.remote) (g.R.Remote.in_row c.loop-sent.remote) (g.R.Remote.in_row c.send_delta.new.remote)) c.in-Err.is one.cause.sent in
    record {
      log = λ old told. spent-sent c.args.request.now c.loop-sent._sent c.loop-sent.replies c.in-Err.more c.in_ok-sent.sent old (g.R.Remote.log c.loop-sent.remote) (g.R.Remote.log c.send_delta.new.remote) c.in-Err.is (before.log old told) one.log;
      counts = record {
        within = omega (arith, before.counts.within, sent.within);
        faults = omega (arith, before.counts.within, sent.within, before.counts.faults, sent.faults);
        answers = omega (arith, before.counts.answers, sent.answers);
        in_row = λ none. omega (arith, before.counts.in_row (omega (arith, none)), sent.in_row (omega (arith, none)));
      };
      faults_later = omega (arith, before.faults_later, one.cause.faults_later);
      answers_later = omega (arith, before.answers_later, one.cause.answers_later);
      undisturbed = undisturbed-then (g.R.Remote.undisturbed c.args.remote.now) (g.R.Remote.undisturbed c.loop-sent.remote) (g.R.Remote.undisturbed c.send_delta.new.remote)
          (g.R.Remote.log c.args.remote.now) (g.R.Remote.log c.loop-sent.remote) (g.R.Remote.log c.send_delta.new.remote) before.undisturbed one.undisturbed;
      no_faults = no-faults-again c.args.request.now c.loop-sent._sent c.loop-sent.replies (g.R.Remote.undisturbed c.args.remote.now) (g.R.Remote.undisturbed c.loop-sent.remote) (g.R.Remote.log c.args.remote.now) (g.R.Remote.log c.loop-sent.remote)
          (g.R.Remote.faults c.args.remote.now) (g.R.Remote.faults c.loop-sent.remote) (g.R.Remote.faults c.send_delta.new.remote) c.requires.delta before.undisturbed before.log before.no_faults one.no_faults;
    }

pub returns-then-replies-eq0-clause-log : goal.returns-then-replies-eq0-clause-log
returns-then-replies-eq0-clause-log g c =
    asks-failed c.args.request.now c.loop-sent._sent c.loop-sent.replies (g.R.Remote.log c.args.remote.now) (g.R.Remote.log c.loop-sent.remote) (grind arith) c.loop-sent.invariant.log

pub returns-else-replies-eq0-clause-log : goal.returns-else-replies-eq0-clause-log
returns-else-replies-eq0-clause-log g c =
    asks-unserved c.args.request.now c.loop-sent._sent c.loop-sent.replies (g.R.Remote.log c.args.remote.now) (g.R.Remote.log c.loop-sent.remote) (grind arith) (grind arith) c.loop-sent.invariant.log
