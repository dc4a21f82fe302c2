-- A request that is sent again as long as it is not heard.
use Rattle.std.proofs.Common.{◌≡◌, ℕ, ◌+◌, List, Option, Ok, Err, refl, subst, arith}
use Rattle.gd_item.specs.declared.reply.Reply.{Reply}
use Rattle.gd_item.specs.declared.request.Request.{Request}
use Rattle.gd_item.specs.declared.step.Step.{Step}
use Rattle.od_transfer.specs.Asking.{Heard, Abandoned, Tries, Asks, AsksAgain}
use Rattle.od_transfer.specs.declared.remote.AskFault.{AskFault}
use Rattle.od_transfer.specs.declared.remote.AskFault.TheVariants.{Failed, Memory}
use Rattle.od_transfer.proofs.Logs.{tries-more, heard-first, unheard-first, abandoned-first, heard-then, tried-then, abandoned-then}

pub once-heard : (request : Request) {reply : Reply} {before after : Option (List Step)} → Asks request before after (Ok reply) → AsksAgain 0 request before after (Ok reply)
once-heard request {reply} {before} {after} asks =
    record { ok = λ old told. heard-first request reply old after (asks.ok old told); failed = λ is. absurd (cc is); memory = λ is. absurd (cc is) }

pub once-unheard : (request : Request) {fault : AskFault} {before after : Option (List Step)} → Asks request before after (Err fault) → AsksAgain 0 request before after (Err fault)
once-unheard request {fault} {before} {after} asks = record {
  ok = tt;
  failed = λ is old told. unheard-first request old after (asks.failed is old told);
  memory = λ is old told. abandoned-first request old after (asks.memory is old told);
}

-- one send is so many at most
heard-more : (n : ℕ) (request : Request) (reply : Reply) (old : List Step) (after : Option (List Step)) → Heard (Tries 0 request) request old after reply → Heard (Tries n request) request old after reply
heard-more n request reply old after h =
    record { part = h.part; such = tries-more 0 n request h.part (omega arith) h.such; sent = h.sent; served = h.served; grown = h.grown; answers = h.answers }

pub at-once : (n : ℕ) (request : Request) {reply : Reply} {before after : Option (List Step)} → AsksAgain 0 request before after (Ok reply) → AsksAgain n request before after (Ok reply)
at-once n request {reply} {before} {after} asks = record { ok = λ old told. heard-more n request reply old after (asks.ok old told); failed = λ is. absurd (cc is); memory = λ is. absurd (cc is) }

abandoned-more : (n : ℕ) (request : Request) (old : List Step) (after : Option (List Step)) → Abandoned (Tries 0 request) request old after → Abandoned (Tries n request) request old after
abandoned-more n request old after a = record { part = a.part; such = tries-more 0 n request a.part (omega arith) a.such; grown = a.grown }

pub without-memory : (n : ℕ) (request : Request) {fault : AskFault} {before after : Option (List Step)} → fault ≡ Memory → AsksAgain 0 request before after (Err fault) → AsksAgain n request before after (Err Memory)
without-memory n request {fault} {before} {after} is asks =
    let once = subst (λ (f : AskFault). AsksAgain 0 request before after (Err f)) is asks in
    record { ok = tt; failed = λ other. absurd (cc other); memory = λ same old told. abandoned-more n request old after (once.memory refl old told) }

-- a send that was not heard, and then so many more
once-failed : (request : Request) {fault : AskFault} {before middle : Option (List Step)} → fault ≡ Failed → AsksAgain 0 request before middle (Err fault) → AsksAgain 0 request before middle (Err Failed)
once-failed request {fault} {before} {middle} failed first = subst (λ (f : AskFault). AsksAgain 0 request before middle (Err f)) failed first

pub again-heard : (n : ℕ) (request : Request) {fault : AskFault} {reply : Reply} {before middle after : Option (List Step)} → fault ≡ Failed
    → AsksAgain 0 request before middle (Err fault) → AsksAgain n request middle after (Ok reply) → AsksAgain (n + 1) request before after (Ok reply)
again-heard n request {fault} {reply} {before} {middle} {after} failed first second =
    let once = once-failed request failed first in
    record {
      ok = λ old told. heard-then n request reply old middle after (once.failed refl old told) (λ now is. second.ok now is);
      failed = λ is. absurd (cc is);
      memory = λ is. absurd (cc is);
    }

pub again-unheard : (n : ℕ) (request : Request) {fault last : AskFault} {before middle after : Option (List Step)} → fault ≡ Failed
    → AsksAgain 0 request before middle (Err fault) → AsksAgain n request middle after (Err last) → AsksAgain (n + 1) request before after (Err last)
again-unheard n request {fault} {last} {before} {middle} {after} failed first second =
    let once = once-failed request failed first in
    record {
      ok = tt;
      failed = λ is old told. tried-then (n + 1) request old middle after (once.failed refl old told) (λ now then. second.failed is now then);
      memory = λ is old told. abandoned-then n request old middle after (once.failed refl old told) (λ now then. second.memory is now then);
    }
