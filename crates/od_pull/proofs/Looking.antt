-- Requests that only look, one after another.
use Rattle.std.proofs.Common.{◌≡◌, ◌⊎◌, inl, inr, ℕ, Bool, true, false, cond, List, [], ◌∷◌, ◌++◌, is_none, Option, Some, None, Result, Ok, Err, refl, ap, sym, subst, ◌∙◌, arith}
use Rattle.std.specs.Option.{option_map}
use Rattle.std.proofs.lemmas.Bool.{eqb-true}
use Rattle.std.proofs.lemmas.List.{append-nil}
use Rattle.gd_item.specs.Answers.{answer_served}
use Rattle.gd_item.specs.Refused.{refusal}
use Rattle.gd_item.specs.Steps.{state_of}
use Rattle.gd_item.specs.Written.{IsWritten}
use Rattle.gd_item.specs.declared.id.ItemId.{ItemId}
use Rattle.gd_item.specs.declared.reply.Reply.{Reply}
use Rattle.gd_item.specs.declared.request.Address.{Address}
use Rattle.gd_item.specs.declared.request.Request.{Request}
use Rattle.gd_item.specs.declared.request.Request.TheVariants.{Content, Download}
use Rattle.gd_item.specs.declared.step.Step.{Step}
use Rattle.od_outside.specs.Asks.{AgainCause, AreUnheard, DoesAsked, sent_event}
use Rattle.od_outside.specs.Calls.{Calls, own_events}
use Rattle.od_outside.specs.Learning.{AskedBy, IsTried, TriedThen, after_asking, is_steady}
use Rattle.od_outside.specs.Running.{Runs}
use Rattle.od_outside.specs.Seeing.{Counts, Seen}
use Rattle.od_outside.proofs.Calling.{runs-again}
use Rattle.od_outside.proofs.Glue.{runs-by}
use Rattle.od_remote.specs.Asking.{DoesAsk, Sent}
use Rattle.od_remote.specs.Counting.{Reading}
use Rattle.od_remote.specs.declared.remote.AskFault.{AskFault}
use Rattle.od_remote.specs.declared.remote.AskFault.TheVariants as ask
use Rattle.od_run.specs.Acting.{MayRequest}
use Rattle.od_run.specs.Knowing.{Known, There, learned}
use Rattle.od_run.specs.Worlds.{World, Event, now, steps_in}
use Rattle.od_run.proofs.Legal.{now-append}
use Rattle.od_pull.specs.Digests.{HasForm, IsLook, IsReplyBy, IsReplyTo, IsStill, StillBy, StillCause}
use Rattle.od_pull.specs.Parts.{IsQuiet}
use Rattle.od_pull.specs.Stops.{ask_stop}
use Rattle.od_pull.specs.declared.stop.PullStop.{PullStop}
use Rattle.od_pull.proofs.Looks.{by-look}
use Rattle.od_pull.proofs.Quiet.{drive-now, quiet-look, quiet-then, quiet-unheard}

-- a result of a request as one of a part of the pull
abbrev pub told_stop : Result Reply AskFault → Result Reply PullStop
told_stop (Ok reply) = Ok reply
told_stop (Err fault) = Err (ask_stop fault)

-- ---- what is known stays
either-way : (b : Bool) (there : There) → cond b there there ≡ there
either-way true there = refl
either-way false there = refl

content-still : (drive : List Step) (size : ℕ) (at : Address) (served heard : Bool) (k : Known) → after_asking drive size (Content at) served heard k ≡ k
content-still drive size at true true k = ap (λ (there : There). record k { there = there }) (either-way (is_none (refusal (state_of drive) (Content at))) k.there)
content-still drive size at true false k = refl
content-still drive size at false heard k = refl

download-still : (drive : List Step) (size : ℕ) (id : ItemId) (version : ℕ) (served heard : Bool) (k : Known) → after_asking drive size (Download id version) served heard k ≡ k
download-still drive size id version true true k = ap (λ (there : There). record k { there = there }) (either-way (is_none (refusal (state_of drive) (Download id version))) k.there)
download-still drive size id version true false k = refl
download-still drive size id version false heard k = refl

look-still : (request : Request) → IsLook request → (drive : List Step) (size : ℕ) (served heard : Bool) (k : Known) → after_asking drive size request served heard k ≡ k
look-still request look =
    by-look (λ (r : Request). (drive : List Step) (size : ℕ) (served heard : Bool) (k : Known) → after_asking drive size r served heard k ≡ k) (λ at drive size served heard k. content-still drive size at served heard k)
    (λ id version drive size served heard k. download-still drive size id version served heard k) request look

same-either : (k mid : Known) → (mid ≡ k) ⊎ (mid ≡ k) → mid ≡ k
same-either k mid (inl is) = is
same-either k mid (inr is) = is

tried-still : (request : Request) → IsLook request → (k mid : Known) → IsTried request k mid → mid ≡ k
tried-still request look = by-look (λ (r : Request). (k mid : Known) → IsTried r k mid → mid ≡ k) (λ at k mid tried. same-either k mid tried) (λ id version k mid tried. same-either k mid tried) request look

look-may : (request : Request) → IsLook request → (k : Known) → MayRequest k request
look-may request look = by-look (λ (r : Request). (k : Known) → MayRequest k r) (λ at k. tt) (λ id version k. tt) request look

look-steady : (request : Request) → IsLook request → is_steady request ≡ true
look-steady request look = by-look (λ (r : Request). is_steady r ≡ true) (λ at. refl) (λ id version. refl) request look

asked-still : (request : Request) → IsLook request → (result : Result Reply AskFault) (k next : Known) → AskedBy request result k next → StillBy (told_stop result) k next
asked-still request look (Ok reply) k next asked = asked.next_is ∙ look-still request look asked.drive asked.size asked.served true k
asked-still request look (Err ask.Failed) k next (inl is) = is
asked-still request look (Err ask.Failed) k next (inr un) = un.next_is ∙ look-still request look un.drive un.size un.served false k
asked-still request look (Err (ask.Bad bytes)) k next never = never
asked-still request look (Err ask.Memory) k next (inl is) = is
asked-still request look (Err ask.Memory) k next (inr un) = un.1.next_is ∙ look-still request look un.1.drive un.1.size un.1.served un.0 k

still-then : (result : Result Reply PullStop) (k mid next : Known) → mid ≡ k → StillBy result mid next → StillBy result k next
still-then result k mid next is still = subst (λ (m : Known). StillBy result m next) is still

then-still : (request : Request) → IsLook request → (result : Result Reply AskFault) (k next : Known) → TriedThen request result k next → StillBy (told_stop result) k next
then-still request look result k next then = still-then (told_stop result) k then.mid next (tried-still request look k then.mid then.tried) (asked-still request look result then.mid next then.asked)

-- ---- and the events are quiet
sent-as : (request : Request) (result : Result Reply AskFault) (log : List Step) (sent : Sent) → DoesAsk request result log (Some sent) → IsWritten request → sent.request ≡ request
sent-as request (Ok reply) log sent does written = does.send.sent_as written
sent-as request (Err ask.Failed) log sent does written = does.send.sent_as written
sent-as request (Err (ask.Bad bytes)) log sent does written = does.send.sent_as written
sent-as request (Err ask.Memory) log sent does written = does.sent_as written

parts-still : (request : Request) → IsLook request → (result : Result Reply AskFault) (w : World) (k : Known) (part : List Event) (own : Option Event) → IsWritten request → AreUnheard request part
    → (sent : Option Sent) → own ≡ option_map sent_event sent → DoesAsk request result (now w part).drive sent → IsQuiet w k (part ++ own_events own)
parts-still request look result w k part own written unheard None is does =
    subst (λ (o : Option Event). IsQuiet w k (part ++ own_events o)) (sym is) (subst (IsQuiet w k) (sym (append-nil part)) (quiet-unheard request look written w k part unheard.such))
parts-still request look result w k part own written unheard (Some sent) is does =
    subst (λ (o : Option Event). IsQuiet w k (part ++ own_events o)) (sym is)
    (quiet-then w k k part (sent_event sent ∷ []) (quiet-unheard request look written w k part unheard.such) (quiet-look (now w part) k sent.size sent.request sent.served sent.heard (subst IsLook (sym (sent-as request result (now w part).drive sent does written)) look)))

pub still-of : (w : World) (k : Known) (more : List Event) → IsQuiet w k more → IsStill w k more
still-of w k more quiet = record { quiet = quiet; part = steps_in more; grown = drive-now w more }

reply-fact : (request : Request) → IsLook request → (reply : Reply) (w : World) (k : Known) (part : List Event) (own : Option Event) → IsWritten request → AreUnheard request part → DoesAsked request (Ok reply) (now w part) own
    → IsReplyTo request reply w k (part ++ own_events own)
reply-fact request look reply w k part own written unheard does = by does.sent does.own_is does.does
  where
    by : (sent : Option Sent) → own ≡ option_map sent_event sent → DoesAsk request (Ok reply) (now w part).drive sent → IsReplyTo request reply w k (part ++ own_events own)
    by None is asked = absurd asked
    by (Some sent) is asked =
        let one = asked.send.sent_as written in
        record {
          still = still-of w k (part ++ own_events own) (parts-still request look (Ok reply) w k part own written unheard (Some sent) is asked);
          before = steps_in part;
          after = steps_in (own_events own);
          size = sent.size;
          served = sent.served;
          reply_is = asked.reply_is
              ∙ ap (λ (r : Request). answer_served sent.served (state_of (now w part).drive) sent.size r) one
              ∙ ap (λ log. answer_served sent.served (state_of log) sent.size request) (drive-now w part);
          grown = ap (λ (v : World). v.drive) (now-append w part (own_events own)) ∙ drive-now (now w part) (own_events own) ∙ ap (λ log. log ++ steps_in (own_events own)) (drive-now w part);
        }

look-fact : (request : Request) → IsLook request → (result : Result Reply AskFault) (w : World) (k : Known) (part : List Event) (own : Option Event) → IsWritten request → AreUnheard request part → DoesAsked request result (now w part) own
    → IsReplyBy request (told_stop result) w k (part ++ own_events own)
look-fact request look (Ok reply) w k part own written unheard does = reply-fact request look reply w k part own written unheard does
look-fact request look (Err fault) w k part own written unheard does =
    still-of w k (part ++ own_events own) (parts-still request look (Err fault) w k part own written unheard does.sent does.own_is does.does)

-- ---- the causes
look-cause : (reads : Reading) (request : Request) (result : Result Reply AskFault) (before now : Counts) → AgainCause request result reads before now → StillCause (told_stop result) reads before now
look-cause reads request (Ok reply) before now cause = tt
look-cause reads request (Err ask.Failed) before now cause =
    let sends = eqb-true cause.sends 2 cause.all in
    let faults = cause.lost.faults in
    let row = cause.lost.in_row in
    let last = cause.cause.faults in
    let longer = cause.cause.in_row in
    record { faults = omega (arith, sends, faults, last); in_row = omega (arith, sends, row, longer) }
look-cause reads request (Err (ask.Bad bytes)) before now cause = record { request = request; before = cause.counts; came = cause.cause }
look-cause reads request (Err ask.Memory) before now cause = tt

-- ---- as a run
pub looked : {S : Type 0} {o : Seen S} {a b : S} (request : Request) → IsLook request → (result : Result Reply AskFault)
    → Calls o (AreUnheard request) (DoesAsked request result) (AgainCause request result) a b
    → Runs o (HasForm request) (StillBy (told_stop result)) (IsReplyBy request (told_stop result)) (StillCause (told_stop result)) a b
looked {S} {o} {a} {b} request look result calls =
    runs-by
    (runs-again {Before = HasForm request} {Fact = IsReplyBy request (told_stop result)} (look-steady request look) calls (λ w k known form. record { written = form; may = look-may request look k })
    (λ w k part own known form unheard does. look-fact request look result w k part own form unheard does)) (look-cause (o.reads a) request result (o.counts a) (o.counts b)) (λ k form. form)
    (λ w k more known legal form then fact. (then-still request look result k (learned w k more) then, fact))
