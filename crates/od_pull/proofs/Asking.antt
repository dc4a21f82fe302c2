-- One request for changes of a pull.
use Rattle.std.proofs.Common.{◌≡◌, ◌⊎◌, inl, inr, ℕ, ◌≤◌, Bool, true, false, List, [], ◌∷◌, ◌++◌, Option, Some, None, Result, Ok, Err, refl, ap, sym, subst, ◌∙◌, arith}
use Rattle.std.specs.Option.{option_map}
use Rattle.std.proofs.lemmas.List.{append-nil}
use Rattle.gd_item.specs.Answers.{answer_of, answer_served}
use Rattle.gd_item.specs.Steps.{state_of}
use Rattle.gd_item.specs.Written.{IsWritten}
use Rattle.gd_item.specs.declared.reply.Reply.{Reply}
use Rattle.gd_item.specs.declared.request.Request.{Request}
use Rattle.gd_item.specs.declared.request.Request.TheVariants.{Delta}
use Rattle.gd_item.specs.declared.step.Step.{Step}
use Rattle.gd_item.specs.declared.step.Step.TheVariants.{Ask}
use Rattle.gd_item.specs.declared.step.Who.TheVariants.{Own}
use Rattle.od_mirror.specs.Pulled.{Pulled}
use Rattle.od_outside.specs.Asks.{AreSpent, DoesServeBy, DoesServed, ServeCause, sent_event}
use Rattle.od_outside.specs.Calls.{Calls, own_events}
use Rattle.od_outside.specs.Learning.{IsTried, IsUnanswered, MayBeAsked, ServedThen, TriedThen, after_asking}
use Rattle.od_outside.specs.Running.{IsKnown, Runs}
use Rattle.od_outside.specs.Seeing.{Counts, Seen}
use Rattle.od_outside.proofs.Calling.{runs-served}
use Rattle.od_outside.proofs.Glue.{runs-by}
use Rattle.od_remote.specs.Again.{is_unserved}
use Rattle.od_remote.specs.Asking.{DoesAsk, Sent}
use Rattle.od_remote.specs.Counting.{Reading}
use Rattle.od_remote.specs.declared.again.ServeFault.{ServeFault}
use Rattle.od_remote.specs.declared.again.ServeFault.TheVariants as serve
use Rattle.od_run.specs.Good.{IsToken}
use Rattle.od_run.specs.Knowing.{Known, learned, pulled_by, token_after}
use Rattle.od_run.specs.Worlds.{World, Event, Asked, now, steps_in}
use Rattle.od_run.proofs.Legal.{learned-append, now-append}
use Rattle.od_pull.specs.Parts.{AsksNext, HasAnswer, IsAnswer, IsQuiet, StopFact, StoppedBy}
use Rattle.od_pull.specs.Pulls.{Keeps, PullCause, StopCause, is_to_send}
use Rattle.od_pull.specs.Stops.{serve_stop}
use Rattle.od_pull.proofs.Quiet.{drive-now, empties-quiet, or-nothing, quiet-spent, quiet-told}
use Rattle.od_pull.proofs.Written.{token-written}

ask-may : (token : Option (List ℕ)) (w : World) (k : Known) → IsKnown w k → AsksNext token k → MayBeAsked (Delta token) k
ask-may token w k known next = record { written = token-written token (subst IsToken next.asks known.good.feed.token); may = sym next.asks }

-- ---- a reply that counts is one of a drive that served
abbrev NotUnserved : Result Reply ServeFault → Type 0
NotUnserved (Ok reply) = is_unserved reply ≡ false
NotUnserved (Err fault) = Unit {0}

not-unserved : (reads : Reading) (request : Request) (result : Result Reply ServeFault) (before now : Counts) → ServeCause request result reads before now → NotUnserved result
not-unserved reads request (Ok reply) before now cause = cause.1
not-unserved reads request (Err fault) before now cause = tt

reply-served : (served : Bool) (drive : List Step) (size : ℕ) (request : Request) (reply : Reply) → reply ≡ answer_served served (state_of drive) size request → is_unserved reply ≡ false → served ≡ true
reply-served true drive size request reply is counts = refl
reply-served false drive size request reply is counts = absurd (cc (subst (λ (r : Reply). is_unserved r ≡ false) is counts))

-- ---- what is known then
record IsSame (k next : Known) : Type 0 where
  pub here : next.here ≡ k.here
  pub image : next.image ≡ k.image

keeps-same : (k next : Known) → IsSame k next → Keeps k next
keeps-same k next same = record { here = same.here; image = inl same.image }

tried-same : (token : Option (List ℕ)) (k mid : Known) → IsTried (Delta token) k mid → IsSame k mid
tried-same token k mid (inl is) = record { here = ap (λ (m : Known). m.here) is; image = ap (λ (m : Known). m.image) is }
tried-same token k mid (inr is) = record { here = ap (λ (m : Known). m.here) is; image = ap (λ (m : Known). m.image) is }

tried-token : (token : Option (List ℕ)) (k mid : Known) → IsTried (Delta token) k mid → mid.feed.token ≡ k.feed.token
tried-token token k mid (inl is) = ap (λ (m : Known). m.feed.token) is
tried-token token k mid (inr is) = ap (λ (m : Known). m.feed.token) is

answered-after : (token : Option (List ℕ)) (reply : Reply) → is_unserved reply ≡ false → (k next : Known) → AsksNext token k → TriedThen (Delta token) (Ok reply) k next → HasAnswer token reply k next
answered-after token reply counts k next asks then =
    let asked = then.asked in
    let served = reply-served asked.served asked.drive asked.size (Delta token) reply asked.reply_is counts in
    let is : next ≡ after_asking asked.drive asked.size (Delta token) true true then.mid = asked.next_is ∙ ap (λ s. after_asking asked.drive asked.size (Delta token) s true then.mid) served in
    let said : reply ≡ answer_of asked.drive asked.size (Delta token) = asked.reply_is ∙ ap (λ s. answer_served s (state_of asked.drive) asked.size (Delta token)) served in
    let same = tried-same token k then.mid then.tried in
    record {
      begun = ap (λ (n : Known). n.feed.begun) is;
      token_is = ap (λ (n : Known). n.feed.token) is
          ∙ ap (token_after then.mid.feed.token) (sym said)
          ∙ ap (λ t. token_after t reply) (tried-token token k then.mid then.tried ∙ asks.asks);
      there = ap (λ (n : Known). n.there) is;
      here = ap (λ (n : Known). n.here) is ∙ same.here;
      image = ap (λ (n : Known). n.image) is ∙ same.image;
    }

unanswered-same : (token : Option (List ℕ)) (heard : Bool) (mid next : Known) → IsUnanswered (Delta token) heard mid next → IsSame mid next
unanswered-same token heard mid next un = record { here = ap (λ (n : Known). n.here) un.next_is; image = ap (λ (n : Known). n.image) un.next_is }

same-then : (k mid next : Known) → IsSame k mid → IsSame mid next → IsSame k next
same-then k mid next first second = record { here = second.here ∙ first.here; image = second.image ∙ first.image }

abbrev ServeAfter : Option (List ℕ) → Result Reply ServeFault → Known → Known → Type 0
ServeAfter token (Ok reply) k next = HasAnswer token reply k next
ServeAfter token (Err serve.Failed) k next = IsSame k next
ServeAfter token (Err serve.Unserved) k next = IsSame k next
ServeAfter token (Err (serve.Bad bytes)) k next = ⊥
ServeAfter token (Err serve.Memory) k next = IsSame k next

serve-after : (token : Option (List ℕ)) (result : Result Reply ServeFault) → NotUnserved result → (k next : Known) → AsksNext token k → ServedThen (Delta token) result k next → ServeAfter token result k next
serve-after token (Ok reply) counts k next asks then = answered-after token reply counts k next asks then
serve-after token (Err serve.Failed) counts k next asks tried = tried-same token k next tried
serve-after token (Err serve.Unserved) counts k next asks tried = tried-same token k next tried
serve-after token (Err (serve.Bad bytes)) counts k next asks never = never
serve-after token (Err serve.Memory) counts k next asks then = by then.asked
  where
    first : IsSame k then.mid
    first = tried-same token k then.mid then.tried

    by : (next ≡ then.mid) ⊎ ((heard : Bool) × IsUnanswered (Delta token) heard then.mid next) → IsSame k next
    by (inl is) = subst (IsSame k) (sym is) first
    by (inr un) = same-then k then.mid next first (unanswered-same token un.0 then.mid next un.1)

-- ---- and of the events
abbrev ServeFact : Pulled → Result Reply ServeFault → World → Known → List Event → Type 0
ServeFact mirror (Ok reply) w k more = IsAnswer mirror reply w k more
ServeFact mirror (Err serve.Failed) w k more = IsQuiet w k more
ServeFact mirror (Err serve.Unserved) w k more = IsQuiet w k more
ServeFact mirror (Err (serve.Bad bytes)) w k more = Unit {0}
ServeFact mirror (Err serve.Memory) w k more = Unit {0}

answer-at : (mirror : Pulled) (reply : Reply) (w : World) (k : Known) (part : List Event) (size : ℕ) → 1 ≤ size → size ≤ 200 → IsQuiet w k part → reply ≡ answer_of (now w part).drive size (Delta mirror.token)
    → IsAnswer mirror reply w k (part ++ Asked size (Ask Own (Delta mirror.token) true true) ∷ [])
answer-at mirror reply w k part size least most quiet said =
    let last = Asked size (Ask Own (Delta mirror.token) true true) in
    record {
      before = steps_in part;
      drive = (now w part).drive;
      drive_is = drive-now w part;
      size = size;
      least = least;
      most = most;
      reply_is = said;
      grown = ap (λ (v : World). v.drive) (now-append w part (last ∷ []));
      pull = quiet.pull mirror;
      pulled = ap (λ (n : Known). n.feed.pulled) (learned-append w k part (last ∷ [])) ∙ ap (pulled_by (now w part).drive) (sym said);
      told = quiet-told w k part (last ∷ []) quiet ∙ or-nothing (is_to_send (answer_of (now w part).drive size (Delta mirror.token))) ∙ ap is_to_send (sym said);
    }

sent-is : (token : Option (List ℕ)) (sent : Sent) → sent.request ≡ Delta token → sent.served ≡ true → sent.heard ≡ true → sent_event sent ≡ Asked sent.size (Ask Own (Delta token) true true)
sent-is token sent request served heard =
    ap (λ (r : Request). Asked sent.size (Ask Own r sent.served sent.heard)) request
    ∙ ap (λ s. Asked sent.size (Ask Own (Delta token) s sent.heard)) served
    ∙ ap (λ h. Asked sent.size (Ask Own (Delta token) true h)) heard

answer-fact : (mirror : Pulled) (reply : Reply) → is_unserved reply ≡ false → (w : World) (k : Known) (part : List Event) (own : Option Event) (sent : Option Sent) → own ≡ option_map sent_event sent → IsWritten (Delta mirror.token)
    → IsQuiet w k part → DoesAsk (Delta mirror.token) (Ok reply) (now w part).drive sent → IsAnswer mirror reply w k (part ++ own_events own)
answer-fact mirror reply counts w k part own None is written quiet does = absurd does
answer-fact mirror reply counts w k part own (Some sent) is written quiet does =
    let request = does.send.sent_as written in
    let served = reply-served sent.served (now w part).drive sent.size sent.request reply does.reply_is counts in
    let said : reply ≡ answer_of (now w part).drive sent.size (Delta mirror.token) =
    does.reply_is
    ∙ ap (λ s. answer_served s (state_of (now w part).drive) sent.size sent.request) served
    ∙ ap (λ (r : Request). answer_served true (state_of (now w part).drive) sent.size r) request in
    subst (λ (o : Option Event). IsAnswer mirror reply w k (part ++ own_events o)) (sym (is ∙ ap (λ (e : Event). Some e) (sent-is mirror.token sent request served does.heard)))
    (answer-at mirror reply w k part sent.size does.send.least does.send.most quiet said)

none-quiet : (w : World) (k : Known) (part : List Event) (own : Option Event) → own ≡ None → IsQuiet w k part → IsQuiet w k (part ++ own_events own)
none-quiet w k part own is quiet = subst (λ (o : Option Event). IsQuiet w k (part ++ own_events o)) (sym is) (subst (IsQuiet w k) (sym (append-nil part)) quiet)

serve-fact : (mirror : Pulled) (result : Result Reply ServeFault) → NotUnserved result → (w : World) (k : Known) (part : List Event) (own : Option Event) → IsWritten (Delta mirror.token)
    → AreSpent (Delta mirror.token) result part → DoesServeBy (Delta mirror.token) result (now w part) own → ServeFact mirror result w k (part ++ own_events own)
serve-fact mirror (Ok reply) counts w k part own written spent does =
    answer-fact mirror reply counts w k part own does.sent does.own_is written (quiet-spent mirror.token written w k part spent.such) does.does
serve-fact mirror (Err serve.Failed) counts w k part own written spent does = none-quiet w k part own does (quiet-spent mirror.token written w k part spent.such)
serve-fact mirror (Err serve.Unserved) counts w k part own written spent does = none-quiet w k part own does (quiet-spent mirror.token written w k part spent.such)
serve-fact mirror (Err (serve.Bad bytes)) counts w k part own written spent does = tt
serve-fact mirror (Err serve.Memory) counts w k part own written spent does = tt

-- ---- as a run
served : {S : Type 0} {o : Seen S} {a b : S} (mirror : Pulled) (result : Result Reply ServeFault)
    → Calls o (AreSpent (Delta mirror.token) result) (DoesServed (Delta mirror.token) result) (ServeCause (Delta mirror.token) result) a b
    → Runs o (AsksNext mirror.token) (ServeAfter mirror.token result) (ServeFact mirror result) (ServeCause (Delta mirror.token) result) a b
served {S} {o} {a} {b} mirror result calls =
    let counts = not-unserved (o.reads a) (Delta mirror.token) result (o.counts a) (o.counts b) calls.cause in
    runs-by
    (runs-served {Before = AsksNext mirror.token} {Fact = ServeFact mirror result} refl calls (ask-may mirror.token)
    (λ w k part own known asks spent does. serve-fact mirror result counts w k part own (ask-may mirror.token w k known asks).written spent does.is)) (λ cause. cause) (λ k asks. asks)
    (λ w k more known legal asks then fact. (serve-after mirror.token result counts k (learned w k more) asks then, fact))

-- ---- a reply
reply-cause : (reads : Reading) (request : Request) (reply : Reply) (before now : Counts) → ServeCause request (Ok reply) reads before now → PullCause (Ok reply) reads before now
reply-cause reads request reply before now cause = let one = cause.0.spent.answers in let two = cause.0.cause.came.answers in omega (arith, one, two)

pub asked-reply : {S : Type 0} {o : Seen S} {a b : S} (mirror : Pulled) (reply : Reply)
    → Calls o (AreSpent (Delta mirror.token) (Ok reply)) (DoesServed (Delta mirror.token) (Ok reply)) (ServeCause (Delta mirror.token) (Ok reply)) a b
    → Runs o (AsksNext mirror.token) (HasAnswer mirror.token reply) (IsAnswer mirror reply) (PullCause (Ok reply)) a b
asked-reply {S} {o} {a} {b} mirror reply calls =
    runs-by (served mirror (Ok reply) calls) (reply-cause (o.reads a) (Delta mirror.token) reply (o.counts a) (o.counts b)) (λ k asks. asks) (λ w k more known legal asks after fact. (after, fact))

-- ---- none
stop-cause : (reads : Reading) (request : Request) (fault : ServeFault) (before now : Counts) → ServeCause request (Err fault) reads before now → StopCause (serve_stop fault) reads before now
stop-cause reads request serve.Failed before now cause = let row = cause.in_row refl in record { faults = cause.faults; in_row = omega (arith, row) }
stop-cause reads request serve.Unserved before now cause = record { replies = cause.replies; some = cause.some; few = cause.spent.within; answers = cause.spent.answers; faults = cause.spent.faults }
stop-cause reads request (serve.Bad bytes) before now cause = record { request = request; before = cause.counts; came = cause.cause }
stop-cause reads request serve.Memory before now cause = tt

stop-says : (mirror : Pulled) (fault : ServeFault) (w : World) (k : Known) (more : List Event) → ServeAfter mirror.token (Err fault) k (learned w k more) → ServeFact mirror (Err fault) w k more
    → StoppedBy (serve_stop fault) k (learned w k more) × StopFact mirror (serve_stop fault) w k more
stop-says mirror serve.Failed w k more same quiet = (keeps-same k (learned w k more) same, empties-quiet w k more same.image quiet.told)
stop-says mirror serve.Unserved w k more same quiet = (keeps-same k (learned w k more) same, empties-quiet w k more same.image quiet.told)
stop-says mirror (serve.Bad bytes) w k more never fact = absurd never
stop-says mirror serve.Memory w k more same fact = (keeps-same k (learned w k more) same, tt)

pub asked-stop : {S : Type 0} {o : Seen S} {a b : S} (mirror : Pulled) (fault : ServeFault)
    → Calls o (AreSpent (Delta mirror.token) (Err fault)) (DoesServed (Delta mirror.token) (Err fault)) (ServeCause (Delta mirror.token) (Err fault)) a b
    → Runs o (AsksNext mirror.token) (StoppedBy (serve_stop fault)) (StopFact mirror (serve_stop fault)) (StopCause (serve_stop fault)) a b
asked-stop {S} {o} {a} {b} mirror fault calls =
    runs-by (served mirror (Err fault) calls) (stop-cause (o.reads a) (Delta mirror.token) fault (o.counts a) (o.counts b)) (λ k asks. asks) (λ w k more known legal asks after fact. stop-says mirror fault w k more after fact)
