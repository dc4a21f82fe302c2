-- Runs one after another, and from a call to a run.
use Rattle.std.proofs.Common.{◌≡◌, List, [], ◌∷◌, ◌++◌, Option, Some, None, refl, ap, sym, subst, ◌∙◌}
use Rattle.std.proofs.lemmas.List.{append-nil}
use Rattle.od_outside.specs.Calls.{AreOthers, Calls, own_events}
use Rattle.od_outside.specs.Running.{IsKnown, Ran, Runs}
use Rattle.od_outside.specs.Seeing.{AreLaws, Counts, NotFewer, Seen}
use Rattle.od_outside.proofs.Knowing.{known-run}
use Rattle.od_remote.specs.Counting.{AreSame, Reading}
use Rattle.od_run.specs.Acting.{LegalFrom, May}
use Rattle.od_run.specs.Knowing.{Known, learn, learned}
use Rattle.od_run.specs.Worlds.{World, Event, now}
use Rattle.od_run.proofs.Legal.{learned-append, legal-append, now-append, others-learn, others-legal}

-- nothing was done
pub runs-none : {S : Type 0} {o : Seen S} {Before : Known → Type 0} {After : Known → Known → Type 0} {Fact : World → Known → List Event → Type 0} {Cause : Reading → Counts → Counts → Type 0} {a : S}
    → AreLaws o → Cause (o.reads a) (o.counts a) (o.counts a) → ((k : Known) → Before k → After k k) → ((w : World) (k : Known) → Before k → Fact w k []) → Runs o Before After Fact Cause a a
runs-none {S} {o} {Before} {After} {Fact} {Cause} {a} laws cause after fact = record {
  goes_on = laws.goes_refl a;
  cause = cause;
  told = λ w k is known before. record { more = []; at = is; legal = tt; knows = after k before; fact = fact w k before };
}

-- the same, said of less
pub runs-so : {S : Type 0} {o : Seen S} {Before Before' : Known → Type 0} {After After' : Known → Known → Type 0} {Fact Fact' : World → Known → List Event → Type 0} {Cause Cause' : Reading → Counts → Counts → Type 0} {a b : S}
    → Runs o Before After Fact Cause a b → (Cause (o.reads a) (o.counts a) (o.counts b) → Cause' (o.reads a) (o.counts a) (o.counts b)) → ((k : Known) → Before' k → Before k)
    → ((k next : Known) → Before' k → After k next → After' k next) → ((w : World) (k : Known) (more : List Event) → Before' k → Fact w k more → Fact' w k more) → Runs o Before' After' Fact' Cause' a b
runs-so runs cause before after fact = record {
  goes_on = runs.goes_on;
  cause = cause runs.cause;
  told = λ w k is known here.
      let ran = runs.told w k is known (before k here) in
      record { more = ran.more; at = ran.at; legal = ran.legal; knows = after k (learned w k ran.more) here ran.knows; fact = fact w k ran.more here ran.fact };
}

-- the same, by all that is so
pub runs-by : {S : Type 0} {o : Seen S} {Before Before' : Known → Type 0} {After After' : Known → Known → Type 0} {Fact Fact' : World → Known → List Event → Type 0} {Cause Cause' : Reading → Counts → Counts → Type 0} {a b : S}
    → Runs o Before After Fact Cause a b → (Cause (o.reads a) (o.counts a) (o.counts b) → Cause' (o.reads a) (o.counts a) (o.counts b)) → ((k : Known) → Before' k → Before k)
    → ((w : World) (k : Known) (more : List Event) → IsKnown w k → LegalFrom w k more → Before' k → After k (learned w k more) → Fact w k more → After' k (learned w k more) × Fact' w k more)
    → Runs o Before' After' Fact' Cause' a b
runs-by runs cause before so = record {
  goes_on = runs.goes_on;
  cause = cause runs.cause;
  told = λ w k is known here.
      let ran = runs.told w k is known (before k here) in
      let both = so w k ran.more known ran.legal here ran.knows ran.fact in
      record { more = ran.more; at = ran.at; legal = ran.legal; knows = both.0; fact = both.1 };
}

-- one after another
pub runs-then : {S : Type 0} {o : Seen S} {B1 B2 : Known → Type 0} {A1 A2 A : Known → Known → Type 0} {F1 F2 F : World → Known → List Event → Type 0} {CauseOne CauseTwo C : Reading → Counts → Counts → Type 0} {a b c : S}
    → AreLaws o → Runs o B1 A1 F1 CauseOne a b → Runs o B2 A2 F2 CauseTwo b c
    → (AreSame (o.reads a) (o.reads b) → NotFewer (o.counts a) (o.counts b) → CauseOne (o.reads a) (o.counts a) (o.counts b) → CauseTwo (o.reads b) (o.counts b) (o.counts c) → C (o.reads a) (o.counts a) (o.counts c))
    → ((k mid : Known) → B1 k → A1 k mid → B2 mid) → ((k mid next : Known) → B1 k → A1 k mid → A2 mid next → A k next) → ((w : World) (k : Known) (xs ys : List Event) → B1 k → F1 w k xs → F2 (now w xs) (learned w k xs) ys → F w k (xs ++ ys))
    → Runs o B1 A F C a c
runs-then {S} {o} {B1} {B2} {A1} {A2} {A} {F1} {F2} {F} {CauseOne} {CauseTwo} {C} {a} {b} {c} laws first second cause before after fact = record {
  goes_on = laws.goes_trans a b c first.goes_on second.goes_on;
  cause = cause (laws.goes_reads a b first.goes_on) (laws.goes_later a b first.goes_on) first.cause second.cause;
  told = λ w k is known here.
      let one = first.told w k is known here in
      let two = second.told (now w one.more) (learned w k one.more) one.at (known-run w k one.more known one.legal) (before k (learned w k one.more) here one.knows) in
      record {
        more = one.more ++ two.more;
        at = two.at ∙ ap (λ (v : World). Some v) (sym (now-append w one.more two.more));
        legal = legal-append w k one.more two.more one.legal two.legal;
        knows =
            subst (λ (next : Known). A k next) (sym (learned-append w k one.more two.more))
            (after k (learned w k one.more) (learned (now w one.more) (learned w k one.more) two.more) here one.knows two.knows);
        fact = fact w k one.more two.more here one.fact two.fact;
      };
}

-- ---- a call
-- what is known after the first part of a call's events, from what was known before it
pub record Passes (w : World) (k : Known) (Mid : Known → Known → Type 0) (part : List Event) : Type 0 where
  pub legal : LegalFrom w k part
  pub knows : Mid k (learned w k part)

-- the call's own event may come then, and makes this known
pub record MayCome (w : World) (k mid : Known) (After : Known → Known → Type 0) (event : Event) : Type 0 where
  pub may : May mid event
  pub knows : After k (learn w mid event)

own-ran : (w : World) (k : Known) (Mid After : Known → Known → Type 0) (Fact : World → Known → List Event → Type 0) (Does : World → Option Event → Type 0) (after : Option World) (part : List Event) (own : Option Event)
    → after ≡ Some (now w (part ++ own_events own)) → Passes w k Mid part → Does (now w part) own
    → ((event : Event) → Does (now w part) (Some event) → MayCome (now w part) k (learned w k part) After event) → (Does (now w part) None → After k (learned w k part))
    → Fact w k (part ++ own_events own) → Ran w k After Fact after
own-ran w k Mid After Fact Does after part None at passes does may none fact = record {
  more = part ++ [];
  at = at;
  legal = subst (LegalFrom w k) (sym (append-nil part)) passes.legal;
  knows = subst (λ events. After k (learned w k events)) (sym (append-nil part)) (none does);
  fact = fact;
}
own-ran w k Mid After Fact Does after part (Some event) at passes does may none fact =
    let one = may event does in
    record {
      more = part ++ event ∷ [];
      at = at;
      legal = legal-append w k part (event ∷ []) passes.legal (one.may, tt);
      knows = subst (λ (next : Known). After k next) (sym (learned-append w k part (event ∷ []))) one.knows;
      fact = fact;
    }

-- where the first part is legal, and keeps what the own event asks
pub runs-call-by : {S : Type 0} {o : Seen S} {IsPart : List Event → Type 0} {Does : World → Option Event → Type 0} {Before : Known → Type 0} {After : Known → Known → Type 0} {Fact : World → Known → List Event → Type 0} {Cause : Reading → Counts → Counts → Type 0} {a b : S}
    (Mid : Known → Known → Type 0) → Calls o IsPart Does Cause a b
    → ((w : World) (k : Known) → IsKnown w k → Before k → (part : List Event) → IsPart part → Passes w k Mid part)
    → ((w : World) (k mid : Known) → IsKnown w mid → Before k → Mid k mid → (event : Event) → Does w (Some event) → MayCome w k mid After event)
    → ((w : World) (k mid : Known) → IsKnown w mid → Before k → Mid k mid → Does w None → After k mid)
    → ((w : World) (k : Known) (part : List Event) (own : Option Event) → IsKnown w k → Before k → IsPart part → Does (now w part) own → Fact w k (part ++ own_events own)) → Runs o Before After Fact Cause a b
runs-call-by {S} {o} {IsPart} {Does} {Before} {After} {Fact} {Cause} {a} {b} Mid calls passes may none fact = record {
  goes_on = calls.goes_on;
  cause = calls.cause;
  told = λ w k is known here.
      let did = calls.told w is in
      let pass = passes w k known here did.part did.is_part in
      let then = known-run w k did.part known pass.legal in
      own-ran w k Mid After Fact Does (o.world b) did.part did.own did.at pass did.does
      (may (now w did.part) k (learned w k did.part) then here pass.knows) (none (now w did.part) k (learned w k did.part) then here pass.knows)
      (fact w k did.part did.own known here did.is_part did.does);
}

-- where the first part is of others alone
pub record MayOne (w : World) (k : Known) (After : Known → Known → Type 0) (event : Event) : Type 0 where
  pub may : May k event
  pub knows : After k (learn w k event)

others-pass : (w : World) (k : Known) (part : List Event) → AreOthers part → Passes w k (λ k mid. mid ≡ k) part
others-pass w k part others = record { legal = others-legal w k part others; knows = others-learn w k part others }

one-come : (After : Known → Known → Type 0) (w : World) (k mid : Known) (event : Event) → mid ≡ k → MayOne w k After event → MayCome w k mid After event
one-come After w k mid event same one = record { may = subst (λ (known : Known). May known event) (sym same) one.may; knows = subst (λ (known : Known). After k (learn w known event)) (sym same) one.knows }

pub runs-call : {S : Type 0} {o : Seen S} {Does : World → Option Event → Type 0} {Before : Known → Type 0} {After : Known → Known → Type 0} {Fact : World → Known → List Event → Type 0} {Cause : Reading → Counts → Counts → Type 0} {a b : S}
    → Calls o AreOthers Does Cause a b → ((w : World) (k : Known) → IsKnown w k → Before k → (event : Event) → Does w (Some event) → MayOne w k After event)
    → ((w : World) (k : Known) → IsKnown w k → Before k → Does w None → After k k)
    → ((w : World) (k : Known) (part : List Event) (own : Option Event) → IsKnown w k → Before k → AreOthers part → Does (now w part) own → Fact w k (part ++ own_events own)) → Runs o Before After Fact Cause a b
runs-call {S} {o} {Does} {Before} {After} {Fact} {Cause} {a} {b} calls may none fact =
    runs-call-by (λ k mid. mid ≡ k) calls (λ w k known here part others. others-pass w k part others)
    (λ w k mid known here same event does. one-come After w k mid event same (may w k (subst (IsKnown w) same known) here event does))
    (λ w k mid known here same does. subst (λ (next : Known). After k next) (sym same) (none w k (subst (IsKnown w) same known) here does)) fact
