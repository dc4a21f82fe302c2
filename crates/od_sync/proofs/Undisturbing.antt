-- Requests for changes leave a drive as it is that no one else asks: a token that may be served once may be served again.
use Rattle.std.proofs.Common.{◌≡◌, ℕ, Bool, true, List, ◌++◌, Option, Some, None, refl, ap, sym, subst, ◌∙◌}
use Rattle.std.proofs.lemmas.List.{append_cancel_left}
use Rattle.gd_item.specs.Sessions.{State}
use Rattle.gd_item.specs.Steps.{state_of}
use Rattle.gd_item.specs.declared.request.Request.{Request}
use Rattle.gd_item.specs.declared.request.Request.TheVariants.{Delta}
use Rattle.gd_item.specs.declared.step.Step.{Step}
use Rattle.od_transfer.specs.Alone.{AreOwnServed}
use Rattle.od_transfer.specs.Undisturbed.{GrowsByOwn, Undisturbed, MayBeServed, is_servable}
use Rattle.od_transfer.proofs.Alone.{IsReading, is_reading, reading_keeps}
use Rattle.od_transfer.proofs.Logs.{such-also}
pub use Rattle.od_transfer.proofs.Undisturbing.{undisturbed_same as still-undisturbed, undisturbed_then as undisturbed-then}
use Rattle.od_sync.specs.Deltas.{IsSpent, Spent, is_delta}

-- sends without a page change nothing
delta-reads : (request : Request) → is_delta request ≡ true → is_reading request ≡ true
delta-reads (Delta token) is = is
delta-reads request is = absurd (cc is)

spent-reads : (request sent : Request) (served heard : Bool) → is_delta request ≡ true → IsSpent request sent served heard → IsReading sent served heard
spent-reads request sent served heard is spent = ap is_reading spent.0 ∙ delta-reads request is

spent-keeps : (request : Request) (sends replies : ℕ) (old : List Step) (after : Option (List Step)) → is_delta request ≡ true → (own : GrowsByOwn old after) → Spent request sends replies old after
    → state_of (old ++ own.part) ≡ state_of old
spent-keeps request sends replies old after is own s =
    let both : old ++ own.part ≡ old ++ s.part = cc (own.grown, s.grown) in
    let same : own.part ≡ s.part = append_cancel_left old own.part s.part both in
    ap (λ (part : List Step). state_of (old ++ part)) same
    ∙ reading_keeps old s.part (subst AreOwnServed same own.own) (such-also (IsSpent request) IsReading (λ sent served heard spent. spent-reads request sent served heard is spent) s.part s.such)

served-still : (request : Request) (sends replies : ℕ) (first second : Bool) (before after : Option (List Step)) → is_delta request ≡ true → first ≡ true → Undisturbed first second before after
    → ((old : List Step) → before ≡ Some old → Spent request sends replies old after) → MayBeServed request before → MayBeServed request after
served-still request sends replies first second None after is quiet undisturbed sent may = λ now told. absurd (cc (undisturbed.untold quiet refl, told))
served-still request sends replies first second (Some old) after is quiet undisturbed sent may =
    let own = undisturbed.alone quiet old refl in
    let kept : state_of (old ++ own.part) ≡ state_of old = spent-keeps request sends replies old after is own (sent old refl) in
    λ now told.
    let same : now ≡ old ++ own.part = cc (told, own.grown) in
    subst (λ (state : State). is_servable state request ≡ true) (sym (ap (λ (log : List Step). state_of log) same ∙ kept)) (may old refl)

-- one more send fails as little as those before it
pub no-faults-again : (request : Request) (sends replies : ℕ) (first second : Bool) (before middle : Option (List Step)) (faults_first faults_second faults_third : ℕ)
    → is_delta request ≡ true → Undisturbed first second before middle → ((old : List Step) → before ≡ Some old → Spent request sends replies old middle) → (first ≡ true → MayBeServed request before → faults_second ≡ faults_first)
    → (second ≡ true → MayBeServed request middle → faults_third ≡ faults_second) → first ≡ true → MayBeServed request before → faults_third ≡ faults_first
no-faults-again request sends replies first second before middle faults_first faults_second faults_third is undisturbed sent once again quiet may =
    again (undisturbed.stays quiet) (served-still request sends replies first second before middle is quiet undisturbed sent may) ∙ once quiet may
