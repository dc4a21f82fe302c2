-- What comes of a fetch has the job's digest.
use Rattle.std.proofs.Common.{◌≡◌, ℕ, Bool, true, false, cond, List, Option, Some, None, Result, Ok, Err, refl, ap, sym, subst}
use Rattle.std.specs.Cmp.Lexicographic.{same_text}
use Rattle.gd_item.specs.Records.{digest_record}
use Rattle.gd_item.specs.declared.digest.Digest.{Digest}
use Rattle.gd_item.specs.declared.fault.ErrorCode.{ErrorCode}
use Rattle.od_transfer.specs.Fits.{HasDigest, is_digest, fetched, downloaded}
use Rattle.od_transfer.specs.declared.job.Outcome.{Outcome}
use Rattle.od_transfer.specs.declared.job.Outcome.TheVariants.{Fetched, Changed, Refused}

same_digest : (a b : Digest) → is_digest a b ≡ true → a ≡ b
same_digest a b same = ap (λ (bytes : List ℕ). record { 0 = bytes }) (same_text a.0 b.0 (sym same))

judged : (digest : Digest) (bytes : List ℕ) (same : Bool) → is_digest (digest_record bytes) digest ≡ same → HasDigest digest (cond same (Fetched bytes) Changed)
judged digest bytes true same = same_digest (digest_record bytes) digest same
judged digest bytes false same = tt

pub digest_of_reply : (digest : Digest) (content : Option (Result (List ℕ) ErrorCode)) (outcome : Outcome) → downloaded digest content ≡ Some outcome → HasDigest digest outcome
digest_of_reply digest None outcome is = absurd (cc is)
digest_of_reply digest (Some (Ok bytes)) outcome is =
    let same : fetched digest bytes ≡ outcome = cc is in
    subst (HasDigest digest) same (judged digest bytes (is_digest (digest_record bytes) digest) refl)
digest_of_reply digest (Some (Err code)) outcome is =
    let same : Refused code ≡ outcome = cc is in
    subst (HasDigest digest) same tt
