-- Calls that take no memory.
use Rattle.std.proofs.Common.{◌≡◌, Option, Some, None, Result, Ok, Err, refl, sym, ap, subst, inr}
use Rattle.gd_item.specs.declared.fault.StoreFault.{StoreFault}
use Rattle.gd_store.specs.Stands.{Answers, given_unless}

-- what is given, and why nothing is
pub given-ok : {T : Type 0} (refusal : Option StoreFault) (x value : T) → Ok x ≡ given_unless refusal value → (refusal ≡ None) × (x ≡ value)
given-ok None x value is = (refl, cc)
given-ok (Some fault) x value is = absurd cc

pub given-err : {T U : Type 0} (refusal : Option StoreFault) (fault : StoreFault) (value : T) (other : U) → Err fault ≡ given_unless refusal value → Err fault ≡ given_unless refusal other
given-err None fault value other is = absurd cc
given-err (Some first) fault value other is = let same : fault ≡ first = cc in ap (λ f. Err f) same

-- such a call answers
pub given-answers : {T : Type 0} (refusal : Option StoreFault) (value : T) (result : Result T StoreFault) → result ≡ given_unless refusal value → Answers refusal result (λ x. x ≡ value)
given-answers None value result is =
    let P : Result _ StoreFault → Type 0 = λ r. Answers None r (λ x. x ≡ value) in
    subst P (sym is) (record { ok = (refl, refl); err = tt })
given-answers (Some fault) value result is =
    let P : Result _ StoreFault → Type 0 = λ r. Answers (Some fault) r (λ x. x ≡ value) in
    subst P (sym is) (record { ok = tt; err = inr refl })
