-- What a result is that was handed on.
use Rattle.std.proofs.Common.{◌≡◌, Result, Ok, Err, IsErr, IsErrAnd, ap}

pub fails : {Y E : Type 0} {r : Result Y E} {stop : E} → IsErr r × IsErrAnd r (λ e. e ≡ stop) → r ≡ Err stop
fails {Y} {E} {r = Ok y} {stop} is = absurd is.1
fails {Y} {E} {r = Err e} {stop} is = ap (λ (s : E). Err s) is.1
