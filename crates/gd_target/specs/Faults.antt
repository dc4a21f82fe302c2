-- Reading with the first fault that is met.
use Rattle.std.specs.Prelude.{◌≡◌, Option, Some, None, Result, Ok, Err, ⊤}
use Rattle.gd_target.specs.declared.fault.RequestFault.{RequestFault}
use Rattle.gd_target.specs.declared.fault.RequestFault.TheVariants.{NotFound, NotAllowed, Invalid, Memory}

infixl 10 ◌>>=◌
abbrev pub ◌>>=◌ : {A B : Type 0} → Result A RequestFault → (A → Result B RequestFault) → Result B RequestFault
(Ok x) >>= f = f x
(Err e) >>= f = Err e

abbrev pub ok_or : {A : Type 0} → RequestFault → Option A → Result A RequestFault
ok_or e None = Err e
ok_or e (Some x) = Ok x

-- a fault other than want of memory is the one that reading gives
abbrev pub Fails : {Y : Type 0} → RequestFault → Result Y RequestFault → Type 0
Fails Memory read = ⊤
Fails NotFound read = read ≡ Err NotFound
Fails NotAllowed read = read ≡ Err NotAllowed
Fails Invalid read = read ≡ Err Invalid

-- what a function returned, seen by `view`, is what reading gives, unless memory ran out
abbrev pub Gives : {X Y : Type 0} → (X → Y) → Result X RequestFault → Result Y RequestFault → Type 0
Gives view (Ok x) read = read ≡ Ok (view x)
Gives view (Err e) read = Fails e read
