-- Reading with the first fault that is met.
use Rattle.std.specs.Prelude.{◌≡◌, Option, Some, None, Result, Ok, Err, ⊤}
use Rattle.gd_json.specs.declared.fault.JsonFault.{JsonFault}
use Rattle.gd_json.specs.declared.fault.JsonFault.TheVariants.{NotJson, Lacks, BadMember, Memory}

infixl 10 ◌>>=◌
abbrev pub ◌>>=◌ : {A B : Type 0} → Result A JsonFault → (A → Result B JsonFault) → Result B JsonFault
(Ok x) >>= f = f x
(Err e) >>= f = Err e

abbrev pub ok_or : {A : Type 0} → JsonFault → Option A → Result A JsonFault
ok_or e None = Err e
ok_or e (Some x) = Ok x

-- a fault other than want of memory is the one that reading gives
abbrev pub Fails : {Y : Type 0} → JsonFault → Result Y JsonFault → Type 0
Fails Memory read = ⊤
Fails NotJson read = read ≡ Err NotJson
Fails (Lacks m) read = read ≡ Err (Lacks m)
Fails (BadMember m) read = read ≡ Err (BadMember m)

-- what a function returned, seen by `view`, is what reading gives, unless memory ran out
abbrev pub Gives : {X Y : Type 0} → (X → Y) → Result X JsonFault → Result Y JsonFault → Type 0
Gives view (Ok x) read = read ≡ Ok (view x)
Gives view (Err e) read = Fails e read
