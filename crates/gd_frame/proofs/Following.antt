-- What may follow at a spot of a head, to the end of the head.
use Rattle.std.specs.Prelude.{◌≡◌, ℕ, zero, suc, ◌+◌, ◌≤◌, ◌⊎◌, List, [], ◌∷◌, ◌++◌, length, codes, All, IsUtf8}
use Rattle.std.specs.Char.{is_ascii_digit}
use Rattle.httparse.specs.Grammar.{is_token_byte, is_uri_byte, is_value_byte, AllPass, LineEnd, print_end, print_blank, Field, IsField, print_section}
use Rattle.gd_frame.specs.declared.message.Kind.{Kind}
use Rattle.gd_frame.specs.declared.message.Kind.TheVariants.{Request, Reply}
use Rattle.gd_frame.specs.declared.spot.Spot.{Spot}
use Rattle.gd_frame.specs.declared.spot.Spot.TheVariants as spot

abbrev pub IsSection : List ℕ → Type 0
IsSection t = (fields : List Field) × (last : LineEnd) × All IsField fields × (t ≡ print_section fields last)

-- a line ends, and fields follow
abbrev pub IsEnded : List ℕ → Type 0
IsEnded t = (end : LineEnd) × (r : List ℕ) × IsSection r × (t ≡ print_end end ++ r)

abbrev pub IsReturned : List ℕ → Type 0
IsReturned t = (r : List ℕ) × IsSection r × (t ≡ 10 ∷ r)

abbrev pub IsValued : List ℕ → Type 0
IsValued t = (raw : List ℕ) × (r : List ℕ) × AllPass is_value_byte raw × IsEnded r × (t ≡ raw ++ r)

abbrev pub IsNamed : List ℕ → Type 0
IsNamed t = (name : List ℕ) × (r : List ℕ) × AllPass is_token_byte name × IsValued r × (t ≡ name ++ 58 ∷ r)

abbrev pub IsReasoned : List ℕ → Type 0
IsReasoned t = IsEnded t ⊎ ((r : List ℕ) × IsValued r × (t ≡ 32 ∷ r))

-- so many digits, and what is behind them
abbrev pub IsCoded : ℕ → List ℕ → Type 0
IsCoded n t = (digits : List ℕ) × (r : List ℕ) × (length digits ≡ n) × AllPass is_ascii_digit digits × IsReasoned r × (t ≡ digits ++ r)

abbrev pub IsStatus : List ℕ → Type 0
IsStatus t = (r : List ℕ) × IsCoded 3 r × (t ≡ 32 ∷ r)

abbrev pub IsBehind : Kind → List ℕ → Type 0
IsBehind Request t = IsEnded t
IsBehind Reply t = IsStatus t

-- what is left of `HTTP/1.`, the digit, and what is behind it
abbrev pub IsVersion : Kind → List ℕ → List ℕ → Type 0
IsVersion kind left t = (minor : ℕ) × (r : List ℕ) × (minor ≤ 1) × IsBehind kind r × (t ≡ left ++ (48 + minor) ∷ r)

-- more of a target, of so many bytes at least
abbrev pub IsTargeted : Kind → ℕ → List ℕ → Type 0
IsTargeted kind least t = (u : List ℕ) × (r : List ℕ) × (least ≤ length u) × AllPass is_uri_byte u × IsUtf8 u × IsVersion kind (codes "HTTP/1.") r × (t ≡ u ++ 32 ∷ r)

-- so many later bytes of a character, and more of a target
abbrev pub IsContinued : Kind → ℕ → List ℕ → Type 0
IsContinued kind zero t = IsTargeted kind 0 t
IsContinued kind (suc n) t = (c : ℕ) × (r : List ℕ) × (128 ≤ c) × (c ≤ 191) × IsContinued kind n r × (t ≡ c ∷ r)

-- a second byte within these, so many more, and more of a target
abbrev pub IsLed : Kind → ℕ → ℕ → ℕ → List ℕ → Type 0
IsLed kind low high n t = (c : ℕ) × (r : List ℕ) × (low ≤ c) × (c ≤ high) × IsContinued kind n r × (t ≡ c ∷ r)

abbrev pub IsMethod : Kind → ℕ → List ℕ → Type 0
IsMethod kind least t = (m : List ℕ) × (r : List ℕ) × (least ≤ length m) × AllPass is_token_byte m × IsTargeted kind 1 r × (t ≡ m ++ 32 ∷ r)

abbrev pub IsFirst : Kind → List ℕ → Type 0
IsFirst Request t = IsMethod Request 1 t
IsFirst Reply t = IsVersion Reply (codes "HTTP/1.") t

abbrev pub IsBegun : Kind → List ℕ → Type 0
IsBegun kind t = (blank : List LineEnd) × (r : List ℕ) × IsFirst kind r × (t ≡ print_blank blank ++ r)

abbrev pub Follows : Kind → Spot → List ℕ → Type 0
Follows kind spot.Empty t = IsBegun kind t
Follows kind spot.EmptyReturn t = (r : List ℕ) × IsBegun kind r × (t ≡ 10 ∷ r)
Follows kind spot.Method t = IsMethod kind 0 t
Follows kind spot.TargetStart t = IsTargeted kind 1 t
Follows kind spot.Target t = IsTargeted kind 0 t
Follows kind spot.TargetOne t = IsLed kind 128 191 0 t
Follows kind spot.TargetTwo t = IsLed kind 128 191 1 t
Follows kind spot.TargetThree t = IsLed kind 128 191 2 t
Follows kind spot.TargetE0 t = IsLed kind 160 191 1 t
Follows kind spot.TargetEd t = IsLed kind 128 159 1 t
Follows kind spot.TargetF0 t = IsLed kind 144 191 2 t
Follows kind spot.TargetF4 t = IsLed kind 128 143 2 t
Follows kind spot.TargetBroken t = ⊥
Follows kind spot.Version0 t = IsVersion kind (codes "HTTP/1.") t
Follows kind spot.Version1 t = IsVersion kind (codes "TTP/1.") t
Follows kind spot.Version2 t = IsVersion kind (codes "TP/1.") t
Follows kind spot.Version3 t = IsVersion kind (codes "P/1.") t
Follows kind spot.Version4 t = IsVersion kind (codes "/1.") t
Follows kind spot.Version5 t = IsVersion kind (codes "1.") t
Follows kind spot.Version6 t = IsVersion kind (codes ".") t
Follows kind spot.Version7 t = IsVersion kind [] t
Follows kind spot.Status t = IsStatus t
Follows kind spot.Code0 t = IsCoded 3 t
Follows kind spot.Code1 t = IsCoded 2 t
Follows kind spot.Code2 t = IsCoded 1 t
Follows kind spot.Code3 t = IsReasoned t
Follows kind spot.LineEnd t = IsEnded t
Follows kind spot.Return t = IsReturned t
Follows kind spot.Line t = IsSection t
Follows kind spot.Name t = IsNamed t
Follows kind spot.Value t = IsValued t
Follows kind spot.EndReturn t = t ≡ 10 ∷ []
Follows kind spot.Unknown t = ⊥
