-- The bytes of a character before UTF-8 are UTF-8, at each of the four lengths.
use Rattle.std.proofs.Common.{◌≡◌, ℕ, ◌+◌, ◌-◌, ◌*◌, ◌/◌, ◌<◌, ◌≤◌, true, List, [], ◌∷◌, ◌++◌, IsUtf8, ap₂, subst, ◌∙◌, arith}
use Rattle.std.proofs.Math.Utf8.{encode, next, scalar, low_scalar}
use Rattle.std.proofs.lemmas.Bool.Decides.{nat_tests}
use Rattle.std.proofs.lemmas.Str.{IsUtf8-append, IsUtf8-encode, encode_ascii}

pub two : (c : ℕ) → 128 ≤ c → c < 2048 → encode c ≡ (192 + c / 64) ∷ next c ∷ []
unfolding encode
two c least most = grind (arith, nat_tests)

pub three : (c : ℕ) → 2048 ≤ c → c < 65536 → encode c ≡ (224 + c / 4096) ∷ next (c / 64) ∷ next c ∷ []
unfolding encode
three c least most = grind (arith, nat_tests)

pub four : (c : ℕ) → 65536 ≤ c → encode c ≡ (240 + c / 262144) ∷ next (c / 4096) ∷ next (c / 64) ∷ next c ∷ []
unfolding encode
four c least = grind (arith, nat_tests)

high_scalar : (c : ℕ) → 57344 ≤ c → c < 1114112 → scalar c ≡ true
high_scalar c least most = grind (arith, nat_tests)

before : (c : ℕ) (front text : List ℕ) → scalar c ≡ true → encode c ≡ front → IsUtf8 text → IsUtf8 (front ++ text)
before c front text is e u = IsUtf8-append front text (subst IsUtf8 e (IsUtf8-encode c is)) u

pub one_byte : (a : ℕ) (text : List ℕ) → a < 128 → IsUtf8 text → IsUtf8 (a ∷ text)
one_byte a text small u = before a (a ∷ []) text (low_scalar a (omega arith)) (encode_ascii a small) u

-- the character whose bytes these are
of_two : (c a b : ℕ) (text : List ℕ) → c + 12416 ≡ a * 64 + b → 194 ≤ a → a ≤ 223 → 128 ≤ b → b ≤ 191 → IsUtf8 text → IsUtf8 (a ∷ b ∷ text)
of_two c a b text is a_least a_most b_least b_most u =
    let first : 192 + c / 64 ≡ a = omega arith in
    let second : next c ≡ b = omega arith in
    before c (a ∷ b ∷ []) text (low_scalar c (omega arith)) (two c (omega arith) (omega arith) ∙ ap₂ (λ (x y : ℕ). x ∷ y ∷ []) first second) u

pub two_bytes : (a b : ℕ) (text : List ℕ) → 194 ≤ a → a ≤ 223 → 128 ≤ b → b ≤ 191 → IsUtf8 text → IsUtf8 (a ∷ b ∷ text)
two_bytes a b text a_least a_most b_least b_most u = of_two (a * 64 + b - 12416) a b text (omega arith) a_least a_most b_least b_most u

of_three : (c a b d : ℕ) (text : List ℕ) → c + 925824 ≡ a * 4096 + b * 64 + d → 224 ≤ a → a ≤ 239 → 128 ≤ b → b ≤ 191 → 128 ≤ d → d ≤ 191 → 2048 ≤ c → scalar c ≡ true → IsUtf8 text
    → IsUtf8 (a ∷ b ∷ d ∷ text)
of_three c a b d text is a_least a_most b_least b_most d_least d_most least scalar u =
    let first : 224 + c / 4096 ≡ a = omega arith in
    let second : next (c / 64) ≡ b = omega arith in
    let third : next c ≡ d = omega arith in
    before c (a ∷ b ∷ d ∷ []) text scalar
    (three c least (omega arith) ∙ ap₂ (λ (x : ℕ) (l : List ℕ). x ∷ l) first (ap₂ (λ (x y : ℕ). x ∷ y ∷ []) second third)) u

-- below the surrogates
pub three_low : (a b d : ℕ) (text : List ℕ) → 224 ≤ a → a ≤ 237 → 128 ≤ b → b ≤ 191 → 128 ≤ d → d ≤ 191 → 14496 ≤ a * 64 + b → a * 64 + b < 15328 → IsUtf8 text → IsUtf8 (a ∷ b ∷ d ∷ text)
three_low a b d text a_least a_most b_least b_most d_least d_most least most u =
    of_three (a * 4096 + b * 64 + d - 925824) a b d text (omega arith) a_least (omega arith) b_least b_most d_least d_most (omega arith) (low_scalar (a * 4096 + b * 64 + d - 925824) (omega arith)) u

-- and above them
pub three_high : (a b d : ℕ) (text : List ℕ) → 238 ≤ a → a ≤ 239 → 128 ≤ b → b ≤ 191 → 128 ≤ d → d ≤ 191 → IsUtf8 text → IsUtf8 (a ∷ b ∷ d ∷ text)
three_high a b d text a_least a_most b_least b_most d_least d_most u =
    of_three (a * 4096 + b * 64 + d - 925824) a b d text (omega arith) (omega arith) a_most b_least b_most d_least d_most (omega arith)
    (high_scalar (a * 4096 + b * 64 + d - 925824) (omega arith) (omega arith)) u

of_four : (c a b d e : ℕ) (text : List ℕ) → c + 63447168 ≡ a * 262144 + b * 4096 + d * 64 + e → 240 ≤ a → 128 ≤ b → b ≤ 191 → 128 ≤ d → d ≤ 191 → 128 ≤ e → e ≤ 191 → 65536 ≤ c → c < 1114112 → IsUtf8 text
    → IsUtf8 (a ∷ b ∷ d ∷ e ∷ text)
of_four c a b d e text is a_least b_least b_most d_least d_most e_least e_most least most u =
    let first : 240 + c / 262144 ≡ a = omega arith in
    let second : next (c / 4096) ≡ b = omega arith in
    let third : next (c / 64) ≡ d = omega arith in
    let fourth : next c ≡ e = omega arith in
    before c (a ∷ b ∷ d ∷ e ∷ []) text (high_scalar c (omega arith) most)
    (four c least ∙ ap₂ (λ (x : ℕ) (l : List ℕ). x ∷ l) first (ap₂ (λ (x : ℕ) (l : List ℕ). x ∷ l) second (ap₂ (λ (x y : ℕ). x ∷ y ∷ []) third fourth))) u

pub four_bytes : (a b d e : ℕ) (text : List ℕ) → 240 ≤ a → a ≤ 244 → 128 ≤ b → b ≤ 191 → 128 ≤ d → d ≤ 191 → 128 ≤ e → e ≤ 191 → 15504 ≤ a * 64 + b → a * 64 + b < 15760 → IsUtf8 text
    → IsUtf8 (a ∷ b ∷ d ∷ e ∷ text)
four_bytes a b d e text a_least a_most b_least b_most d_least d_most e_least e_most least most u =
    of_four (a * 262144 + b * 4096 + d * 64 + e - 63447168) a b d e text (omega arith) a_least b_least b_most d_least d_most e_least e_most (omega arith) (omega arith) u
