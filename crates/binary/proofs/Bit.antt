-- The digits of a number (`bit`): of sums, of powers of two, of numbers with a given top; numbers below 2 ^ m with equal digits are equal
-- (`same_bits`); the order of two numbers by the top bit of their sum (`lt_xor`). Assumes nothing.
use Rattle.std.proofs.Common.{◌≡◌, ℕ, zero, suc, ◌+◌, ◌*◌, ◌/◌, ◌%◌, ◌^◌, ◌<◌, ◌≤◌, max, ◌≢◌, sym, refl, ap, ◌∙◌, ap₂, mod-lt, one-mul, lt_of_not-le, zero-mul, div-one, arith, pow_pos, shr-shr, bit_or}
use Rattle.std.proofs.Math.Nat.{zero-div, div-eq_of_lt}
use Rattle.std.proofs.Math.Decide.{ℕ_discrete}
use Rattle.std.specs.Int.Bits.{or_step}
use Rattle.std.proofs.Math.Pow.{pow-lt, shr_mono}
use Rattle.binary.specs.Xor.{◌⊕◌, Degree}
use Rattle.binary.specs.Bit.{bit}
use Rattle.binary.proofs.Xor.{two_pos, by_digit, zero_xor, xor-zero, xor_self, xor_odd, xor_shr, xor_lt, digits-xor, equal_of_xor, top_one, has_degree, exp_lt}

pub bit_lt : (k a : ℕ) → bit k a < 2
unfolding bit
bit_lt k a = mod-lt (a / 2 ^ k) two_pos

pub bit_low : (a : ℕ) → bit 0 a ≡ a % 2
unfolding bit
bit_low a = rw div-one

pub bit_half : (k a : ℕ) → bit k (a / 2) ≡ bit (suc k) a
unfolding bit
bit_half k a = ap (λ (x : ℕ). x % 2) (shr-shr a 1 k ∙ ap (λ (x : ℕ). a / 2 ^ x) (omega arith))

pub bit-xor : (k a b : ℕ) → bit k (a ⊕ b) ≡ bit k a ⊕ bit k b
unfolding bit
bit-xor k a b = simp (xor_shr, xor_odd)

pub bit_or_lem : (k a b : ℕ) → bit k (bit_or a b) ≡ max (bit k a) (bit k b)
bit_or_lem zero a b =
    rw (bit_low, bit_low, bit_low)
    (let e = or_step a b in omega arith)
bit_or_lem (suc k) a b =
    rw (← bit_half, ← bit_half, ← bit_half)
    (let e = or_step a b in
    let h : bit_or a b / 2 ≡ bit_or (a / 2) (b / 2) = omega arith in
    rw h (bit_or_lem k (a / 2) (b / 2)))

pub bit-zero : (k : ℕ) → bit k 0 ≡ 0
unfolding bit
bit-zero k = simp zero-div

-- no bit above the top
pub bit_high : (k : ℕ) {a : ℕ} → a < 2 ^ k → bit k a ≡ 0
unfolding bit
bit_high k h = rw (div-eq_of_lt h)

pub bit-top : (k a : ℕ) → Degree k a → bit k a ≡ 1
unfolding bit
bit-top k a h = rw (top_one k a h)

pub degree_pow : (k : ℕ) → Degree k (2 ^ k)
degree_pow k = (omega arith, omega (arith, pow_pos k))

pub bit_pow : (k : ℕ) → bit k (2 ^ k) ≡ 1
bit_pow k = bit-top k (2 ^ k) (degree_pow k)

pub bit_pow_other : (j k : ℕ) → j ≢ k → bit j (2 ^ k) ≡ 0
bit_pow_other zero zero n = absurd (n refl)
bit_pow_other zero (suc k) n = bit_low (2 ^ suc k) ∙ omega arith
bit_pow_other (suc j) zero n = bit_high (suc j) (omega (arith, pow_pos j))
bit_pow_other (suc j) (suc k) n =
    let q : 2 ^ suc k / 2 ≡ 2 ^ k = omega arith in
    sym (bit_half j (2 ^ suc k)) ∙ rw q (bit_pow_other j k (λ e. n (ap suc e)))

-- a number with the top bit t, added where that bit is clear, adds one from there on
pub xor-top : (t b d : ℕ) → Degree t d → bit t b ≡ 0 → (b ⊕ d) / 2 ^ t ≡ b / 2 ^ t + 1
unfolding bit
xor-top t b d h z =
    xor_shr b d t ∙ ap₂ ◌⊕◌ (even (b / 2 ^ t) z) (top_one t d h) ∙ digits-xor (b / 2 ^ t / 2) 1 (omega arith)
    ∙ ap (λ (x : ℕ). x + 1) (sym (even (b / 2 ^ t) z))
  where
    even : (x : ℕ) → x % 2 ≡ 0 → x ≡ x / 2 * 2
    even x e = omega arith

-- so the sum is the larger
pub lt_xor : (t b d : ℕ) → Degree t d → bit t b ≡ 0 → b < b ⊕ d
lt_xor t b d h z = lt_of_not-le (λ (k : b ⊕ d ≤ b). omega (arith, xor-top t b d h z, shr_mono t k))

-- a digit times a power
pub digit-times_lt : (d k t : ℕ) → d < 2 → k < t → d * 2 ^ k < 2 ^ t
digit-times_lt d k t h l = by_digit (λ (d : ℕ). d * 2 ^ k < 2 ^ t) (omega (arith, pow_pos t)) (omega (arith, pow-lt l)) d h

pub digit-times-xor : (c d x : ℕ) → c < 2 → d < 2 → (c ⊕ d) * x ≡ c * x ⊕ d * x
digit-times-xor c d x h l =
    by_digit (λ (c : ℕ). (c ⊕ d) * x ≡ c * x ⊕ d * x) (simp (zero_xor, zero-mul))
    (by_digit (λ (d : ℕ). (1 ⊕ d) * x ≡ 1 * x ⊕ d * x) (simp (xor-zero, zero-mul)) (simp (xor_self, zero-mul)) d l) c h

pub bit-digit : (k d v : ℕ) → d < 2 → bit k (d * v) ≡ d * bit k v
bit-digit k d v = by_digit (λ (d : ℕ). bit k (d * v) ≡ d * bit k v) (simp (zero-mul, bit-zero)) (simp one-mul) d

-- numbers below 2 ^ m with equal bits are equal
pub same_bits : (m a b : ℕ) → a < 2 ^ m → b < 2 ^ m → ((i : ℕ) → i < m → bit i a ≡ bit i b) → a ≡ b
same_bits m a b ha hb h = go (ℕ_discrete (a ⊕ b) 0)
  where
    go : Dec (a ⊕ b ≡ 0) → a ≡ b
    go (yes e) = equal_of_xor a b e
    go (no n) =
        let d = has_degree (a ⊕ b) n in
        let l = exp_lt d.0 m (a ⊕ b) d.1.0 (xor_lt m ha hb) in
        let z : bit d.0 (a ⊕ b) ≡ 0 = bit-xor d.0 a b ∙ ap (λ (v : ℕ). v ⊕ bit d.0 b) (h d.0 l) ∙ xor_self (bit d.0 b) in
        let o = bit-top d.0 (a ⊕ b) d.1 in
        absurd (omega arith)
