-- The sum of polynomials over GF(2) (A1): a commutative group in which a + a = 0 (ruleset `ac`), digit by digit; and the top digit:
-- `has_degree`, `degree_unique`, `keep-top`, `same-top`. Assumes nothing.
use Rattle.std.proofs.Common.{◌≡◌, ℕ, zero, suc, ◌+◌, ◌*◌, ◌/◌, ◌%◌, ◌^◌, ◌<◌, ◌≤◌, ◌≢◌, sym, refl, ap, ◌∙◌, le_of_suc-le-suc, not-suc-le-zero, mod-lt, zero-lt-suc, div-lt_iff_lt-mul, one-mul, lt_of_not-le, le-div_iff_mul-le, arith, pow_pos, pow_mono, bit_xor}
use Rattle.std.proofs.Math.Nat.{div-eq_of_lt, div-eq_of_lt-le}
use Rattle.std.proofs.Math.Decide.{ℕ_discrete}
use Rattle.std.proofs.Math.Arith.{bin_ind}
use lib.Bits as bits
use Rattle.binary.specs.Xor.{◌⊕◌, Degree}

pub is_xor : (a b : ℕ) → a ⊕ b ≡ bit_xor a b
unfolding ◌⊕◌
is_xor a b = refl

pub two_pos : 0 < 2
two_pos = zero-lt-suc 1

-- a digit is 0 or 1
pub by_digit : (P : ℕ → Type 0) → P 0 → P 1 → (d : ℕ) → d < 2 → P d
by_digit P p q zero h = p
by_digit P p q (suc zero) h = q
by_digit P p q (suc (suc d)) h = absurd (not-suc-le-zero (le_of_suc-le-suc (le_of_suc-le-suc h)))

-- equal digits, equal numbers
pub same_digits : (a b : ℕ) → a / 2 ≡ b / 2 → a % 2 ≡ b % 2 → a ≡ b
same_digits a b p q = omega arith

pub zero_xor : (a : ℕ) → 0 ⊕ a ≡ a
unfolding ◌⊕◌
zero_xor a = refl

pub xor-zero : (a : ℕ) → a ⊕ 0 ≡ a
unfolding ◌⊕◌
xor-zero a = bits.xor_zero_r a

pub xor_comm : (a b : ℕ) → a ⊕ b ≡ b ⊕ a
unfolding ◌⊕◌
xor_comm a b = bits.xor_comm a b

pub xor_self : (a : ℕ) → a ⊕ a ≡ 0
unfolding ◌⊕◌
xor_self a = bits.xor_self a

pub xor_half : (a b : ℕ) → (a ⊕ b) / 2 ≡ a / 2 ⊕ b / 2
unfolding ◌⊕◌
xor_half a b = bits.xor_shr a b 1

pub xor_odd : (a b : ℕ) → (a ⊕ b) % 2 ≡ a % 2 ⊕ b % 2
unfolding ◌⊕◌
xor_odd a b = bits.xor_mod a b 1

pub xor_shr : (a b k : ℕ) → (a ⊕ b) / 2 ^ k ≡ a / 2 ^ k ⊕ b / 2 ^ k
unfolding ◌⊕◌
xor_shr a b k = bits.xor_shr a b k

pub xor_lt : (k : ℕ) {a b : ℕ} → a < 2 ^ k → b < 2 ^ k → a ⊕ b < 2 ^ k
unfolding ◌⊕◌
xor_lt k {a} {b} h l = bits.xor_lt k a b h l

assoc_digits : (a b c : ℕ) → a < 2 → b < 2 → c < 2 → (a ⊕ b) ⊕ c ≡ a ⊕ (b ⊕ c)
unfolding ◌⊕◌
assoc_digits a b c ha hb hc =
    by_digit (λ (a : ℕ). (a ⊕ b) ⊕ c ≡ a ⊕ (b ⊕ c)) refl
    (by_digit (λ (b : ℕ). (1 ⊕ b) ⊕ c ≡ 1 ⊕ (b ⊕ c)) refl
    (by_digit (λ (c : ℕ). (1 ⊕ 1) ⊕ c ≡ 1 ⊕ (1 ⊕ c)) refl refl c hc) b hb) a ha

pub xor_assoc : (a b c : ℕ) → (a ⊕ b) ⊕ c ≡ a ⊕ (b ⊕ c)
xor_assoc =
    bin_ind (λ (a : ℕ). (b c : ℕ) → (a ⊕ b) ⊕ c ≡ a ⊕ (b ⊕ c)) (λ b c. simp zero_xor)
    (λ a ih b c. same_digits _ _ (simp xor_half (ih (b / 2) (c / 2)))
    (simp xor_odd (assoc_digits (a % 2) (b % 2) (c % 2) (mod-lt a two_pos) (mod-lt b two_pos) (mod-lt c two_pos))))

pub xor_left_comm : (a b c : ℕ) → a ⊕ (b ⊕ c) ≡ b ⊕ (a ⊕ c)
xor_left_comm a b c = sym (xor_assoc a b c) ∙ ap (λ (x : ℕ). x ⊕ c) (xor_comm a b) ∙ xor_assoc b a c

-- what is added twice goes away
pub xor_twice : (a b : ℕ) → a ⊕ (a ⊕ b) ≡ b
xor_twice a b = sym (xor_assoc a a b) ∙ simp (xor_self, zero_xor)

pub ruleset ac = (xor_assoc, xor_comm, xor_left_comm, xor_self, xor_twice, zero_xor, xor-zero)

pub equal_of_xor : (a b : ℕ) → a ⊕ b ≡ 0 → a ≡ b
equal_of_xor a b e = sym (xor-zero a) ∙ ap (λ (x : ℕ). a ⊕ x) (sym e) ∙ xor_twice a b

-- the same sum, parted otherwise
pub xor_part : (a b c d : ℕ) → a ⊕ b ≡ c ⊕ d → a ⊕ c ≡ b ⊕ d
xor_part a b c d e = sym (simp ac) ∙ ap (λ (x : ℕ). x ⊕ (b ⊕ c)) e ∙ (simp ac)

-- doubles
pub double_half : (a : ℕ) → a * 2 / 2 ≡ a
double_half a = omega arith

pub double_odd : (a : ℕ) → a * 2 % 2 ≡ 0
double_odd a = omega arith

pub xor_double : (a b : ℕ) → a * 2 ⊕ b * 2 ≡ (a ⊕ b) * 2
xor_double a b = same_digits _ _ (simp (xor_half, double_half)) (simp (xor_odd, double_odd, zero_xor))

-- a number is its half, doubled, and its digit
pub digits-xor : (a d : ℕ) → d < 2 → a * 2 ⊕ d ≡ a * 2 + d
unfolding ◌⊕◌
digits-xor a d h = bits.xor_shifted a 1 d h

pub digits_of : (a : ℕ) → a / 2 * 2 ⊕ a % 2 ≡ a
digits_of a = digits-xor (a / 2) (a % 2) (mod-lt a two_pos) ∙ omega arith

-- ---- the top digit

ge_of_div : (n d : ℕ) → 0 < d → 1 ≤ n / d → d ≤ n
ge_of_div n d h l = rw one-mul at ((le-div_iff_mul-le {k = d} {x = 1} {y = n} h).0 l)

lt_of_div : (n d : ℕ) → 0 < d → n / d < 1 → n < d
lt_of_div n d h l = rw one-mul at ((div-lt_iff_lt-mul {k = d} {x = n} {y = 1} h).0 l)

div_pos : (n d : ℕ) → 0 < d → d ≤ n → 1 ≤ n / d
div_pos n d h l = (le-div_iff_mul-le {k = d} {x = 1} {y = n} h).1 (rw one-mul l)

-- what is below leaves the top where it is
pub keep-top : (k a b : ℕ) → 2 ^ k ≤ a → b < 2 ^ k → 2 ^ k ≤ a ⊕ b
keep-top k a b h l =
    ge_of_div (a ⊕ b) (2 ^ k) (pow_pos k) (rw (xor_shr, div-eq_of_lt l, xor-zero) (div_pos a (2 ^ k) (pow_pos k) h))

pub top_one : (k a : ℕ) → Degree k a → a / 2 ^ k ≡ 1
top_one k a h = div-eq_of_lt-le (2 ^ k) (omega arith) (omega arith)

-- two tops cancel
pub same-top : (k a b : ℕ) → Degree k a → Degree k b → a ⊕ b < 2 ^ k
same-top k a b h l =
    lt_of_div (a ⊕ b) (2 ^ k) (pow_pos k) (rw (xor_shr, top_one k a h, top_one k b l, xor_self) (zero-lt-suc 0))

pub exp_lt : (i j a : ℕ) → 2 ^ i ≤ a → a < 2 ^ j → i < j
exp_lt i j a h l = lt_of_not-le (λ (k : j ≤ i). let m = pow_mono k in omega arith)

pub degree_unique : (i j a : ℕ) → Degree i a → Degree j a → i ≡ j
degree_unique i j a h l = let p = exp_lt i (suc j) a h.0 l.1 in let q = exp_lt j (suc i) a l.0 h.1 in omega arith

-- every number but 0 has a degree
pub has_degree : (a : ℕ) → a ≢ 0 → (k : ℕ) × Degree k a
has_degree =
    bin_ind (λ (a : ℕ). a ≢ 0 → (k : ℕ) × Degree k a) (λ n. absurd (n refl)) (λ a ih n. pick a ih (ℕ_discrete (a / 2) 0) n)
  where
    pick : (a : ℕ) → (a / 2 ≢ 0 → (k : ℕ) × Degree k (a / 2)) → Dec (a / 2 ≡ 0) → a ≢ 0 → (k : ℕ) × Degree k a
    pick a ih (yes e) n = (0, (omega arith, omega arith))
    pick a ih (no f) n = let r = ih f in (suc r.0, (omega arith, omega arith))

pub self_lt_power : (k : ℕ) → k < 2 ^ k
self_lt_power zero = zero-lt-suc 0
self_lt_power (suc k) = let w = self_lt_power k in omega arith
