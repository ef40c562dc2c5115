-- The product of polynomials over GF(2): commutative, associative, distributive, with no condition on the numbers (A1); degrees add,
-- so no product of numbers that are not 0 is 0 (A2). Assumes nothing.
use Rattle.std.proofs.Common.{◌≡◌, ℕ, zero, suc, ◌+◌, ◌*◌, ◌/◌, ◌%◌, ◌^◌, ◌<◌, ◌≤◌, ◌≢◌, sym, refl, ap, ◌∙◌, ap₂, mod-lt, mul_assoc, suc-add, one-mul, mul-zero, zero-add, zero-mul, mul-one, le-add_left, arith, pow_pos, pow_mono}
use Rattle.std.proofs.Math.Decide.{ℕ_discrete}
use Rattle.std.proofs.Math.Arith.{bin_ind}
use Rattle.binary.specs.Xor.{◌⊕◌, Degree}
use Rattle.binary.proofs.Xor.{two_pos, by_digit, zero_xor, xor-zero, xor_comm, xor_assoc, xor_left_comm, xor_double, double_half, double_odd, digits-xor, digits_of, keep-top, has_degree, exp_lt, xor_lt}
use Rattle.binary.specs.Fold.{fold_f, fold}
use Rattle.binary.proofs.Fold.{fold_step}
use Rattle.binary.specs.Times.{times_step, times}

pub times-step : (a b : ℕ) → times a b ≡ a % 2 * b ⊕ times (a / 2) b * 2
unfolding times times_step
times-step a b = fold_step (times_step b) (simp (zero-mul, zero_xor)) a

pub zero-times : (b : ℕ) → times 0 b ≡ 0
unfolding times fold fold_f
zero-times b = refl

pub times_zero : (a : ℕ) → times a 0 ≡ 0
times_zero =
    bin_ind (λ (a : ℕ). times a 0 ≡ 0) (zero-times 0) (λ a ih. times-step a 0 ∙ simp (ih, mul-zero, zero_xor, zero-mul))

pub times_one : (a : ℕ) → times a 1 ≡ a
times_one =
    bin_ind (λ (a : ℕ). times a 1 ≡ a) (zero-times 1) (λ a ih. times-step a 1 ∙ simp (ih, mul-one) (xor_comm (a % 2) (a / 2 * 2) ∙ digits_of a))

pub one_times : (b : ℕ) → times 1 b ≡ b
one_times b = times-step 1 b ∙ simp (one-mul, zero-times, zero-mul, xor-zero)

-- a digit distributes
digit-xor : (d b c : ℕ) → d < 2 → d * (b ⊕ c) ≡ d * b ⊕ d * c
digit-xor d b c = by_digit (λ (d : ℕ). d * (b ⊕ c) ≡ d * b ⊕ d * c) (simp (zero-mul, zero_xor)) (simp one-mul) d

pub times-xor : (a b c : ℕ) → times a (b ⊕ c) ≡ times a b ⊕ times a c
times-xor =
    bin_ind (λ (a : ℕ). (b c : ℕ) → times a (b ⊕ c) ≡ times a b ⊕ times a c) (λ b c. simp (zero-times, zero_xor))
    (λ a ih b c. times-step a (b ⊕ c)
    ∙ (simp (ih, digit-xor (a % 2) b c (mod-lt a two_pos), ← xor_double, xor_assoc, xor_left_comm))
    ∙ sym (ap₂ ◌⊕◌ (times-step a b) (times-step a c)))

pub times_double : (a b : ℕ) → times a (b * 2) ≡ times a b * 2
times_double =
    bin_ind (λ (a : ℕ). (b : ℕ) → times a (b * 2) ≡ times a b * 2) (λ b. simp (zero-times, zero-mul))
    (λ a ih b. times-step a (b * 2) ∙ rw (ih b, ← mul_assoc (a % 2) b 2, xor_double, ← times-step a b))

pub double_times : (a b : ℕ) → times (a * 2) b ≡ times a b * 2
double_times a b = times-step (a * 2) b ∙ simp (double_odd, double_half, zero-mul, zero_xor)

digit-times : (b d : ℕ) → d < 2 → times b d ≡ d * b
digit-times b d = by_digit (λ (d : ℕ). times b d ≡ d * b) (simp (times_zero, zero-mul)) (simp (times_one, one-mul)) d

pub times_comm : (a b : ℕ) → times a b ≡ times b a
times_comm =
    bin_ind (λ (a : ℕ). (b : ℕ) → times a b ≡ times b a) (λ b. zero-times b ∙ sym (times_zero b))
    (λ a ih b. times-step a b
    ∙ (rw (← digit-times b (a % 2) (mod-lt a two_pos), ih b, ← times_double b (a / 2), ← times-xor))
    ∙ ap (times b) (xor_comm (a % 2) (a / 2 * 2) ∙ digits_of a))

pub xor-times : (a b c : ℕ) → times (a ⊕ b) c ≡ times a c ⊕ times b c
xor-times a b c = times_comm (a ⊕ b) c ∙ times-xor c a b ∙ ap₂ ◌⊕◌ (times_comm c a) (times_comm c b)

digit-scale : (d b c : ℕ) → d < 2 → times (d * b) c ≡ d * times b c
digit-scale d b c = by_digit (λ (d : ℕ). times (d * b) c ≡ d * times b c) (simp (zero-mul, zero-times)) (simp one-mul) d

pub times_assoc : (a b c : ℕ) → times (times a b) c ≡ times a (times b c)
times_assoc =
    bin_ind (λ (a : ℕ). (b c : ℕ) → times (times a b) c ≡ times a (times b c)) (λ b c. simp zero-times)
    (λ a ih b c. ap (λ (x : ℕ). times x c) (times-step a b)
    ∙ xor-times (a % 2 * b) (times (a / 2) b * 2) c
    ∙ (rw (digit-scale (a % 2) b c (mod-lt a two_pos), double_times, ih b c))
    ∙ sym (times-step a (times b c)))

pub digits-times : (q d p : ℕ) → d < 2 → times (q * 2 + d) p ≡ times q p * 2 ⊕ d * p
digits-times q d p h =
    ap (λ (x : ℕ). times x p) (sym (digits-xor q d h)) ∙ xor-times (q * 2) d p
    ∙ ap₂ ◌⊕◌ (double_times q p) (times_comm d p ∙ digit-times p d h)

-- ---- degrees add

digit_le : (d b : ℕ) → d < 2 → d * b ≤ b
digit_le d b = by_digit (λ (d : ℕ). d * b ≤ b) (omega arith) (omega arith) d

pub times_lt : (i j a b : ℕ) → a < 2 ^ i → b < 2 ^ suc j → times a b < 2 ^ (i + j)
times_lt zero j a b h l =
    let e : a ≡ 0 = omega arith in
    rw (e, zero-times, zero-add) (pow_pos j)
times_lt (suc i) j a b h l =
    rw (times-step, suc-add)
    (xor_lt (suc (i + j))
    (let p = digit_le (a % 2) b (mod-lt a two_pos) in let q = pow_mono (le-add_left j i) in omega arith)
    (let r = times_lt i j (a / 2) b (omega arith) l in omega arith))

pub times_ge : (i j a b : ℕ) → Degree i a → Degree j b → 2 ^ (i + j) ≤ times a b
times_ge zero j a b h l =
    let e : a ≡ 1 = omega arith in
    rw (e, one_times, zero-add) l.0
times_ge (suc i) j a b h l =
    rw (times-step, suc-add, xor_comm)
    (keep-top (suc (i + j)) (times (a / 2) b * 2) (a % 2 * b)
    (let r = times_ge i j (a / 2) b (omega arith, omega arith) l in omega arith)
    (let p = digit_le (a % 2) b (mod-lt a two_pos) in let q = pow_mono (le-add_left j i) in omega arith))

pub times_degree : (i j a b : ℕ) → Degree i a → Degree j b → Degree (i + j) (times a b)
times_degree i j a b h l = (times_ge i j a b h l, rw (← suc-add i j) (times_lt (suc i) j a b h.1 l.1))

pub times_ne_zero : (a b : ℕ) → a ≢ 0 → b ≢ 0 → times a b ≢ 0
times_ne_zero a b h l e =
    let d = has_degree a h in
    let c = has_degree b l in
    omega (arith, times_ge d.0 c.0 a b d.1 c.1, pow_pos (d.0 + c.0))

-- where the product with u is below 2 ^ suc k, and u is 2 or more, h is below 2 ^ k
pub factor_lt : (k h u : ℕ) → 2 ≤ u → times h u < 2 ^ suc k → h < 2 ^ k
factor_lt k h u l b = go (ℕ_discrete h 0)
  where
    nu : u ≢ 0
    nu e = omega arith

    du : (i : ℕ) × Degree i u
    du = has_degree u nu

    go : Dec (h ≡ 0) → h < 2 ^ k
    go (yes e) = rw e (pow_pos k)
    go (no n) =
        let i = (has_degree h n).0 in
        let dh = (has_degree h n).1 in
        let s = exp_lt (i + du.0) (suc k) (times h u) (times_ge i du.0 h u dh du.1) b in
        let t = exp_lt 1 (suc du.0) u l du.1.1 in
        let w : suc i ≤ k = omega arith in
        let f = pow_mono w in
        omega arith

-- a smaller second factor keeps the product's bound
pub times_lt_of_lt : (k h u v d : ℕ) → Degree d u → v < 2 ^ d → times h u < 2 ^ suc k → times h v < 2 ^ suc k
times_lt_of_lt k h u v d du l b = go (ℕ_discrete h 0) (ℕ_discrete v 0)
  where
    go : Dec (h ≡ 0) → Dec (v ≡ 0) → times h v < 2 ^ suc k
    go (yes e) z = rw (e, zero-times) (pow_pos (suc k))
    go (no n) (yes e) = rw (e, times_zero) (pow_pos (suc k))
    go (no n) (no nv) =
        let i = (has_degree h n).0 in
        let dh = (has_degree h n).1 in
        let s = exp_lt (i + d) (suc k) (times h u) (times_ge i d h u dh du) b in
        let j = (has_degree v nv).0 in
        let dv = (has_degree v nv).1 in
        let t = exp_lt j d v dv.0 l in
        let r = times_lt (suc i) j h v dh.1 dv.1 in
        let w : suc i + j ≤ suc k = omega arith in
        let f = pow_mono w in
        omega arith
