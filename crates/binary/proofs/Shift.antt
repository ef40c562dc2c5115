-- A shift is the product with a power of x; a dividend without its top digit has the same remainder. Assumes nothing.
use Rattle.std.proofs.Common.{◌≡◌, ℕ, zero, suc, ◌+◌, ◌-◌, ◌*◌, ◌%◌, ◌^◌, ◌<◌, ◌≤◌, sym, ap, ◌∙◌, mul_assoc, pow-suc, mul-one, arith, shl_exact}
use Rattle.binary.specs.Xor.{◌⊕◌, Degree}
use Rattle.binary.proofs.Xor.{xor-zero, exp_lt, same-top}
use Rattle.binary.proofs.Bit.{degree_pow}
use Rattle.binary.specs.Times.{times}
use Rattle.binary.proofs.Times.{one_times, double_times, times_degree}
use Rattle.binary.specs.Remainder.{remainder}
use Rattle.binary.proofs.Remainder.{remainder_of_multiple, remainder_of_sum}

pub shift_is : (j b : ℕ) → times (2 ^ j) b ≡ b * 2 ^ j
shift_is zero b = one_times b ∙ sym (mul-one b)
shift_is (suc j) b =
    ap (λ (v : ℕ). times v b) (pow-suc 2 j) ∙ double_times (2 ^ j) b ∙ ap (λ (v : ℕ). v * 2) (shift_is j b)
    ∙ mul_assoc b (2 ^ j) 2 ∙ ap (λ (v : ℕ). b * v) (sym (pow-suc 2 j))

-- b of degree d, shifted to degree i
pub aligned : (d i b : ℕ) → Degree d b → d ≤ i → Degree i (b * 2 ^ (i - d))
aligned d i b db h =
    let e : (i - d) + d ≡ i = omega arith in
    rw (shift_is (i - d) b, e) at (times_degree (i - d) d (2 ^ (i - d)) b (degree_pow (i - d)) db)

-- with the top digit gone, the remainder is the same
pub lowered_mod : (d i a b : ℕ) → Degree d b → Degree i a → d ≤ i → remainder (a ⊕ b * 2 ^ (i - d)) b ≡ remainder a b
lowered_mod d i a b db da h =
    remainder_of_sum d b db a (b * 2 ^ (i - d))
    ∙ ap (λ (v : ℕ). remainder a b ⊕ v) (ap (λ (v : ℕ). remainder v b) (sym (shift_is (i - d) b)) ∙ remainder_of_multiple d b db (2 ^ (i - d)))
    ∙ xor-zero (remainder a b)

pub lowered_lt : (d i a b : ℕ) → Degree d b → Degree i a → d ≤ i → a ⊕ b * 2 ^ (i - d) < 2 ^ i
lowered_lt d i a b db da h = same-top i a (b * 2 ^ (i - d)) da (aligned d i b db h)

-- a shift by the machine's `<<` loses nothing
pub shift_exact : (d i b : ℕ) → Degree d b → d ≤ i → i < 32 → (b * 2 ^ (i - d)) % 2 ^ 32 ≡ b * 2 ^ (i - d)
shift_exact d i b db h l = shl_exact (suc d) (i - d) 32 db.1 (omega arith)

pub degree_le : (d i a b : ℕ) → Degree d b → Degree i a → 2 ^ d ≤ a → d ≤ i
degree_le d i a b db da h = let w = exp_lt d (suc i) a h da.1 in omega arith
