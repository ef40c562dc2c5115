-- Division of p by d with both moved up to the top of a word of 32 digits: after each turn the rest stands one place higher.
-- Assumes nothing.
use Rattle.std.proofs.Common.{◌≡◌, ℕ, suc, ◌+◌, ◌-◌, ◌*◌, ◌/◌, ◌%◌, ◌^◌, ◌<◌, ◌≤◌, eqb, sym, refl, ap, ◌∙◌, ap₂, mul_assoc, lt_of_mul-lt-mul_right, one-mul, zero-mul, le_of_mul-le-mul_right, mul-div_cancel, arith, pow_pos, pow-add, shl_lt, shl_exact, eq-eqb, eqb-true}
use Rattle.std.proofs.Math.Nat.{zero-div}
use Rattle.std.proofs.Math.Decide.{dec_lt}
use Rattle.algebra.proofs.Search.{same_test}
use Rattle.binary.specs.Xor.{◌⊕◌, Degree}
use Rattle.binary.proofs.Xor.{xor-zero, exp_lt}
use Rattle.binary.proofs.Times.{times-xor}
use Rattle.binary.specs.Remainder.{remainder, divides}
use Rattle.binary.proofs.Remainder.{remainder_small}
use Rattle.binary.specs.Factor.{Division}
use Rattle.binary.specs.Block.{raise, turn}
use Rattle.binary.proofs.Shift.{shift_is, shift_exact, lowered_mod, lowered_lt}

-- rest is a value with p's remainder modulo d, s places up
pub record Aligned (p d rest s : ℕ) : Type 0 where
  pub value : ℕ
  pub is : rest ≡ value * 2 ^ s
  pub small : value < 2 ^ (32 - s)
  pub same : remainder value d ≡ remainder p d

-- the degree of a divisor
pub divisor_degree : {m a d k : ℕ} → Division m a d → Degree k d → (1 ≤ k) × (k ≤ m) × (m ≤ 30)
divisor_degree {m} {a} {d} {k} D h =
    let w = exp_lt k (suc m) a (omega (arith, D.most, h.0)) D.degree.1 in
    let v = exp_lt 1 (suc k) d D.two h.1 in
    (omega arith, omega arith, D.fits)

pub aligned_start : (m p d : ℕ) → Degree m p → m ≤ 31 → Aligned p d ((p * 2 ^ (31 - m)) % 2 ^ 32) (31 - m)
aligned_start m p d dp l =
    let e : suc m ≡ 32 - (31 - m) = omega arith in
    record { value = p; is = shift_exact m 31 p dp l (omega arith); small = rw (← e) dp.1; same = refl }

aligned_lt : (p d rest s : ℕ) → s ≤ 32 → Aligned p d rest s → rest < 2 ^ 32
aligned_lt p d rest s l A =
    let e : (32 - s) + s ≡ 32 = omega arith in
    rw A.is (rw e at (shl_lt {a = A.value} (32 - s) s A.small))

shift-xor : (a b s : ℕ) → a * 2 ^ s ⊕ b * 2 ^ s ≡ (a ⊕ b) * 2 ^ s
shift-xor a b s = sym (ap₂ ◌⊕◌ (shift_is s a) (shift_is s b)) ∙ sym (times-xor (2 ^ s) a b) ∙ shift_is s (a ⊕ b)

-- a value below 2 ^ (31 - s), s places up, and one more place
place : (v s : ℕ) → s ≤ 31 → v < 2 ^ (31 - s) → ((v * 2 ^ s) * 2) % 2 ^ 32 ≡ v * 2 ^ (s + 1)
place v s l h =
    let e : v * 2 ^ (s + 1) ≡ (v * 2 ^ s) * 2 = ap (λ (k : ℕ). v * k) (pow-add 2 s 1) ∙ sym (mul_assoc v (2 ^ s) 2) in
    ap (λ (x : ℕ). x % 2 ^ 32) (sym e) ∙ shl_exact (31 - s) (s + 1) 32 h (omega arith)

module _ (k p d rest s : ℕ) (dd : Degree k d) (l : s + k ≤ 31) (A : Aligned p d rest s) where
  split : 2 ^ 31 ≡ 2 ^ (31 - s) * 2 ^ s
  split = let e : (31 - s) + s ≡ 31 = omega arith in ap (λ (j : ℕ). 2 ^ j) (sym e) ∙ pow-add 2 (31 - s) s

  -- the divisor, s places down from the top
  lower : d * 2 ^ (31 - k) ≡ (d * 2 ^ ((31 - s) - k)) * 2 ^ s
  lower =
      let e : ((31 - s) - k) + s ≡ 31 - k = omega arith in
      ap (λ (j : ℕ). d * 2 ^ j) (sym e) ∙ ap (λ (x : ℕ). d * x) (pow-add 2 ((31 - s) - k) s) ∙ sym (mul_assoc d (2 ^ ((31 - s) - k)) (2 ^ s))

  next : (v : ℕ) → v < 2 ^ (31 - s) → remainder v d ≡ remainder p d → (w : ℕ) → w ≡ v * 2 ^ s → Aligned p d ((w * 2) % 2 ^ 32) (s + 1)
  next v h q w e =
      let f : 31 - s ≡ 32 - (s + 1) = omega arith in
      record { value = v; is = ap (λ (x : ℕ). (x * 2) % 2 ^ 32) e ∙ place v s (omega arith) h; small = rw (← f) h; same = q }

  pub aligned_turn : Aligned p d (turn (raise k d) rest) (s + 1)
  unfolding turn
  aligned_turn = go (dec_lt rest (2 ^ 31))
    where
      v : ℕ
      v = A.value

      D : ℕ
      D = raise k d

      fits : rest < 2 ^ 32
      fits = aligned_lt p d rest s (omega arith) A

      exact : D ≡ (d * 2 ^ ((31 - s) - k)) * 2 ^ s
      exact = shift_exact k 31 d dd (omega arith) (omega arith) ∙ lower

      go : Dec (rest < 2 ^ 31) → Aligned p d (((rest ⊕ rest / 2 ^ 31 * D) * 2) % 2 ^ 32) (s + 1)
      go (yes b) =
          let z : rest / 2 ^ 31 ≡ 0 = omega arith in
          let u : v * 2 ^ s < 2 ^ (31 - s) * 2 ^ s = omega (arith, A.is, split) in
          let y : rest / 2 ^ 31 * D ≡ 0 = ap (λ (x : ℕ). x * D) z ∙ zero-mul D in
          next v (lt_of_mul-lt-mul_right (2 ^ s) u) A.same (rest ⊕ rest / 2 ^ 31 * D) (ap (λ (x : ℕ). rest ⊕ x) y ∙ xor-zero rest ∙ A.is)
      go (no n) =
          let w = fits in
          let z : rest / 2 ^ 31 ≡ 1 = omega arith in
          let u : 2 ^ (31 - s) * 2 ^ s ≤ v * 2 ^ s = omega (arith, A.is, split) in
          let y : rest / 2 ^ 31 * D ≡ (d * 2 ^ ((31 - s) - k)) * 2 ^ s = ap (λ (x : ℕ). x * D) z ∙ one-mul D ∙ exact in
          let e : 32 - s ≡ suc (31 - s) = omega arith in
          let dv : Degree (31 - s) v = (le_of_mul-le-mul_right u (pow_pos s), rw e at A.small) in
          next (v ⊕ d * 2 ^ ((31 - s) - k)) (lowered_lt k (31 - s) v d dd dv (omega arith)) (lowered_mod k (31 - s) v d dd dv (omega arith) ∙ A.same)
          (rest ⊕ rest / 2 ^ 31 * D)
          (ap₂ ◌⊕◌ A.is y ∙ shift-xor v (d * 2 ^ ((31 - s) - k)) s)

-- at the end the value is the remainder
module _ (k p d rest s : ℕ) (dd : Degree k d) (l : k ≤ 32) (e : s ≡ 32 - k) (A : Aligned p d rest s) where
  value_is : A.value ≡ remainder p d
  value_is = let f : 32 - s ≡ k = omega arith in sym (remainder_small k d dd A.value (rw f at A.small)) ∙ A.same

  pub aligned_end : rest / 2 ^ (32 - k) ≡ remainder p d
  aligned_end =
      ap (λ (j : ℕ). rest / 2 ^ j) (sym e) ∙ ap (λ (x : ℕ). x / 2 ^ s) A.is ∙ mul-div_cancel A.value (pow_pos s) ∙ value_is

  -- and the rest is 0 where d divides
  pub aligned_zero : eqb rest 0 ≡ divides d p
  aligned_zero =
      same_test (eqb rest 0) (divides d p) (
        λ z. eq-eqb (remainder p d) 0 (sym aligned_end ∙ ap (λ (x : ℕ). x / 2 ^ (32 - k)) (eqb-true rest 0 z) ∙ zero-div (2 ^ (32 - k))),
        λ z. eq-eqb rest 0 (A.is ∙ ap (λ (x : ℕ). x * 2 ^ s) (value_is ∙ eqb-true (remainder p d) 0 z) ∙ zero-mul (2 ^ s)),
      )
