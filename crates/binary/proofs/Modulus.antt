-- Multiplication by x modulo p as a shift, and one digit of a product taken off. Assumes nothing.
use Rattle.std.proofs.Common.{◌≡◌, ℕ, suc, ◌-◌, ◌*◌, ◌/◌, ◌%◌, ◌^◌, ◌<◌, ◌≤◌, sym, ap, ◌∙◌, mod-lt, one-mul, zero-mul, arith, pow_pos}
use Rattle.std.proofs.Math.Nat.{div-eq_of_lt}
use Rattle.std.proofs.Math.Decide.{dec_lt}
use Rattle.binary.specs.Xor.{◌⊕◌, Degree}
use Rattle.binary.proofs.Xor.{two_pos, by_digit, xor-zero, top_one, same-top, ac}
use Rattle.binary.specs.Times.{times}
use Rattle.binary.proofs.Times.{times-step, times_comm, times_double, one_times}
use Rattle.binary.specs.Remainder.{remainder}
use Rattle.binary.proofs.Remainder.{remainder_lt, remainder_small, remainder_of, remainder_of_sum, remainder_of_product}
use Rattle.binary.specs.Product.{product, times_x}
use Rattle.binary.proofs.Shift.{shift_is}

-- the product with the polynomial x is a shift
pub product_two : (p x : ℕ) → product p 2 x ≡ times_x p x
unfolding product times_x
product_two p x = ap (λ (v : ℕ). remainder v p) (shift_is 1 x)

digit_lt : (k d x : ℕ) → d < 2 → x < 2 ^ k → d * x < 2 ^ k
digit_lt k d x h l = by_digit (λ (d : ℕ). d * x < 2 ^ k) (rw zero-mul (pow_pos k)) (rw one-mul l) d h

module _ (m p : ℕ) (dp : Degree m p) where
  pub times_x_lt : (x : ℕ) → times_x p x < 2 ^ m
  unfolding times_x
  times_x_lt x = remainder_lt m p dp (x * 2)

  -- by a shift, and p where a digit goes out at the top
  pub times_x_is : (x : ℕ) → 1 ≤ m → x < 2 ^ m → x * 2 ⊕ x / 2 ^ (m - 1) * p ≡ times_x p x
  unfolding times_x
  times_x_is x g h = go (dec_lt x (2 ^ (m - 1)))
    where
      e : suc (m - 1) ≡ m
      e = omega arith

      power : 2 ^ m ≡ 2 ^ (m - 1) * 2
      power = ap (λ (k : ℕ). 2 ^ k) (sym e) ∙ omega arith

      go : Dec (x < 2 ^ (m - 1)) → x * 2 ⊕ x / 2 ^ (m - 1) * p ≡ remainder (x * 2) p
      go (yes l) = rw (div-eq_of_lt l, zero-mul, xor-zero) (sym (remainder_small m p dp (x * 2) (omega (arith, power))))
      go (no n) =
          rw (top_one (m - 1) x (omega arith, omega (arith, power)), one-mul)
          (sym (ap (λ (v : ℕ). remainder v p) (simp (one_times, ac))
          ∙ remainder_of m p dp 1 (x * 2 ⊕ p) (same-top m (x * 2) p (omega (arith, power), omega (arith, power)) dp)))

  -- a digit of the second factor taken off
  pub product-digit : (x y : ℕ) → x < 2 ^ m → product p x y ≡ y % 2 * x ⊕ product p (times_x p x) (y / 2)
  unfolding product times_x
  product-digit x y h =
      ap (λ (v : ℕ). remainder v p) (times_comm x y ∙ times-step y x)
      ∙ remainder_of_sum m p dp (y % 2 * x) (times (y / 2) x * 2)
      ∙ ap (λ (v : ℕ). v ⊕ remainder (times (y / 2) x * 2) p) (remainder_small m p dp (y % 2 * x) (digit_lt m (y % 2) x (mod-lt y two_pos) h))
      ∙ ap (λ (v : ℕ). y % 2 * x ⊕ v)
      (ap (λ (v : ℕ). remainder v p) (sym (times_double (y / 2) x) ∙ times_comm (y / 2) (x * 2)) ∙ sym (remainder_of_product m p dp (x * 2) (y / 2)))
