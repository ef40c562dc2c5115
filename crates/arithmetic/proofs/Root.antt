-- The square root by even and odd digits. A number a is E² + x·O² modulo p (`halves_modulo`); p itself is 0 there, so that x is the
-- square of E / O of p (`root_of_x`), and b that of E + O times the root of x (`root_by_halves`). Assumes nothing.
use Rattle.std.proofs.Common.{◌≡◌, sym, ap, ap₂, ◌∙◌, ℕ, suc, ◌+◌, ◌-◌, ◌*◌, ◌/◌, ◌^◌, ◌≤◌, ◌<◌, zero-mul, arith, pow_pos, pow_mono}
use Rattle.std.proofs.Math.Decide.{ℕ_discrete}
use Rattle.binary.specs.Xor.{◌⊕◌}
use Rattle.binary.proofs.Xor.{xor-zero, xor_lt, equal_of_xor}
use Rattle.binary.specs.Times.{times}
use Rattle.binary.proofs.Times.{zero-times, one_times, times_comm}
use Rattle.binary.proofs.Shift.{shift_is}
use Rattle.binary.specs.Remainder.{remainder}
use Rattle.binary.proofs.Remainder.{remainder_small, remainder_of_sum, remainder_of_product, remainder_of_multiple}
use Rattle.binary.specs.Product.{product}
use Rattle.binary.proofs.Product.{product_comm, product_lt}
use Rattle.binary.proofs.Inverse.{product_cancel}
use Rattle.galois.specs.Field.{Field}
use Rattle.galois.specs.Power.{power}
use Rattle.galois.proofs.Power.{zero-product, exchange, square_xor, square_zero, squares_is}
use Rattle.galois.proofs.Fermat.{root_unique}
use Rattle.arithmetic.specs.EvenDigits.{even_digits}
use Rattle.arithmetic.specs.Quotient.{quotient_of}
use Rattle.arithmetic.proofs.EvenDigits.{even_lt, squares_of_halves}
use Rattle.arithmetic.proofs.Quotient.{quotient-product}

-- n digits in each half are enough for p
module _ (n m p : ℕ) (F : Field m p) (two : 2 ≤ m) (fits : p < 2 ^ (n + n)) where
  halves_modulo : (a : ℕ) → a < 2 ^ (n + n)
      → product p (even_digits n a) (even_digits n a) ⊕ product p (product p (even_digits n (a / 2)) (even_digits n (a / 2))) 2 ≡ remainder a p
  unfolding product
  halves_modulo a h =
      let e = even_digits n a in
      let o = even_digits n (a / 2) in
      ap (λ (x : ℕ). remainder (times e e) p ⊕ x)
      (remainder_of_product m p F.irr.degree (times o o) 2 ∙ ap (λ (x : ℕ). remainder x p) (times_comm (times o o) 2 ∙ shift_is 1 (times o o)))
      ∙ sym (remainder_of_sum m p F.irr.degree (times e e) (times o o * 2))
      ∙ ap (λ (x : ℕ). remainder x p) (squares_of_halves n a h)

  -- both halves of p and of an element are elements
  pub half_lt : (a : ℕ) → a < 2 ^ suc m → even_digits n a < 2 ^ m
  half_lt a h = even_lt n m a (let l : suc m ≤ m + m = omega arith in let w = pow_mono l in omega arith)

  squares_of_p : product p (even_digits n p) (even_digits n p) ≡ product p (product p (even_digits n (p / 2)) (even_digits n (p / 2))) 2
  squares_of_p =
      equal_of_xor _ _ (halves_modulo p fits ∙ ap (λ (x : ℕ). remainder x p) (sym (one_times p)) ∙ remainder_of_multiple m p F.irr.degree 1)

  -- without an odd digit p were a square
  pub odd_pos : 0 < even_digits n (p / 2)
  odd_pos = go (ℕ_discrete (even_digits n (p / 2)) 0)
    where
      go : Dec (even_digits n (p / 2) ≡ 0) → 0 < even_digits n (p / 2)
      go (no f) = omega arith
      go (yes z) =
          let e : even_digits n p ≡ 0 = square_zero m p F (even_digits n p) (half_lt p F.irr.degree.1)
          (squares_of_p ∙ ap (λ (x : ℕ). product p (product p x x) 2) z ∙ ap (λ (x : ℕ). product p x 2) (zero-product p 0) ∙ zero-product p 2) in
          let q : p ≡ 0 = sym (squares_of_halves n p fits) ∙ ap₂ (λ (x y : ℕ). times x x ⊕ times y y * 2) e z ∙ (simp (zero-times, zero-mul, xor-zero)) in
          absurd (omega (arith, F.irr.degree.0, pow_pos m))

  root_of_x : (s : ℕ) → product p s (even_digits n (p / 2)) ≡ even_digits n p → product p s s ≡ 2
  root_of_x s h =
      let d = F.irr.degree in
      let o = even_digits n (p / 2) in
      let w = pow_mono two in
      product_cancel m p F.irr (product p o o) (product p s s) 2
      (λ z. let y = square_zero m p F o (half_lt (p / 2) (let t = d.1 in omega arith)) z in omega (arith, odd_pos)) (product_lt m p d o o) (product_lt m p d s s) (omega arith)
      (product_comm p (product p o o) (product p s s) ∙ sym (exchange m p F s o s o) ∙ ap₂ (product p) h h ∙ squares_of_p)

  pub root_by_halves : (b s : ℕ) → b < 2 ^ m → s ≡ quotient_of m p (even_digits n p) (even_digits n (p / 2))
      → even_digits n b ⊕ product p s (even_digits n (b / 2)) ≡ power p b (2 ^ (m - 1))
  root_by_halves b s h es =
      root_unique m p F r b (xor_lt m (half_lt b (omega arith)) (product_lt m p F.irr.degree s o))
      (square_xor m p F e (product p s o)
      ∙ ap (λ (x : ℕ). product p e e ⊕ x)
      (exchange m p F s o s o ∙ ap (λ (x : ℕ). product p x (product p o o)) (root_of_x s right) ∙ product_comm p 2 (product p o o))
      ∙ halves_modulo b (omega (arith, F.irr.degree.0)) ∙ remainder_small m p F.irr.degree b h)
      ∙ squares_is m p F (m - 1) b h
    where
      e : ℕ
      e = even_digits n b

      o : ℕ
      o = even_digits n (b / 2)

      r : ℕ
      r = e ⊕ product p s o

      right : product p s (even_digits n (p / 2)) ≡ even_digits n p
      right =
          ap (λ (q : ℕ). product p q (even_digits n (p / 2))) es
          ∙ quotient-product m p F (even_digits n p) (even_digits n (p / 2)) (half_lt p F.irr.degree.1) odd_pos (half_lt (p / 2) (let t = F.irr.degree.1 in omega arith))
