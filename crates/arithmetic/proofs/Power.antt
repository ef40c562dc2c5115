-- The power to an integer: what the code computes (`power-digit`, `power_plain`, `power_inverse`), and the law of sums over all integers,
-- `power-sum`. Assumes nothing.
use Rattle.std.proofs.Common.{◌≡◌, refl, sym, ap, ap₂, ◌∙◌, subst, true, false, ℕ, zero, suc, ◌+◌, ◌*◌, ◌/◌, ◌%◌, ◌^◌, ◌<◌, arith, T, ℤ, pos, negsuc, nat_abs, neg_ℤ, ◌+ℤ◌, ltb-true}
use lib.IntN.{suc_ℤ, pred_ℤ, suc-pred, suc_ℤ-+ℤ, pred_ℤ-+ℤ, +ℤ_idl, +ℤ_one, -ℤ_one, ℤ_ind}
use Rattle.std.specs.Int.Signed.{lt_z}
use Rattle.binary.specs.Product.{product}
use Rattle.binary.proofs.Product.{product_comm, product_assoc, product_one, one_product, product_lt}
use Rattle.binary.proofs.Inverse.{product_cancel}
use Rattle.galois.specs.Field.{Field}
use Rattle.galois.specs.Power.{power}
use Rattle.galois.proofs.Field.{one_lt}
use Rattle.galois.proofs.Power.{power_lt, power-add, power-mul, power_two}
use Rattle.arithmetic.proofs.Quotient.{quotient_is, quotient-product, quotient_lt}
use Rattle.arithmetic.specs.Quotient.{quotient_of}
use Rattle.arithmetic.specs.Power.{power_of}

module _ (m p : ℕ) (F : Field m p) where
  -- the lowest digit of the exponent taken off
  pub power-digit : (a n : ℕ) → a < 2 ^ m → power p a n ≡ product p (power p a (n % 2)) (power p (product p a a) (n / 2))
  power-digit a n h =
      let e : n ≡ n % 2 + 2 * (n / 2) = omega arith in
      ap (power p a) e ∙ power-add m p F a (n % 2) (2 * (n / 2))
      ∙ ap (product p (power p a (n % 2))) (power-mul m p F a 2 (n / 2) ∙ ap (λ (v : ℕ). power p v (n / 2)) (power_two m p F a h))

  pub power_plain : (a n : ℕ) (z : ℤ) → lt_z z (pos 0) ≡ false → n ≡ nat_abs z → power p a n ≡ power_of m p a z
  unfolding power_of
  power_plain a n (pos k) h e = ap (power p a) e
  power_plain a n (negsuc k) h e = absurd (subst T h tt)

  pub power_inverse : (a s n : ℕ) (z : ℤ) → 0 < a → a < 2 ^ m → product p a s ≡ 1 → s < 2 ^ m → lt_z z (pos 0) ≡ true → n ≡ nat_abs z
      → power p s n ≡ power_of m p a z
  unfolding power_of
  power_inverse a s n (pos k) na ha es hs h e = absurd (omega (arith, ltb-true k 0 h))
  power_inverse a s n (negsuc k) na ha es hs h e =
      ap₂ (power p) (quotient_is m p F 1 a s na ha hs (product_comm p s a ∙ es)) e

  pub power_of_lt : (a : ℕ) (k : ℤ) → power_of m p a k < 2 ^ m
  unfolding power_of
  power_of_lt a (pos n) = power_lt m p F a n
  power_of_lt a (negsuc n) = power_lt m p F (quotient_of m p 1 a) (suc n)

  module _ (a : ℕ) (n : 0 < a) (h : a < 2 ^ m) where
    inverse_of : product p a (quotient_of m p 1 a) ≡ 1
    inverse_of = product_comm p a (quotient_of m p 1 a) ∙ quotient-product m p F 1 a (one_lt m p F) n h

    -- one more factor, whatever the sign
    power_next : (k : ℤ) → power_of m p a (suc_ℤ k) ≡ product p a (power_of m p a k)
    unfolding power_of power
    power_next (pos k) = refl
    power_next (negsuc zero) =
        sym (ap (product p a) (product_one m p F.irr.degree (quotient_of m p 1 a) (quotient_lt m p F 1 a (one_lt m p F) n h)) ∙ inverse_of)
    power_next (negsuc (suc k)) =
        let i = quotient_of m p 1 a in
        sym (sym (product_assoc m p F.irr.degree a i (power p i (suc k))) ∙ ap (λ (x : ℕ). product p x (power p i (suc k))) inverse_of
        ∙ one_product m p F.irr.degree (power p i (suc k)) (power_lt m p F i (suc k)))

    -- and one less
    power_before : (k : ℤ) → product p a (power_of m p a (pred_ℤ k)) ≡ power_of m p a k
    power_before k = sym (power_next (pred_ℤ k)) ∙ ap (power_of m p a) (suc-pred k)

    up : (j k : ℤ) → power_of m p a (j +ℤ k) ≡ product p (power_of m p a j) (power_of m p a k)
        → power_of m p a (suc_ℤ j +ℤ k) ≡ product p (power_of m p a (suc_ℤ j)) (power_of m p a k)
    up j k e =
        ap (power_of m p a) (suc_ℤ-+ℤ j k) ∙ power_next (j +ℤ k) ∙ ap (product p a) e
        ∙ sym (product_assoc m p F.irr.degree a (power_of m p a j) (power_of m p a k)) ∙ ap (λ (x : ℕ). product p x (power_of m p a k)) (sym (power_next j))

    down : (j k : ℤ) → power_of m p a (j +ℤ k) ≡ product p (power_of m p a j) (power_of m p a k)
        → power_of m p a (pred_ℤ j +ℤ k) ≡ product p (power_of m p a (pred_ℤ j)) (power_of m p a k)
    down j k e =
        product_cancel m p F.irr a _ _ (λ z. omega arith) h (power_of_lt a (pred_ℤ j +ℤ k)) (product_lt m p F.irr.degree (power_of m p a (pred_ℤ j)) (power_of m p a k))
        (ap (λ (i : ℤ). product p a (power_of m p a i)) (pred_ℤ-+ℤ j k) ∙ power_before (j +ℤ k) ∙ e
        ∙ ap (λ (x : ℕ). product p x (power_of m p a k)) (sym (power_before j)) ∙ product_assoc m p F.irr.degree a (power_of m p a (pred_ℤ j)) (power_of m p a k))

    -- the law of sums, for all integers
    pub power-sum : (j k : ℤ) → power_of m p a (j +ℤ k) ≡ product p (power_of m p a j) (power_of m p a k)
    unfolding power_of power
    power-sum j k =
        ℤ_ind (λ (i : ℤ). power_of m p a (i +ℤ k) ≡ product p (power_of m p a i) (power_of m p a k))
        (ap (power_of m p a) (+ℤ_idl k) ∙ sym (one_product m p F.irr.degree (power_of m p a k) (power_of_lt a k)))
        (λ i e. subst (λ (v : ℤ). power_of m p a (v +ℤ k) ≡ product p (power_of m p a v) (power_of m p a k)) (sym (+ℤ_one (pos i))) (up (pos i) k e))
        (λ i e. subst (λ (v : ℤ). power_of m p a (v +ℤ k) ≡ product p (power_of m p a v) (power_of m p a k)) (sym (-ℤ_one (neg_ℤ (pos i)))) (down (neg_ℤ (pos i)) k e))
        j
