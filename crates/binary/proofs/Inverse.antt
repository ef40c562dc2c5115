-- Where p is irreducible: no divisor of degree 1 to m - 1 at all (`no_factor`, `no_divisor`), and every element but 0 has an inverse (A5), found by
-- dividing p again and again; so no zero divisors, and cancellation. Assumes nothing.
use Rattle.std.proofs.Common.{◌≡◌, ℕ, zero, suc, ◌+◌, ◌/◌, ◌^◌, ◌<◌, ◌≤◌, ◌≢◌, sym, ap, ◌∙◌, subst, not-suc-le-zero, arith, pow_pos, pow_mono}
use Rattle.std.proofs.Math.Decide.{ℕ_discrete, dec_le}
use Rattle.binary.specs.Xor.{◌⊕◌, Degree}
use Rattle.binary.proofs.Xor.{xor-zero, equal_of_xor, xor_self, has_degree, exp_lt, degree_unique, xor_lt}
use Rattle.binary.specs.Times.{times}
use Rattle.binary.proofs.Times.{zero-times, xor-times, times_comm, times_assoc, times_degree}
use Rattle.binary.specs.Remainder.{remainder, quotient}
use Rattle.binary.proofs.Remainder.{remainder_lt, division, remainder_of_multiple, remainder_of_sum, remainder_of_product}
use Rattle.binary.specs.Product.{product}
use Rattle.binary.specs.Factor.{Irreducible}
use Rattle.binary.proofs.Product.{product_comm, product-zero, product_one, product-xor, product_assoc}

abbrev pub Inverse : ℕ → ℕ → ℕ → Type 0
Inverse m p a = (s : ℕ) × (s < 2 ^ m) × (product p a s ≡ 1)

strong : (P : ℕ → Type 0) → ((n : ℕ) → ((k : ℕ) → k < n → P k) → P n) → (n : ℕ) → P n
strong P step n = step n (below n)
  where
    below : (n k : ℕ) → k < n → P k
    below zero k h = absurd (not-suc-le-zero h)
    below (suc n) k h = step k (λ j l. below n j (omega arith))

module _ (m p : ℕ) (I : Irreducible m p) where
  pub no_factor : (i a : ℕ) → Degree i a → 1 ≤ i → i < m → remainder p a ≢ 0
  no_factor i a di h l z = pick (dec_le i (m / 2))
    where
      q : ℕ
      q = quotient p a

      e : times q a ≡ p
      e = sym (xor-zero (times q a)) ∙ ap (λ (x : ℕ). times q a ⊕ x) (sym z) ∙ division i a di p

      n : q ≢ 0
      n f = let w : 0 ≡ p = sym (zero-times a) ∙ ap (λ (x : ℕ). times x a) (sym f) ∙ e in omega (arith, I.degree.0, pow_pos m)

      j : ℕ
      j = (has_degree q n).0

      dj : Degree j q
      dj = (has_degree q n).1

      s : j + i ≡ m
      s = degree_unique (j + i) m p (subst (λ (x : ℕ). Degree (j + i) x) e (times_degree j i q a dj di)) I.degree

      two_le : (k b : ℕ) → Degree k b → 1 ≤ k → 2 ≤ b
      two_le k b d g = let w = pow_mono g in omega arith

      small : (k b : ℕ) → Degree k b → k ≤ m / 2 → b < 2 ^ suc (m / 2)
      small k b d g = let w = pow_mono g in omega arith

      pick : Dec (i ≤ m / 2) → ⊥
      pick (yes g) = I.prime a (two_le i a di h) (small i a di g) z
      pick (no g) =
          I.prime q (two_le j q dj (omega (arith, s))) (small j q dj (omega (arith, s)))
          (ap (λ (x : ℕ). remainder x q) (sym e ∙ times_comm q a) ∙ remainder_of_multiple j q dj a)

  -- the same, said of products
  pub no_divisor : (i d q : ℕ) → Degree i d → 1 ≤ i → i < m → times q d ≢ p
  no_divisor i d q h l k e = no_factor i d h l k (ap (λ (x : ℕ). remainder x d) (sym e) ∙ remainder_of_multiple i d h q)

  -- an inverse of the remainder of p by a gives one of a
  from_remainder : (i a s : ℕ) → Degree i a → product p (remainder p a) s ≡ 1 → product p a (remainder (times (quotient p a) s) p) ≡ 1
  unfolding product
  from_remainder i a s di e =
      ap (λ (x : ℕ). remainder x p) (times_comm a (remainder (times q s) p))
      ∙ remainder_of_product m p I.degree (times q s) a
      ∙ ap (λ (x : ℕ). remainder x p) (times_assoc q s a ∙ ap (times q) (times_comm s a) ∙ sym (times_assoc q a s))
      ∙ equal_of_xor _ 1
      (ap (λ (x : ℕ). remainder (times (times q a) s) p ⊕ x) (sym e)
      ∙ sym (remainder_of_sum m p I.degree (times (times q a) s) (times (remainder p a) s))
      ∙ ap (λ (x : ℕ). remainder x p) (sym (xor-times (times q a) (remainder p a) s) ∙ ap (λ (x : ℕ). times x s) (division i a di p) ∙ times_comm p s)
      ∙ remainder_of_multiple m p I.degree s)
    where
      q : ℕ
      q = quotient p a

  inverse_step : (a : ℕ) → ((r : ℕ) → r < a → r ≢ 0 → r < 2 ^ m → Inverse m p r) → a ≢ 0 → a < 2 ^ m → Inverse m p a
  inverse_step a ih n h = first (ℕ_discrete a 1)
    where
      i : ℕ
      i = (has_degree a n).0

      di : Degree i a
      di = (has_degree a n).1

      last : a ≢ 1 → Dec (remainder p a ≡ 0) → Inverse m p a
      last f (yes z) = absurd (no_factor i a di (let w = exp_lt 1 (suc i) a (omega arith) di.1 in omega arith) (exp_lt i m a di.0 h) z)
      last f (no g) =
          let l = remainder_lt i a di p in
          let r = ih (remainder p a) (omega (arith, di)) g (omega (arith, di)) in
          (remainder (times (quotient p a) r.0) p, remainder_lt m p I.degree _, from_remainder i a r.0 di r.2)

      first : Dec (a ≡ 1) → Inverse m p a
      first (yes e) = (1, omega arith, rw e (product_one m p I.degree 1 (omega arith)))
      first (no f) = last f (ℕ_discrete (remainder p a) 0)

  pub inverse : (a : ℕ) → a ≢ 0 → a < 2 ^ m → Inverse m p a
  inverse = strong (λ (a : ℕ). a ≢ 0 → a < 2 ^ m → Inverse m p a) inverse_step

  -- no product of numbers that are not 0 is 0
  pub no_zero_divisors : (a b : ℕ) → a ≢ 0 → a < 2 ^ m → b < 2 ^ m → product p a b ≡ 0 → b ≡ 0
  no_zero_divisors a b n h l e =
      let s = inverse a n h in
      sym (product_one m p I.degree b l) ∙ product_comm p b 1 ∙ ap (λ (x : ℕ). product p x b) (sym s.2 ∙ product_comm p a s.0)
      ∙ product_assoc m p I.degree s.0 a b ∙ ap (product p s.0) e ∙ product-zero p s.0

  pub product_cancel : (a b c : ℕ) → a ≢ 0 → a < 2 ^ m → b < 2 ^ m → c < 2 ^ m → product p a b ≡ product p a c → b ≡ c
  product_cancel a b c n h hb hc e =
      equal_of_xor b c
      (no_zero_divisors a (b ⊕ c) n h (xor_lt m hb hc) (product-xor m p I.degree a b c ∙ ap (λ (x : ℕ). x ⊕ product p a c) e ∙ xor_self (product p a c)))
