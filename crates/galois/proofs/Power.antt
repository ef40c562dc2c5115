-- The power laws, and squaring: additive, multiplicative, injective; k squarings are the power 2 ^ k; x^j is the number 2 ^ j. Assumes nothing.
use mathlib.Core.Path.{◌≡◌, refl, sym, ap, ap₂, ◌∙◌}
use Prim.Native.Nat.{ℕ, zero, suc, ◌+◌, ◌*◌, ◌^◌, ◌<◌}
use native.Mathlib.Nat.{zero-add, suc-add, mul-suc, mul-zero, pow-suc}
use native.Mathlib.Omega.{arith}
use Rattle.binary.specs.Xor.{◌⊕◌}
use Rattle.binary.proofs.Xor.{equal_of_xor, xor_self, xor_lt, ac}
use lib.Pow.{pow-lt}
use Rattle.binary.specs.Product.{product, times_x, Modulus}
use Rattle.binary.proofs.Remainder.{remainder_small}
use Rattle.binary.proofs.Modulus.{product_two}
use Rattle.binary.proofs.Product.{product_comm, product-zero, product_lt, product_one, one_product, product-xor, xor-product, product_assoc}
use Rattle.binary.proofs.Inverse.{no_zero_divisors}
use Rattle.galois.specs.Field.{Field}
use Rattle.galois.proofs.Field.{one_lt}
use Rattle.galois.specs.Power.{power, squares}

pub zero-product : (p a : ℕ) → product p 0 a ≡ 0
zero-product p a = product_comm p 0 a ∙ product-zero p a

pub squares-shift : (p k a : ℕ) → squares p k (product p a a) ≡ squares p (suc k) a
unfolding squares
squares-shift p zero a = refl
squares-shift p (suc k) a = ap (λ (x : ℕ). product p x x) (squares-shift p k a)

pub squares-zero : (p k : ℕ) → squares p k 0 ≡ 0
unfolding squares
squares-zero p zero = refl
squares-zero p (suc k) = ap (λ (x : ℕ). product p x x) (squares-zero p k) ∙ product-zero p 0

-- x^j is the number 2^j
pub x_power : (m p : ℕ) → Modulus m p → (j : ℕ) → j < m → power p 2 j ≡ 2 ^ j
unfolding power times_x
x_power m p M zero h = refl
x_power m p M (suc j) h =
    ap (product p 2) (x_power m p M j (omega arith)) ∙ product_two p (2 ^ j)
    ∙ remainder_small m p M.degree (2 ^ j * 2) (let w = pow-lt h in omega arith) ∙ omega arith

module _ (m p : ℕ) (F : Field m p) where
  pub mul_lt : (a b : ℕ) → product p a b < 2 ^ m
  mul_lt a b = product_lt m p F.irr.degree a b

  pub mul_left : (a b c : ℕ) → product p a (product p b c) ≡ product p b (product p a c)
  mul_left a b c =
      sym (product_assoc m p F.irr.degree a b c) ∙ ap (λ (x : ℕ). product p x c) (product_comm p a b) ∙ product_assoc m p F.irr.degree b a c

  pub exchange : (a b c d : ℕ) → product p (product p a b) (product p c d) ≡ product p (product p a c) (product p b d)
  exchange a b c d =
      product_assoc m p F.irr.degree a b (product p c d) ∙ ap (product p a) (mul_left b c d) ∙ sym (product_assoc m p F.irr.degree a c (product p b d))

  pub power_lt : (a n : ℕ) → power p a n < 2 ^ m
  unfolding power
  power_lt a zero = one_lt m p F
  power_lt a (suc n) = mul_lt a (power p a n)

  pub power-add : (a i j : ℕ) → power p a (i + j) ≡ product p (power p a i) (power p a j)
  unfolding power
  power-add a zero j = ap (power p a) (zero-add j) ∙ sym (one_product m p F.irr.degree (power p a j) (power_lt a j))
  power-add a (suc i) j =
      ap (power p a) (suc-add i j) ∙ ap (product p a) (power-add a i j) ∙ sym (product_assoc m p F.irr.degree a (power p a i) (power p a j))

  pub power-product : (a b n : ℕ) → power p (product p a b) n ≡ product p (power p a n) (power p b n)
  unfolding power
  power-product a b zero = sym (product_one m p F.irr.degree 1 (one_lt m p F))
  power-product a b (suc n) = ap (product p (product p a b)) (power-product a b n) ∙ exchange a b (power p a n) (power p b n)

  pub power-mul : (a i j : ℕ) → power p a (i * j) ≡ power p (power p a i) j
  unfolding power
  power-mul a i zero = ap (power p a) (mul-zero i)
  power-mul a i (suc j) =
      ap (power p a) (mul-suc i j) ∙ power-add a (i * j) i ∙ ap (λ (x : ℕ). product p x (power p a i)) (power-mul a i j)
      ∙ product_comm p (power p (power p a i) j) (power p a i)

  pub power_one : (a : ℕ) → a < 2 ^ m → power p a 1 ≡ a
  unfolding power
  power_one a h = product_one m p F.irr.degree a h

  pub power_two : (a : ℕ) → a < 2 ^ m → power p a 2 ≡ product p a a
  unfolding power
  power_two a h = ap (product p a) (product_one m p F.irr.degree a h)

  pub zero-power : (n : ℕ) → power p 0 (suc n) ≡ 0
  unfolding power
  zero-power n = zero-product p (power p 0 n)

  pub one_power : (n : ℕ) → power p 1 n ≡ 1
  unfolding power
  one_power zero = refl
  one_power (suc n) = ap (product p 1) (one_power n) ∙ product_one m p F.irr.degree 1 (one_lt m p F)

  -- squaring is additive, multiplicative and injective
  pub square_xor : (a b : ℕ) → product p (a ⊕ b) (a ⊕ b) ≡ product p a a ⊕ product p b b
  square_xor a b =
      product-xor m p F.irr.degree (a ⊕ b) a b
      ∙ ap₂ ◌⊕◌ (xor-product m p F.irr.degree a b a ∙ ap (λ (x : ℕ). product p a a ⊕ x) (product_comm p b a)) (xor-product m p F.irr.degree a b b)
      ∙ (simp ac)

  pub square_zero : (a : ℕ) → a < 2 ^ m → product p a a ≡ 0 → a ≡ 0
  square_zero zero h e = refl
  square_zero (suc a) h e = no_zero_divisors m p F.irr (suc a) (suc a) (λ z. omega arith) h h e

  pub square_injective : (a b : ℕ) → a < 2 ^ m → b < 2 ^ m → product p a a ≡ product p b b → a ≡ b
  square_injective a b ha hb e =
      equal_of_xor a b (square_zero (a ⊕ b) (xor_lt m ha hb) (square_xor a b ∙ ap (λ (x : ℕ). x ⊕ product p b b) e ∙ xor_self (product p b b)))

  pub squares_lt : (k a : ℕ) → a < 2 ^ m → squares p k a < 2 ^ m
  unfolding squares
  squares_lt zero a h = h
  squares_lt (suc k) a h = mul_lt (squares p k a) (squares p k a)

  pub squares-xor : (k a b : ℕ) → squares p k (a ⊕ b) ≡ squares p k a ⊕ squares p k b
  unfolding squares
  squares-xor zero a b = refl
  squares-xor (suc k) a b = ap (λ (x : ℕ). product p x x) (squares-xor k a b) ∙ square_xor (squares p k a) (squares p k b)

  pub squares-product : (k a b : ℕ) → squares p k (product p a b) ≡ product p (squares p k a) (squares p k b)
  unfolding squares
  squares-product zero a b = refl
  squares-product (suc k) a b =
      ap (λ (x : ℕ). product p x x) (squares-product k a b) ∙ exchange (squares p k a) (squares p k b) (squares p k a) (squares p k b)

  pub squares_one : (k : ℕ) → squares p k 1 ≡ 1
  unfolding squares
  squares_one zero = refl
  squares_one (suc k) = ap (λ (x : ℕ). product p x x) (squares_one k) ∙ product_one m p F.irr.degree 1 (one_lt m p F)

  pub squares-power : (i a n : ℕ) → squares p i (power p a n) ≡ power p (squares p i a) n
  unfolding power
  squares-power i a zero = squares_one i
  squares-power i a (suc n) = squares-product i a (power p a n) ∙ ap (product p (squares p i a)) (squares-power i a n)

  pub power_square : (k a : ℕ) → power p a (2 ^ suc k) ≡ product p (power p a (2 ^ k)) (power p a (2 ^ k))
  power_square k a = ap (power p a) (pow-suc 2 k) ∙ power-mul a (2 ^ k) 2 ∙ power_two (power p a (2 ^ k)) (power_lt a (2 ^ k))

  pub squares_is : (k a : ℕ) → a < 2 ^ m → squares p k a ≡ power p a (2 ^ k)
  unfolding squares
  squares_is zero a h = sym (power_one a h)
  squares_is (suc k) a h = ap (λ (x : ℕ). product p x x) (squares_is k a h) ∙ sym (power_square k a)

  pub frobenius : (k a b : ℕ) → power p (a ⊕ b) (2 ^ k) ≡ power p a (2 ^ k) ⊕ power p b (2 ^ k)
  unfolding power
  frobenius zero a b = xor-product m p F.irr.degree a b 1
  frobenius (suc k) a b =
      power_square k (a ⊕ b) ∙ ap (λ (x : ℕ). product p x x) (frobenius k a b) ∙ square_xor (power p a (2 ^ k)) (power p b (2 ^ k))
      ∙ sym (ap₂ ◌⊕◌ (power_square k a) (power_square k b))
