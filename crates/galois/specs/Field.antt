-- The field GF(2^m): the numbers below 2^m with the sum of polynomials and the product modulo p. Assumes nothing.
use Rattle.std.specs.Prelude.{◌≡◌, ◌≢◌, ℕ, ◌^◌, ◌≤◌, ◌<◌}
use Rattle.binary.specs.Xor.{◌⊕◌}
use Rattle.binary.specs.Product.{product}
use Rattle.binary.specs.Factor.{Irreducible}

-- what every law of the field rests on: p is irreducible, of degree m, and m is not 0
pub record Field (m p : ℕ) : Type 0 where
  pub irr : Irreducible m p
  pub pos : 1 ≤ m

-- the laws of a field in which a + a = 0
pub record FieldLaws (m p : ℕ) : Type 0 where
  pub sum_lt : (a b : ℕ) → a < 2 ^ m → b < 2 ^ m → a ⊕ b < 2 ^ m
  pub sum_comm : (a b : ℕ) → a ⊕ b ≡ b ⊕ a
  pub sum_assoc : (a b c : ℕ) → (a ⊕ b) ⊕ c ≡ a ⊕ (b ⊕ c)
  pub sum-zero : (a : ℕ) → a ⊕ 0 ≡ a
  pub sum_self : (a : ℕ) → a ⊕ a ≡ 0
  pub product_lt : (a b : ℕ) → product p a b < 2 ^ m
  pub product_comm : (a b : ℕ) → product p a b ≡ product p b a
  pub product_assoc : (a b c : ℕ) → product p (product p a b) c ≡ product p a (product p b c)
  pub product_one : (a : ℕ) → a < 2 ^ m → product p a 1 ≡ a
  pub product-sum : (a b c : ℕ) → product p a (b ⊕ c) ≡ product p a b ⊕ product p a c
  pub one_element : 1 < 2 ^ m
  pub inverse : (a : ℕ) → a ≢ 0 → a < 2 ^ m → (s : ℕ) × (s < 2 ^ m) × (product p a s ≡ 1)
  pub no_zero_divisors : (a b : ℕ) → a ≢ 0 → a < 2 ^ m → b < 2 ^ m → product p a b ≡ 0 → b ≡ 0
