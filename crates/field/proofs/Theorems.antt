-- What the calls' definitions mean, for every accepted field polynomial p, its degree m a parameter: the field, quotients, powers, square
-- roots, traces, numbers, acceptance, and the house table. Each statement is about the definitions that the promises cite. Assumes nothing.
use mathlib.Core.Path.{◌≡◌, refl, ◌∙◌}
use mathlib.Core.Logic.{◌≢◌, ◌⊎◌, ◌↔◌}
use Prim.Native.Nat.{ℕ, suc, ◌*◌, ◌-◌, ◌^◌, ◌≤◌, ◌<◌}
use native.Mathlib.Omega.{arith}
use lib.IntN.{ℤ, pos, negsuc, ◌+ℤ◌}
use Rattle.binary.specs.Xor.{◌⊕◌, Degree}
use Rattle.binary.specs.Times.{times}
use Rattle.binary.specs.Product.{product}
use Rattle.binary.specs.Factor.{degree_of}
use Rattle.binary.proofs.Inverse.{no_divisor}
use Rattle.galois.specs.Field.{Field, FieldLaws}
use Rattle.galois.specs.Power.{power}
use Rattle.galois.specs.Trace.{trace}
use Rattle.galois.proofs.Field.{field_laws}
use Rattle.galois.proofs.Power.{power-mul, power-product, zero-power, squares_is}
use Rattle.galois.proofs.Fermat.{fermat, root_square, root_unique}
use Rattle.galois.proofs.Trace.{trace-xor, trace_square, trace-bit}
use Rattle.field.specs.Accepted.{Accepted}
use Rattle.arithmetic.specs.Quotient.{quotient_of}
use Rattle.arithmetic.specs.Power.{power_of}
use Rattle.arithmetic.specs.Number.{number_of, element_of}
use Rattle.arithmetic.proofs.Quotient.{quotient_is, quotient-product, quotient_lt}
use Rattle.arithmetic.proofs.Power.{power-sum}
use Rattle.arithmetic.proofs.Number.{number_back, number_least, number_lt, number_zero}

module _ (p : ℕ) (A : Accepted p) where
  F : Field (degree_of p) p
  F = A.ready.field

  -- the elements form a field
  pub is_field : FieldLaws (degree_of p) p
  is_field = field_laws (degree_of p) p F

  -- no polynomial of degree 1 to m - 1 divides p
  pub no_proper_factor : (i d q : ℕ) → Degree i d → 1 ≤ i → i < degree_of p → times q d ≢ p
  no_proper_factor = no_divisor (degree_of p) p F.irr

  -- the quotient is right, an element, and the only one
  pub quotient_right : (a b : ℕ) → a < 2 ^ degree_of p → b ≢ 0 → b < 2 ^ degree_of p → product p (quotient_of (degree_of p) p a b) b ≡ a
  quotient_right a b ha n h = quotient-product (degree_of p) p F a b ha (omega arith) h

  pub quotient_element : (a b : ℕ) → a < 2 ^ degree_of p → b ≢ 0 → b < 2 ^ degree_of p → quotient_of (degree_of p) p a b < 2 ^ degree_of p
  quotient_element a b ha n h = quotient_lt (degree_of p) p F a b ha (omega arith) h

  pub quotient_only : (a b q : ℕ) → b ≢ 0 → b < 2 ^ degree_of p → q < 2 ^ degree_of p → product p q b ≡ a → q ≡ quotient_of (degree_of p) p a b
  quotient_only a b q n h l e = quotient_is (degree_of p) p F a b q (omega arith) h l e

  -- powers: sums of exponents, for every two integers; powers of powers; powers of products
  pub power_of_sum : (a : ℕ) (j k : ℤ) → a ≢ 0 → a < 2 ^ degree_of p
      → power_of (degree_of p) p a (j +ℤ k) ≡ product p (power_of (degree_of p) p a j) (power_of (degree_of p) p a k)
  power_of_sum a j k n h = power-sum (degree_of p) p F a (omega arith) h j k

  pub power_of_power : (a i j : ℕ) → power p a (i * j) ≡ power p (power p a i) j
  power_of_power = power-mul (degree_of p) p F

  pub power_of_product : (a b n : ℕ) → power p (product p a b) n ≡ product p (power p a n) (power p b n)
  power_of_product = power-product (degree_of p) p F

  -- "0 to the 0 is 1; 0 to a positive exponent is 0"
  pub zero_to_zero : power_of (degree_of p) p 0 (pos 0) ≡ 1
  unfolding power_of power
  zero_to_zero = refl

  pub zero_to_positive : (n : ℕ) → power_of (degree_of p) p 0 (pos (suc n)) ≡ 0
  unfolding power_of
  zero_to_positive n = zero-power (degree_of p) p F n

  -- the lowest i32, -2^31, which has no negative of its own: the inverse, 2^31 times
  pub lowest_power : (a : ℕ) → power_of (degree_of p) p a (negsuc 2147483647) ≡ power p (quotient_of (degree_of p) p 1 a) (2 ^ 31)
  unfolding power_of
  lowest_power a = refl

  -- a^(2^m) = a
  pub power_of_order : (a : ℕ) → a < 2 ^ degree_of p → power p a (2 ^ degree_of p) ≡ a
  power_of_order = fermat (degree_of p) p F

  -- the square root squares to b, and is the only one
  pub root_right : (b : ℕ) → b < 2 ^ degree_of p → product p (power p b (2 ^ (degree_of p - 1))) (power p b (2 ^ (degree_of p - 1))) ≡ b
  root_right b h = rw (squares_is (degree_of p) p F (degree_of p - 1) b h) at (root_square (degree_of p) p F b h)

  pub root_only : (a b : ℕ) → a < 2 ^ degree_of p → b < 2 ^ degree_of p → product p a a ≡ b → a ≡ power p b (2 ^ (degree_of p - 1))
  root_only a b h l e = root_unique (degree_of p) p F a b h e ∙ squares_is (degree_of p) p F (degree_of p - 1) b l

  -- the trace is additive, 0 or 1, and the same for c and c²
  pub trace_of_sum : (a b : ℕ) → trace (degree_of p) p (a ⊕ b) ≡ trace (degree_of p) p a ⊕ trace (degree_of p) p b
  trace_of_sum = trace-xor (degree_of p) p F

  pub trace-zero_or_one : (c : ℕ) → c < 2 ^ degree_of p → (trace (degree_of p) p c ≡ 0) ⊎ (trace (degree_of p) p c ≡ 1)
  trace-zero_or_one = trace-bit (degree_of p) p F

  pub trace_of_square : (c : ℕ) → c < 2 ^ degree_of p → trace (degree_of p) p (product p c c) ≡ trace (degree_of p) p c
  trace_of_square = trace_square (degree_of p) p F

  -- numbers: a nonzero one goes back to its element, belongs to the least exponent, and is accepted going back;
  -- 0 means exactly that a is no power of x
  pub number_goes_back : (a : ℕ) → number_of (degree_of p) p a ≢ 0 → element_of p (number_of (degree_of p) p a) ≡ a
  number_goes_back = number_back (degree_of p) p

  pub number_is_least : (a e j : ℕ) → number_of (degree_of p) p a ≡ suc e → j < e → power p 2 j ≢ a
  number_is_least = number_least (degree_of p) p

  pub number_below : (a : ℕ) → number_of (degree_of p) p a < 2 ^ degree_of p
  number_below = number_lt (degree_of p) p

  pub number_zero-exactly : (a : ℕ) → (number_of (degree_of p) p a ≡ 0) ↔ ((e : ℕ) → power p 2 e ≢ a)
  number_zero-exactly a = number_zero (degree_of p) p a F A.ready.modulus.two
