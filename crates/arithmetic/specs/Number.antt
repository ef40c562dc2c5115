-- Logarithm numbers: "the number of an element is e + 1, where e is the least exponent, from 0 on, with x^e equal to it. It is 0 for an
-- element that is no power of x, zero included". The polynomial x is the element 2. Assumes nothing.
use Rattle.std.specs.Prelude.{true, false, ℕ, zero, suc, ◌+◌, ◌-◌, ◌^◌, eqb, ltb}
use Rattle.galois.specs.Power.{power}
use Rattle.algebra.specs.Search.{first}

-- the number for the exponent e; 0 where the search among n exponents found none
unfoldable pub numbered : ℕ → ℕ → ℕ
numbered n e = elim (ltb e n) [ true ↦ e + 1 | false ↦ 0 ]

unfoldable pub number_of : ℕ → ℕ → ℕ → ℕ
number_of m p a = numbered (2 ^ m - 1) (first (λ e. eqb (power p 2 e) a) (2 ^ m - 1))

-- "number 0 gives element 0, N up to 2^m - 1 gives x^(N-1)"
unfoldable pub element_of : ℕ → ℕ → ℕ
element_of p zero = 0
element_of p (suc e) = power p 2 e
