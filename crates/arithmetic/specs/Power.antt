-- "Power takes any signed 32-bit exponent. A negative one is the power of the inverse". Assumes nothing.
use Rattle.std.specs.Prelude.{ℕ, suc, ℤ, pos, negsuc}
use Rattle.galois.specs.Power.{power}
use Rattle.arithmetic.specs.Quotient.{quotient_of}

unfoldable pub power_of : ℕ → ℕ → ℕ → ℤ → ℕ
power_of m p a (pos n) = power p a n
power_of m p a (negsuc n) = power p (quotient_of m p 1 a) (suc n)
