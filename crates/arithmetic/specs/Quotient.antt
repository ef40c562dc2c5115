-- "Quotient a/b is the one element q with q·b = a, for b not 0": the first that is found. Assumes nothing.
use Rattle.std.specs.Prelude.{ℕ, ◌^◌, eqb}
use Rattle.binary.specs.Product.{product}
use Rattle.algebra.specs.Search.{first}

unfoldable pub quotient_of : ℕ → ℕ → ℕ → ℕ → ℕ
quotient_of m p a b = first (λ q. eqb (product p q b) a) (2 ^ m)
