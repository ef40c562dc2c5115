-- The product of polynomials over GF(2), by the digits of the first factor: each digit 1 adds b, shifted to its place. Assumes nothing.
use Rattle.std.specs.Prelude.{ℕ, ◌*◌, ◌%◌}
use Rattle.binary.specs.Xor.{◌⊕◌}
use Rattle.binary.specs.Fold.{fold}

-- one digit of x more, where r is the product for the digits above
unfoldable pub times_step : ℕ → ℕ → ℕ → ℕ
times_step b x r = x % 2 * b ⊕ r * 2

unfoldable pub times : ℕ → ℕ → ℕ
times a b = fold (times_step b) a
