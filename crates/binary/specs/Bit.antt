-- "Bit i is the coefficient of x^i": one binary digit of a number. Assumes nothing.
use Rattle.std.specs.Prelude.{ℕ, ◌/◌, ◌%◌, ◌^◌}

-- the digit of a at the power 2 ^ k
unfoldable pub bit : ℕ → ℕ → ℕ
bit k a = a / 2 ^ k % 2
