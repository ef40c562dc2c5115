-- Division of polynomials over GF(2), digit by digit from the highest, as on paper. Assumes nothing.
use Rattle.std.specs.Prelude.{ℕ, ◌+◌, ◌*◌, ◌/◌, ◌%◌, max, Bool, ◌==◌}
use Rattle.binary.specs.Xor.{◌⊕◌}
use Rattle.binary.specs.Fold.{fold}

unfoldable pub top_step : ℕ → ℕ → ℕ
top_step x r = max (x % 2) (r * 2)

-- the highest power of x in a number, as a number
unfoldable pub top : ℕ → ℕ
top a = fold top_step a

-- p taken off s once, where s reaches p's top power H
unfoldable pub reduce : ℕ → ℕ → ℕ → ℕ
reduce H p s = s / H * p ⊕ s

-- one digit of x brought down to the rest r
unfoldable pub remainder_step : ℕ → ℕ → ℕ → ℕ → ℕ
remainder_step H p x r = reduce H p (r * 2 + x % 2)

-- the remainder by p, whose top power is H
unfoldable pub remainder_by : ℕ → ℕ → ℕ → ℕ
remainder_by H p a = fold (remainder_step H p) a

-- what is left of a when p is taken off as often as it goes
unfoldable pub remainder : ℕ → ℕ → ℕ
remainder a p = remainder_by (top p) p a

unfoldable pub quotient_step : ℕ → ℕ → ℕ → ℕ → ℕ
quotient_step H p x q = q * 2 + (remainder_by H p (x / 2) * 2 + x % 2) / H

-- how often: the other part of the same division
unfoldable pub quotient : ℕ → ℕ → ℕ
quotient a p = fold (quotient_step (top p) p) a

-- d divides p
abbrev pub divides : ℕ → ℕ → Bool
divides d p = remainder p d == 0
