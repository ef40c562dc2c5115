-- Counting: 1 for equal numbers, sums over the numbers below n, how often a value is taken, how often a number stands in a list, the sum
-- of a list. Assumes nothing.
use Rattle.std.specs.Prelude.{List, [], ◌∷◌, ℕ, suc, zero, ◌+◌}
use Rattle.std.proofs.Math.Decide.{ℕ_discrete}

-- 1 if the numbers are equal
unfoldable pub same : ℕ → ℕ → ℕ
same a b = elim (ℕ_discrete a b) [ yes e ↦ 1 | no n ↦ 0 ]

-- h 0 + .. + h (n - 1)
unfoldable pub sum_below : (ℕ → ℕ) → ℕ → ℕ
sum_below h zero = 0
sum_below h (suc n) = sum_below h n + h n

-- the number of i < n with f i = y
unfoldable pub fibre : (ℕ → ℕ) → ℕ → ℕ → ℕ
fibre f n y = sum_below (λ i. same (f i) y) n

-- how often r stands in the list
unfoldable pub count : ℕ → List ℕ → ℕ
count r [] = 0
count r (a ∷ rs) = same a r + count r rs

-- the sum of a list
unfoldable pub sum_of : List ℕ → ℕ
sum_of [] = 0
sum_of (x ∷ xs) = x + sum_of xs
