-- Searching the numbers below n: the first that passes a test, whether one does, whether all do. Assumes nothing.
use Rattle.std.specs.Prelude.{Bool, true, false, ◌&&◌, ℕ, zero, suc, ltb}

-- the first of i, i + 1, .. that passes, n numbers tried; i + n where none does
unfoldable pub first_from : (ℕ → Bool) → ℕ → ℕ → ℕ
first_from f zero i = i
first_from f (suc n) i = elim (f i) [ true ↦ i | false ↦ first_from f n (suc i) ]

-- the first number below n that passes; n where none does
unfoldable pub first : (ℕ → Bool) → ℕ → ℕ
first f n = first_from f n 0

-- some number below n passes
unfoldable pub some_below : (ℕ → Bool) → ℕ → Bool
some_below f n = ltb (first f n) n

-- every number below n passes
unfoldable pub every_below : (ℕ → Bool) → ℕ → Bool
every_below f zero = true
every_below f (suc n) = f n && every_below f n
