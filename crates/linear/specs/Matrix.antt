-- A system given by its columns: one row for each power in the result. Assumes nothing.
use Rattle.std.specs.Prelude.{List, map, ℕ, zero, suc, ◌*◌, ◌^◌, get_or}
use Rattle.algebra.specs.Lists.{count_up}
use Rattle.binary.specs.Xor.{◌⊕◌}
use Rattle.binary.specs.Bit.{bit}
use Rattle.linear.specs.Limits.{places}

-- bit i of each of the n columns f 0 .. f (n - 1): bit j is of column j
unfoldable pub across : (ℕ → ℕ) → ℕ → ℕ → ℕ
across f i zero = 0
across f i (suc n) = across f i n ⊕ bit i (f n) * 2 ^ n

-- row i: bit i of the m columns, and bit i of the right-hand side c at bit m
unfoldable pub row_of : ℕ → (ℕ → ℕ) → ℕ → ℕ → ℕ
row_of m f c i = across f i m ⊕ bit i c * 2 ^ m

unfoldable pub rows_of : ℕ → (ℕ → ℕ) → ℕ → List ℕ
rows_of m f c = map (row_of m f c) (count_up 0 places)

-- the rows with one more column, at bit j
unfoldable pub with_column : ℕ → ℕ → List ℕ → List ℕ
with_column j column rows = map (λ i. get_or rows i 0 ⊕ bit i column * 2 ^ j) (count_up 0 places)
