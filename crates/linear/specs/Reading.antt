-- What is read off the rows when every column is done: pivot columns, base and directions. Assumes nothing.
use Rattle.std.specs.Prelude.{Bool, not, List, [], ℕ, zero, suc, ◌*◌, ◌^◌, eqb, length}
use Rattle.std.specs.Int.Bits.{bit_or}
use Rattle.algebra.specs.Search.{some_below}
use Rattle.binary.specs.Xor.{◌⊕◌}
use Rattle.binary.specs.Bit.{bit}
use Rattle.linear.specs.Elimination.{State, row, mark, candidate}
use Rattle.linear.specs.Directions.{in_front}

-- the pivot columns of those among the first n rows that hold column f
unfoldable pub column : State → ℕ → ℕ → ℕ
column s f zero = 0
column s f (suc n) = column s f n ⊕ bit f (row s n) * 2 ^ mark s n

-- an unused row holds the right-hand bit: it says 0 = 1
unfoldable pub broken : ℕ → State → Bool
broken m s = some_below (λ i. candidate m m (mark s i) (row s i)) (length s.rows)

-- the pivot columns of the first n rows, as bits
unfoldable pub pivot_columns : State → ℕ → ℕ
pivot_columns s zero = 0
pivot_columns s (suc n) = bit_or (pivot_columns s n) (2 ^ mark s n)

-- column t is the pivot of a row
unfoldable pub taken : State → ℕ → Bool
taken s t = some_below (λ i. eqb (mark s i) t) (length s.rows)

-- column t's own bit, and the pivot columns that go with it
unfoldable pub free_direction : State → ℕ → ℕ
free_direction s t = 2 ^ t ⊕ column s t (length s.rows)

-- one for each free column among the n from t on
unfoldable pub free_directions : State → ℕ → ℕ → List ℕ
free_directions s zero t = []
free_directions s (suc n) t = in_front (not (taken s t)) (free_direction s t) (free_directions s n (suc t))
