-- The elimination: "rows stand by power in the result, lowest first, and stay where they are; columns go from the lowest
-- unknown to the highest, the pivot is the first unused row holding the bit, and it is added to every other row that holds it. A column
-- with no such row is passed over." Assumes nothing.
use Rattle.std.specs.Prelude.{Bool, true, false, ◌&&◌, List, map, ℕ, ◌*◌, length, get_or, set, replicate, eqb, ltb}
use Rattle.algebra.specs.Search.{first}
use Rattle.algebra.specs.Loop.{loop}
use Rattle.binary.specs.Xor.{◌⊕◌}
use Rattle.binary.specs.Bit.{bit}

-- the rows, and the mark of each
pub record State : Type 0 where
  pub rows : List ℕ
  pub marks : List ℕ

abbrev pub row : State → ℕ → ℕ
row s i = get_or s.rows i 0

-- a row's mark is the column that it is the pivot of, and m while it is unused
abbrev pub mark : State → ℕ → ℕ
mark s i = get_or s.marks i 0

-- a row with this mark is unused, and holds column k
unfoldable pub candidate : ℕ → ℕ → ℕ → ℕ → Bool
candidate m k mark row = eqb mark m && eqb (bit k row) 1

-- "the first unused row holding the bit"; as many as there are rows where there is none
unfoldable pub pivot : ℕ → ℕ → State → ℕ
pivot m k s = first (λ i. candidate m k (mark s i) (row s i)) (length s.rows)

-- row p "added to every other row that holds" column k
unfoldable pub clear : ℕ → ℕ → List ℕ → List ℕ
clear k p l = let pivot = get_or l p 0 in set (map (λ row. row ⊕ bit k row * pivot) l) p pivot

unfoldable pub use_row : ℕ → ℕ → State → State
use_row k p s = record { rows = clear k p s.rows; marks = set s.marks p k }

unfoldable pub step_at : ℕ → ℕ → State → Bool → State
step_at k p s true = use_row k p s
step_at k p s false = s

-- one column
unfoldable pub step : ℕ → ℕ → State → State
step m k s = let p = pivot m k s in step_at k p s (ltb p (length s.rows))

-- no row used
unfoldable pub start : ℕ → List ℕ → State
start m l = record { rows = l; marks = replicate (length l) m }

-- all m columns
unfoldable pub eliminate : ℕ → List ℕ → State
eliminate m l = loop (step m) m (start m l)
