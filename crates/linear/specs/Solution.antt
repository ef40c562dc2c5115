-- The solutions by search: base and directions of the numbers below 2 ^ m that pass a test, in the code's sixteen places. Assumes nothing.
use Rattle.std.specs.Prelude.{Bool, true, false, List, ℕ, ◌^◌, eqb, length, get_or, Option, Some, None}
use Rattle.algebra.specs.Lists.{padded}
use Rattle.algebra.specs.Search.{first, some_below, every_below}
use Rattle.binary.specs.Bit.{bit}
use Rattle.linear.specs.Limits.{places}
use Rattle.linear.specs.System.{dot}
use Rattle.linear.specs.Directions.{directions_from}

-- "k directions in sixteen places, ascending, the unused places 0"
unfoldable pub placed : List ℕ → List ℕ
placed ds = padded places ds

-- a base and so many directions, in their places
pub record Solutions : Type 0 where
  pub base : ℕ
  pub count : ℕ
  pub directions : List ℕ

unfoldable pub some_solutions : ℕ → List ℕ → Solutions
some_solutions b ds = record { base = b; count = length ds; directions = placed ds }

-- none where there is no solution
unfoldable pub solution_if : Bool → ℕ → List ℕ → Option Solutions
solution_if true b ds = Some (some_solutions b ds)
solution_if false b ds = None

-- base: the smallest below 2 ^ m that passes g; directions: the smallest that passes f for each highest bit below m
unfoldable pub solution_by : ℕ → (ℕ → Bool) → (ℕ → Bool) → Option Solutions
solution_by m g f = solution_if (some_below g (2 ^ m)) (first g (2 ^ m)) (directions_from f m 0)

-- each row's parity with v is its right-hand bit
unfoldable pub solves_rows : ℕ → List ℕ → ℕ → Bool
solves_rows m l v = every_below (λ i. eqb (dot (get_or l i 0) v) (bit m (get_or l i 0))) (length l)

-- each row's parity with v is 0
unfoldable pub in_kernel : List ℕ → ℕ → Bool
in_kernel l v = every_below (λ i. eqb (dot (get_or l i 0) v) 0) (length l)
