-- Directions by search (those of an affine equation): of the numbers that pass a test, the smallest one for each highest bit; and the sum of
-- those that the bits of a number choose. Assumes nothing.
use Rattle.std.specs.Prelude.{Bool, true, false, List, [], ◌∷◌, ℕ, zero, suc, ◌*◌, ◌/◌, ◌%◌, ◌^◌, ltb}
use Rattle.algebra.specs.Search.{first_from}
use Rattle.binary.specs.Xor.{◌⊕◌}

-- the smallest of 2^j .. 2^(j+1) - 1 that passes; 2^(j+1) where none does
unfoldable pub smallest_at : (ℕ → Bool) → ℕ → ℕ
smallest_at f j = first_from f (2 ^ j) (2 ^ j)

-- d in front of the others, if it is one
unfoldable pub in_front : Bool → ℕ → List ℕ → List ℕ
in_front true d ds = d ∷ ds
in_front false d ds = ds

-- the smallest for each of the n highest bits from j on that has any, ascending
unfoldable pub directions_from : (ℕ → Bool) → ℕ → ℕ → List ℕ
directions_from f zero j = []
directions_from f (suc n) j = in_front (ltb (smallest_at f j) (2 ^ suc j)) (smallest_at f j) (directions_from f n (suc j))

-- "directions chosen by the bits of n, lowest bit for the smallest direction": their sum
unfoldable pub choose : List ℕ → ℕ → ℕ
choose [] n = 0
choose (d ∷ ds) n = n % 2 * d ⊕ choose ds (n / 2)
