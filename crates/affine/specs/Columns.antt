-- The matrix of an affine equation by its columns: column j is the linear part at 2^j, the element x^j. Assumes nothing.
use Rattle.std.specs.Prelude.{◌≡◌, List, ℕ, ◌^◌, ◌<◌, get_or}
use Rattle.binary.specs.Xor.{◌⊕◌}
use Rattle.binary.specs.Product.{product}
use Rattle.galois.specs.Power.{squares}
use Rattle.galois.specs.Affine.{linear_at}

abbrev pub IsColumns : ℕ → ℕ → List ℕ → List ℕ → Type 0
IsColumns m p ls columns = (j : ℕ) → j < m → get_or columns j 0 ≡ linear_at p ls (2 ^ j)

-- the columns with the term l·x^(2^i) added
abbrev pub PlusTerm : ℕ → ℕ → ℕ → ℕ → List ℕ → List ℕ → Type 0
PlusTerm m p l i before after = (j : ℕ) → j < m → get_or after j 0 ≡ get_or before j 0 ⊕ product p l (squares p i (2 ^ j))
