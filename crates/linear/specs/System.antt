-- What a linear system over GF(2) says. A row is a number: bits 0 .. m - 1 are the coefficients of the m unknowns, bit m is the right-hand
-- side; the unknowns are the bits of a number below 2 ^ m. Assumes nothing.
use Rattle.std.specs.Prelude.{◌≡◌, List, ℕ, ◌%◌, ◌^◌, ◌<◌, get_or}
use Rattle.std.specs.Int.Bits.{bit_and}
use Rattle.binary.specs.Xor.{◌⊕◌}
use Rattle.binary.specs.Bit.{bit}
use Rattle.binary.specs.Fold.{fold}

unfoldable pub parity_step : ℕ → ℕ → ℕ
parity_step x r = x % 2 ⊕ r

-- the parity of the number of bits
unfoldable pub parity : ℕ → ℕ
parity a = fold parity_step a

-- the parity of the bits that a row and v share
unfoldable pub dot : ℕ → ℕ → ℕ
dot r v = parity (bit_and r v)

-- every row sends v to 0 (past the end stands the row 0)
abbrev pub Kernel : List ℕ → ℕ → Type 0
Kernel l v = (i : ℕ) → dot (get_or l i 0) v ≡ 0

-- v solves the system: each row's parity with v is its right-hand bit
abbrev pub Solves : ℕ → List ℕ → ℕ → Type 0
Solves m l v = (v < 2 ^ m) × ((i : ℕ) → dot (get_or l i 0) v ≡ bit m (get_or l i 0))
