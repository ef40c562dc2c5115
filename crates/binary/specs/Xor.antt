-- Polynomials over GF(2) as numbers: bit i is the coefficient of x^i. Their sum, and the degree.
-- Assumes nothing.
use Rattle.std.specs.Prelude.{ℕ, suc, ◌^◌, ◌<◌, ◌≤◌, bit_xor}

infixl 65 ◌⊕◌
-- the sum: exclusive or
unfoldable pub ◌⊕◌ : ℕ → ℕ → ℕ
a ⊕ b = bit_xor a b

-- a has degree k: bit k is its highest
abbrev pub Degree : ℕ → ℕ → Type 0
Degree k a = (2 ^ k ≤ a) × (a < 2 ^ suc k)
