-- The order of two numbers by the highest bit of their sum: `xor_less`, `clear_if_least`, `lower_clear`. Assumes nothing.
use mathlib.Core.Path.{◌≡◌, ◌∙◌}
use Prim.Native.Nat.{ℕ, ◌≤◌, ◌<◌}
use native.Mathlib.Omega.{arith}
use native.Mathlib.Decide.{ℕ_discrete}
use Rattle.binary.specs.Xor.{◌⊕◌, Degree}
use Rattle.binary.specs.Bit.{bit}
use Rattle.binary.proofs.Xor.{xor_self, xor-zero, xor_assoc, xor_twice}
use Rattle.binary.proofs.Bit.{bit_lt, bit-xor, bit-top, lt_xor}

-- to add a number whose highest bit is set in y makes y smaller
pub xor_less : (t y d : ℕ) → Degree t d → bit t y ≡ 1 → y ⊕ d < y
xor_less t y d h o =
    rw (xor_assoc, xor_self, xor-zero) at (lt_xor t (y ⊕ d) d h (bit-xor t y d ∙ rw (o, bit-top t d h) (xor_self 1)))

-- where it does not, that bit is clear
pub clear_if_least : (t y d : ℕ) → Degree t d → y ≤ y ⊕ d → bit t y ≡ 0
clear_if_least t y d h l = go (ℕ_discrete (bit t y) 1)
  where
    go : Dec (bit t y ≡ 1) → bit t y ≡ 0
    go (yes o) = absurd (omega (arith, xor_less t y d h o))
    go (no n) = omega (arith, bit_lt t y)

-- the smaller of two numbers is 0 at the highest bit where they differ
pub lower_clear : (t a b : ℕ) → a < b → Degree t (a ⊕ b) → bit t a ≡ 0
lower_clear t a b l h = let e = xor_twice a b in clear_if_least t a (a ⊕ b) h (omega arith)
