-- "c + c^4 + c^16 + ... + c^(2^(m-1))", for odd m (paper 004). Assumes nothing.
use Rattle.std.specs.Prelude.{ℕ, zero, suc, ◌*◌}
use Rattle.binary.specs.Xor.{◌⊕◌}
use Rattle.galois.specs.Power.{squares}

-- the first n of its (m + 1) / 2 terms
unfoldable pub half_trace : ℕ → ℕ → ℕ → ℕ
half_trace p zero c = 0
half_trace p (suc n) c = half_trace p n c ⊕ squares p (2 * n) c
