-- "Trace of c is c + c^2 + c^4 + ... + c^(2^(m-1))" (01). Assumes nothing.
use Rattle.std.specs.Prelude.{ℕ, zero, suc}
use Rattle.binary.specs.Xor.{◌⊕◌}
use Rattle.galois.specs.Power.{squares}

-- the first k terms
unfoldable pub part_trace : ℕ → ℕ → ℕ → ℕ
part_trace p zero c = 0
part_trace p (suc k) c = part_trace p k c ⊕ squares p k c

abbrev pub trace : ℕ → ℕ → ℕ → ℕ
trace m p c = part_trace p m c
