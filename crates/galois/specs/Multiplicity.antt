-- The multiplicity of r: how often x + r divides (01, "Equations of degree up to 4"; `multiplicity-divides` and `multiplicity_largest` of
-- proofs/Largest show that it is the largest k with (x + r)^k dividing). Assumes nothing.
use Rattle.std.specs.Prelude.{◌≡◌, List, ℕ, zero, suc, length}
use Rattle.galois.specs.Polynomial.{value, without_root, with_root_often}

-- at most n divisions
unfoldable pub multiplicity_up_to : ℕ → ℕ → ℕ → List ℕ → ℕ
multiplicity_up_to p r zero f = 0
multiplicity_up_to p r (suc n) f = elim (value p f r) [ zero ↦ suc (multiplicity_up_to p r n (without_root p r f)) | suc k ↦ 0 ]

unfoldable pub multiplicity : ℕ → ℕ → List ℕ → ℕ
multiplicity p r f = multiplicity_up_to p r (length f) f

-- (x + r)^k divides f: there is a quotient
abbrev pub PowerDivides : ℕ → ℕ → ℕ → List ℕ → Type 0
PowerDivides p r k f = (q : List ℕ) × (f ≡ with_root_often p r k q)
