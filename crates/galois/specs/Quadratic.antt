-- The equation t² + t = c (01, "Facts to use"). Assumes nothing.
use Rattle.std.specs.Prelude.{◌≡◌, ℕ, ◌^◌, ◌<◌}
use Rattle.binary.specs.Xor.{◌⊕◌}
use Rattle.binary.specs.Product.{product}

-- t is a root of t² + t = c
abbrev pub Quadratic : ℕ → ℕ → ℕ → ℕ → Type 0
Quadratic m p c t = (t < 2 ^ m) × (product p t t ⊕ t ≡ c)
