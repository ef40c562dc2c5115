-- The kinds of frames and their bytes. Assumes nothing.
use Rattle.std.specs.Prelude.{◌≡◌, false, ◌||◌, ℕ, eqb}
use Rattle.frames.specs.declared.inner.kind.Kind.{Kind}
use Rattle.frames.specs.declared.inner.kind.Kind.TheVariants.{DegreeUpTo4, Affine}

-- "01 degree up to 4, 02 affine"
abbrev pub kind_byte : Kind → ℕ
kind_byte DegreeUpTo4 = 1
kind_byte Affine = 2

-- "another kind"
abbrev pub NoKind : ℕ → Type 0
NoKind b = (eqb b 1 || eqb b 2) ≡ false
