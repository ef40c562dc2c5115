-- The roots of an equation, and their multiplicities. Assumes nothing.
use Rattle.std.specs.Prelude.{List, map, ℕ}
use Rattle.galois.specs.Roots.{roots_of}
use Rattle.galois.specs.Multiplicity.{multiplicity}
use Rattle.roots.specs.Equation.{HoldsRoots}
use Rattle.roots.specs.declared.inner.equation.Equation.{Equation}

-- ascending
abbrev pub roots : Equation → List ℕ
roots e = roots_of e.polynomial.field.degree e.polynomial.field.polynomial e.polynomial.coefficients

-- of each of them
abbrev pub multiplicities : Equation → List ℕ
multiplicities e = map (λ r. multiplicity e.polynomial.field.polynomial r e.polynomial.coefficients) (roots e)

-- these are the roots, in no order
abbrev pub AreRoots : Equation → List ℕ → Type 0
AreRoots e xs = HoldsRoots e.polynomial.field.degree e.polynomial.field.polynomial e.polynomial.coefficients xs
