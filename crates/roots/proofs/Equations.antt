-- What an equation's type keeps (`coeffs`, `ready`), also of a cubic written with its 0 (`cubic_ready`, `cubic_roots`). Assumes nothing.
use Rattle.std.proofs.Common.{◌≡◌, ℕ, List, [], ◌∷◌, length, get_or}
use Rattle.galois.specs.Polynomial.{Coeffs}
use Rattle.galois.proofs.Polynomial.{coeffs_of}
use Rattle.roots.specs.Equation.{Ready, HoldsRoots}
use Rattle.roots.specs.Roots.{AreRoots}
use Rattle.roots.proofs.Entries.{as_cubic}
use Rattle.roots.proofs.Completing.{ready_as, roots_as}
use Rattle.roots.specs.declared.inner.polynomial.Polynomial.{Polynomial}
use Rattle.roots.specs.declared.inner.equation.Equation.{Equation}

pub coeffs : (f : Polynomial) → Coeffs f.field.degree f.coefficients
coeffs f = coeffs_of f.field.degree f.coefficients (λ i l. f.small i)

pub ready : (e : Equation) → Ready e.polynomial.field.degree e.polynomial.field.polynomial e.polynomial.coefficients
ready e = record { field = e.polynomial.field.is_field; largest = e.largest; small = coeffs e.polynomial; nonzero = e.nonzero }

-- where the highest coefficient is 0
module _ (e : Equation) (five : length e.polynomial.coefficients ≡ 5) (z : get_or e.polynomial.coefficients 4 0 ≡ 0) where
  abbrev cubic : List ℕ
  cubic =
      let f = e.polynomial.coefficients in
      get_or f 0 0 ∷ get_or f 1 0 ∷ get_or f 2 0 ∷ get_or f 3 0 ∷ 0 ∷ []

  pub cubic_ready : Ready e.polynomial.field.degree e.polynomial.field.polynomial cubic
  cubic_ready = ready_as _ _ _ _ (as_cubic e.polynomial.coefficients five z) (ready e)

  pub cubic_roots : (xs : List ℕ) → HoldsRoots e.polynomial.field.degree e.polynomial.field.polynomial cubic xs → AreRoots e xs
  cubic_roots xs H = roots_as _ _ _ _ xs (as_cubic e.polynomial.coefficients five z) H
