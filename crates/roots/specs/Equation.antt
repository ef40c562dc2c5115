-- What the code asks of an equation, and the steps from it to its roots (E1 to E4). Assumes nothing.
use Rattle.std.specs.Prelude.{◌↔◌, Bool, true, false, List, [], ◌∷◌, ℕ, ◌-◌, ◌^◌, ◌≤◌, ◌<◌, eqb}
use Rattle.algebra.specs.Lists.{Member, Nodup}
use Rattle.binary.specs.Xor.{◌⊕◌}
use Rattle.linear.specs.Limits.{places}
use Rattle.galois.specs.Power.{power}
use Rattle.galois.specs.Polynomial.{Coeffs, AllZero, Root}
use Rattle.arithmetic.specs.Modulus.{FieldModulus}
use Rattle.arithmetic.specs.Quotient.{quotient_of}

-- the field, and coefficients in it, not all 0
pub record Ready (m p : ℕ) (f : List ℕ) : Type 0 where
  pub field : FieldModulus m p
  pub largest : m ≤ places
  pub small : Coeffs m f
  pub nonzero : AllZero f → ⊥

-- the roots of f and nothing else, none twice, in no order
pub record HoldsRoots (m p : ℕ) (f xs : List ℕ) : Type 0 where
  pub are : (x : ℕ) → Member x xs ↔ Root m p f x
  pub once : Nodup xs

-- c + l0·x + l1·x^2 + l2·x^4 as a polynomial
abbrev pub quartic_of : ℕ → ℕ → ℕ → ℕ → List ℕ
quartic_of c l0 l1 l2 = c ∷ l0 ∷ l1 ∷ 0 ∷ l2 ∷ []

abbrev pub folded_if : Bool → ℕ → ℕ → ℕ → ℕ → List ℕ
folded_if true c l0 l1 l2 = c ∷ (l0 ⊕ l2) ∷ l1 ∷ []
folded_if false c l0 l1 l2 = c ∷ l0 ∷ l1 ∷ l2 ∷ []

-- and as an affine equation. "For m = 2 affine equations stop at x^2; there x^4 is x for every element, and the two terms are added."
unfoldable pub folded : ℕ → ℕ → ℕ → ℕ → ℕ → List ℕ
folded m c l0 l1 l2 = folded_if (eqb m 2) c l0 l1 l2

-- "s the square root of C/A", with c1 for C and c3 for A
unfoldable pub shift : ℕ → ℕ → ℕ → ℕ → ℕ
shift m p c1 c3 = power p (quotient_of m p c1 c3) (2 ^ (m - 1))

-- "put x = s + 1/y"
unfoldable pub from_inverse : ℕ → ℕ → ℕ → ℕ → ℕ
from_inverse m p s y = s ⊕ quotient_of m p 1 y

-- elements that have an inverse
abbrev pub Units : ℕ → List ℕ → Type 0
Units m ys = (y : ℕ) → Member y ys → (0 < y) × (y < 2 ^ m)
