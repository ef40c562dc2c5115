-- An affine equation and its roots, by trying every element (01, "Affine equations"). cs are the coefficients, "c first, then l0 up to at
-- most l(m-1)"; m is the degree of the field polynomial p. Assumes nothing.
use Rattle.std.specs.Prelude.{Bool, List, Option, ℕ, ◌+◌, ◌^◌, ◌≤◌, ◌<◌, eqb, length, get_or, drop}
use Rattle.algebra.specs.Lists.{count_up, keep}
use Rattle.algebra.specs.Search.{first}
use Rattle.binary.specs.Xor.{◌⊕◌}
use Rattle.binary.specs.Factor.{degree_of}
use Rattle.galois.specs.Polynomial.{Coeffs}
use Rattle.galois.specs.Affine.{linear_at, affine_at}
use Rattle.arithmetic.specs.Modulus.{FieldModulus}
use Rattle.linear.specs.Limits.{places}
use Rattle.linear.specs.Directions.{directions_from, choose}
use Rattle.linear.specs.Solution.{Solutions, solution_by}

-- x is a root: "c + l0·x + l1·x^2 + l2·x^4 + ..." is 0
unfoldable pub is_root : ℕ → List ℕ → ℕ → Bool
is_root p cs x = eqb (affine_at p (get_or cs 0 0) (drop 1 cs) x) 0

-- x takes roots to roots: the equation's linear part is 0 at x
unfoldable pub is_direction : ℕ → List ℕ → ℕ → Bool
is_direction p cs x = eqb (linear_at p (drop 1 cs) x) 0

-- all roots, ascending
unfoldable pub all_roots : ℕ → ℕ → List ℕ → List ℕ
all_roots m p cs = keep (is_root p cs) (count_up 0 (2 ^ m))

-- "the base, which is the smallest root"
unfoldable pub base_of : ℕ → ℕ → List ℕ → ℕ
base_of m p cs = first (is_root p cs) (2 ^ m)

-- the directions, "ascending": the one with highest bit j is the smallest of 2^j .. 2^(j+1) - 1 with the linear part 0
unfoldable pub directions_of : ℕ → ℕ → List ℕ → List ℕ
directions_of m p cs = directions_from (is_direction p cs) m 0

-- "the root at place n (from 0) in ascending order is the base with the directions chosen by the bits of n"
unfoldable pub root_at : ℕ → ℕ → List ℕ → ℕ → ℕ
root_at m p cs n = base_of m p cs ⊕ choose (directions_of m p cs) n

-- base and directions together, as the elimination gives them; none without a root
unfoldable pub solution_of : ℕ → List ℕ → Option Solutions
solution_of p cs = solution_by (degree_of p) (is_root p cs) (is_direction p cs)

-- what the code asks of an equation: the field, and one to m + 1 coefficients in it
pub record Ready (m p : ℕ) (cs : List ℕ) : Type 0 where
  pub field : FieldModulus m p
  pub largest : m ≤ places
  pub some : 0 < length cs
  pub few : length cs ≤ m + 1
  pub small : Coeffs m cs
