-- The roots of a polynomial by trying every element (01, "Equations of degree up to 4"): f are the coefficients, "constant first", and the
-- field has the 2 ^ m elements below 2 ^ m; and the elements that stand in a list. Assumes nothing.
use Rattle.std.specs.Prelude.{Bool, false, ◌||◌, List, [], ◌∷◌, ℕ, ◌^◌, eqb}
use Rattle.algebra.specs.Lists.{count_up, keep}
use Rattle.galois.specs.Polynomial.{value}

-- x is a root: the polynomial's value there, by Horner, is 0
unfoldable pub is_root : ℕ → List ℕ → ℕ → Bool
is_root p f x = eqb (value p f x) 0

-- all roots, "ascending as numbers"
unfoldable pub roots_of : ℕ → ℕ → List ℕ → List ℕ
roots_of m p f = keep (is_root p f) (count_up 0 (2 ^ m))

-- x is an entry of the list
unfoldable pub is_entry : List ℕ → ℕ → Bool
is_entry [] x = false
is_entry (r ∷ rs) x = eqb x r || is_entry rs x

-- the elements that stand in a list, each once, ascending
unfoldable pub elements_of : ℕ → List ℕ → List ℕ
elements_of m rs = keep (is_entry rs) (count_up 0 (2 ^ m))
