-- "Numbers a call is turned down by. First that applies wins" (01): a call's tests in their order, and what they say. Assumes nothing.
use Rattle.std.specs.Prelude.{Bool, true, false, not, ◌||◌, List, [], ◌∷◌, ◌++◌, ℕ, zero, suc, ◌^◌, eqb, leb, ltb, length, get_or}
use Rattle.algebra.specs.Search.{some_below}
use Rattle.binary.specs.Factor.{degree_of, factor_free}
use Rattle.field.specs.Limits.{polynomial_floor, polynomial_ceiling}

infix 70 ◌⇒◌
-- where the first holds, the call is turned down by the second
pub data Test : Type 0 where
  ◌⇒◌ : Bool → ℕ → Test

-- the number of the first test that applies, and 0 where none does
abbrev pub refusal : List Test → ℕ
refusal [] = 0
refusal ((b ⇒ n) ∷ ts) = elim b [ true ↦ n | false ↦ refusal ts ]

-- what a call says: turned down by a number of the table, or a value
pub data Outcome (A : Type 0) : Type 0 where
  turned_down : ℕ → Outcome A
  gives : A → Outcome A

-- "a call turned down returns its number, every other part of the answer 0": the first where a test applies, else the second
abbrev pub answer_by : {A : Type 0} → ℕ → (ℕ → A) → A → A
answer_by zero refused v = v
answer_by (suc n) refused v = refused (suc n)

-- a call with these tests and this value
abbrev pub outcome : {A : Type 0} → List Test → A → Outcome A
outcome ts v = answer_by (refusal ts) turned_down (gives v)

-- 1: "field polynomial below 4 or at least 131072"
unfoldable pub out_of_range : ℕ → Bool
out_of_range p = ltb p polynomial_floor || leb polynomial_ceiling p

-- 2: "field polynomial has a proper factor"
unfoldable pub has_factor : ℕ → Bool
has_factor p = not (factor_free (degree_of p) p)

-- 4: "an element or coefficient is 2^m or more, or a logarithm number too large"
unfoldable pub too_large : ℕ → ℕ → Bool
too_large p a = leb (2 ^ degree_of p) a

-- 4, of a list of coefficients
unfoldable pub any_too_large : ℕ → List ℕ → Bool
any_too_large p cs = some_below (λ i. too_large p (get_or cs i 0)) (length cs)

-- "every public call that works in a field takes this number and tests it"
abbrev pub polynomial_tests : ℕ → List Test
polynomial_tests p = out_of_range p ⇒ 1 ∷ has_factor p ⇒ 2 ∷ []

-- 3: "coefficient count 0 or above" the most that there may be
unfoldable pub wrong_count : ℕ → ℕ → Bool
wrong_count most n = eqb n 0 || ltb most n

-- then a list of elements or coefficients: 3 where their number is wrong, and 4
abbrev pub list_tests : ℕ → Bool → List ℕ → List Test
list_tests p wrong cs = wrong ⇒ 3 ∷ any_too_large p cs ⇒ 4 ∷ []

-- or the element
abbrev pub element_tests : ℕ → ℕ → List Test
element_tests p a = polynomial_tests p ++ too_large p a ⇒ 4 ∷ []

-- or the two elements
abbrev pub elements_tests : ℕ → ℕ → ℕ → List Test
elements_tests p a b = element_tests p a ++ too_large p b ⇒ 4 ∷ []
