-- What each public call says, for every input: its tests in the order of the table of numbers, and its value (01, "The field and its
-- elements"). Assumes nothing.
use Rattle.std.specs.Prelude.{◌&&◌, ◌||◌, [], ◌∷◌, ◌++◌, ℕ, ◌-◌, ◌^◌, eqb, ltb, ℤ, pos}
use Rattle.std.specs.Int.Signed.{lt_z}
use Rattle.binary.specs.Xor.{◌⊕◌}
use Rattle.binary.specs.Product.{product}
use Rattle.binary.specs.Factor.{degree_of}
use Rattle.galois.specs.Power.{power}
use Rattle.galois.specs.Trace.{trace}
use Rattle.field.specs.Limits.{smallest_degree, largest_degree}
use Rattle.field.specs.Refusal.{◌⇒◌, Outcome, outcome, polynomial_tests, element_tests, elements_tests}
use Rattle.arithmetic.specs.Quotient.{quotient_of}
use Rattle.arithmetic.specs.Power.{power_of}
use Rattle.arithmetic.specs.Number.{number_of, element_of}
use Rattle.field.specs.House.{house_entry}

-- "accepted when m is 2 to 16 and no polynomial of degree 1 to m/2 divides it": then its degree
abbrev pub accept_outcome : ℕ → Outcome ℕ
accept_outcome p = outcome (polynomial_tests p) (degree_of p)

-- "sum is exclusive or"
abbrev pub sum_outcome : ℕ → ℕ → ℕ → Outcome ℕ
sum_outcome p a b = outcome (elements_tests p a b) (a ⊕ b)

-- "product is the product over GF(2), reduced by the field polynomial"
abbrev pub product_outcome : ℕ → ℕ → ℕ → Outcome ℕ
product_outcome p a b = outcome (elements_tests p a b) (product p a b)

-- "the one element q with q·b = a, for b not 0"; 6: "quotient by 0"
abbrev pub quotient_outcome : ℕ → ℕ → ℕ → Outcome ℕ
quotient_outcome p a b = outcome (elements_tests p a b ++ eqb b 0 ⇒ 6 ∷ []) (quotient_of (degree_of p) p a b)

-- "0 to the 0 is 1; 0 to a positive exponent is 0; 0 to a negative one is turned down", by 6
abbrev pub power_outcome : ℕ → ℕ → ℤ → Outcome ℕ
power_outcome p a e = outcome (element_tests p a ++ (eqb a 0 && lt_z e (pos 0)) ⇒ 6 ∷ []) (power_of (degree_of p) p a e)

-- "square root of b is b raised to 2^(m-1)"
abbrev pub square_root_outcome : ℕ → ℕ → Outcome ℕ
square_root_outcome p b = outcome (element_tests p b) (power p b (2 ^ (degree_of p - 1)))

-- "c + c^2 + c^4 + ... + c^(2^(m-1))"
abbrev pub trace_outcome : ℕ → ℕ → Outcome ℕ
trace_outcome p c = outcome (element_tests p c) (trace (degree_of p) p c)

-- "element to number
abbrev pub number_outcome : ℕ → ℕ → Outcome ℕ
number_outcome p a = outcome (element_tests p a) (number_of (degree_of p) p a)

-- and back": "N up to 2^m - 1 gives x^(N-1), larger is turned down by 4"
abbrev pub element_outcome : ℕ → ℕ → Outcome ℕ
element_outcome p n = outcome (element_tests p n) (element_of p n)

-- "exponent to element by the power of x"
abbrev pub power_of_x_outcome : ℕ → ℤ → Outcome ℕ
power_of_x_outcome p e = outcome (polynomial_tests p) (power_of (degree_of p) p 2 e)

-- "asked for another degree: number 1"
abbrev pub house_outcome : ℕ → Outcome ℕ
house_outcome d = outcome ((ltb d smallest_degree || ltb largest_degree d) ⇒ 1 ∷ []) (house_entry d)
