-- What an answer says: the number that it was turned down by, or its value ("Numbers a call is turned down by"). Assumes nothing.
use Rattle.std.specs.Prelude.{ℕ, Result, Ok, Err}
use Rattle.binary.specs.Factor.{degree_of}
use Rattle.arithmetic.specs.declared.inner.field.Field.{Field}
use Rattle.field.specs.Refusal.{Outcome, turned_down, gives}
use Rattle.field.specs.declared.refused.Refusal.{Refusal}
use Rattle.field.specs.declared.refused.Refusal.TheVariants.{OutOfRange, HasFactor, WrongCount, TooLarge, AllZero, DivisionByZero, NoPlace}
use Rattle.field.specs.declared.Element.{Element}
use Rattle.field.specs.declared.LogNumber.{LogNumber}

abbrev pub number_of : Refusal → ℕ
number_of OutOfRange = 1
number_of HasFactor = 2
number_of WrongCount = 3
number_of TooLarge = 4
number_of AllZero = 5
number_of DivisionByZero = 6
number_of NoPlace = 7

-- what is read off a value, or the number
abbrev pub of_answer : {A B : Type 0} → (A → B) → Result A Refusal → Outcome B
of_answer read (Ok a) = gives (read a)
of_answer read (Err r) = turned_down (number_of r)

abbrev pub of_value : Result ℕ Refusal → Outcome ℕ
of_value = of_answer (λ n. n)

abbrev pub of_element : Result Element Refusal → Outcome ℕ
of_element = of_answer (λ a. a.0)

abbrev pub of_number : Result LogNumber Refusal → Outcome ℕ
of_number = of_answer (λ n. n.0)

abbrev pub of_nothing : Result (Unit {0}) Refusal → Outcome (Unit {0})
of_nothing = of_answer (λ u. u)

-- a field by its polynomial and its degree
abbrev pub of_field : Result Field Refusal → Outcome (ℕ × ℕ)
of_field = of_answer (λ f. (f.polynomial, f.degree))

abbrev pub field_of : ℕ → ℕ × ℕ
field_of p = (p, degree_of p)
