-- What each public call says, for every input: its tests in the order of the table of numbers, and its value (01, "Equations of degree up
-- to 4"). Assumes nothing.
use Rattle.std.specs.Prelude.{Bool, List, [], ◌∷◌, ◌++◌, map, ℕ, eqb, ltb, length, get_or, replicate}
use Rattle.algebra.specs.Lists.{padded}
use Rattle.algebra.specs.Search.{every_below}
use Rattle.binary.specs.Factor.{degree_of}
use Rattle.galois.specs.Polynomial.{build}
use Rattle.galois.specs.Roots.{roots_of}
use Rattle.galois.specs.Multiplicity.{multiplicity}
use Rattle.field.specs.Refusal.{Test, ◌⇒◌, refusal, Outcome, turned_down, gives, answer_by, polynomial_tests, wrong_count, list_tests}
use Rattle.roots.specs.Limits.{most_coefficients, most_roots}

-- 5: "degree-4 call with every coefficient 0"
unfoldable pub all_zero : List ℕ → Bool
all_zero cs = every_below (λ i. eqb (get_or cs i 0) 0) (length cs)

-- before it 3: "coefficient count 0 or above 5", and 4: "an element or coefficient is 2^m or more"
abbrev pub equation_tests : ℕ → List ℕ → List Test
equation_tests p cs = polynomial_tests p ++ list_tests p (wrong_count most_coefficients (length cs)) cs ++ all_zero cs ⇒ 5 ∷ []

-- "the answer says turned down with its number, or solved with its count 0 to 4. Beside it stand four places for roots and four for
-- multiplicities"
pub record Answer : Type 0 where
  pub says : Outcome ℕ
  pub roots : List ℕ
  pub multiplicities : List ℕ

-- "roots ascending as numbers, unused places 0": the elements rs, each with its multiplicity in f
abbrev pub solved : ℕ → List ℕ → List ℕ → Answer
solved p f rs =
    record {
      says = gives (length rs);
      roots = padded most_roots rs;
      multiplicities = padded most_roots (map (λ r. multiplicity p r f) rs);
    }

-- "a call turned down returns its number, every other part of the answer 0"
abbrev pub refused_answer : ℕ → Answer
refused_answer n = record { says = turned_down n; roots = replicate most_roots 0; multiplicities = replicate most_roots 0 }

abbrev pub solve_answer : ℕ → List ℕ → Answer
solve_answer p cs = answer_by (refusal (equation_tests p cs)) refused_answer (solved p cs (roots_of (degree_of p) p cs))

-- 3: "more than 4 roots to build from", then 4
abbrev pub build_tests : ℕ → List ℕ → List Test
build_tests p rs = polynomial_tests p ++ list_tests p (ltb most_roots (length rs)) rs

-- turned down with its number, or built; and the five coefficients
pub record Built : Type 0 where
  pub says : Outcome (Unit {0})
  pub coefficients : List ℕ

-- "the five coefficients of the product of all (x + r), constant first, 0 above the degree. None gives 1."
abbrev pub built : ℕ → List ℕ → Built
built p rs = record { says = gives tt; coefficients = padded most_coefficients (build p rs) }

abbrev pub refused_built : ℕ → Built
refused_built n = record { says = turned_down n; coefficients = replicate most_coefficients 0 }

abbrev pub build_answer : ℕ → List ℕ → Built
build_answer p rs = answer_by (refusal (build_tests p rs)) refused_built (built p rs)
