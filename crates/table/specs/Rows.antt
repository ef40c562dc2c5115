-- The fourteen rows of document 01's table of values that are marked *, `starred_rows`: each has its calls and what they answer, and
-- `answer_of` is what the definitions that the promises cite say to a call. Assumes nothing.
use Rattle.std.specs.Prelude.{true, List, [], ◌∷◌, map, ℕ, ℤ, negsuc, length}
use Rattle.algebra.specs.Lists.{padded}
use Rattle.linear.specs.Limits.{places}
use Rattle.field.specs.Refusal.{Outcome, gives}
use Rattle.field.specs.Calls.{power_outcome, trace_outcome, number_outcome}
use Rattle.affine.specs.Calls as affine
use Rattle.roots.specs.Limits.{most_roots}
use Rattle.roots.specs.Calls as roots

infix 75 ◌and◌
infix 75 ◌with◌
infix 70 ◌answers◌
-- a call of the table: the field polynomial first, coefficients constant first
pub data Call : Type 0 where
  equation : ℕ → List ℕ → Call
  affine_equation : ℕ → List ℕ → Call
  power : ℕ → ℕ → ℤ → Call
  number : ℕ → ℕ → Call
  trace : ℕ → ℕ → Call
  ◌and◌ : Call → Call → Call

-- the whole answer to it
pub data Result : Type 0 where
  solved : roots.Answer → Result
  found : affine.Answer → Result
  says : Outcome ℕ → Result
  ◌with◌ : Result → Result → Result

abbrev pub answer_of : Call → Result
answer_of (equation p cs) = solved (roots.solve_answer p cs)
answer_of (affine_equation p cs) = found (affine.solve_answer p cs)
answer_of (power p a e) = says (power_outcome p a e)
answer_of (number p a) = says (number_outcome p a)
answer_of (trace p c) = says (trace_outcome p c)
answer_of (a and b) = answer_of a with answer_of b

-- "(r×k) is root and multiplicity": solved, with as many roots as there are pairs, in the places of the answer
abbrev pub roots_are : List (ℕ × ℕ) → Result
roots_are rs =
    solved (record {
      says = gives (length rs);
      roots = padded most_roots (map (λ r. r.0) rs);
      multiplicities = padded most_roots (map (λ r. r.1) rs);
    })

-- "found, k, base, direction"
abbrev pub found_as : ℕ → ℕ → List ℕ → Result
found_as k base directions = found (record { says = gives (record { found = true; dimension = k }); base = base; directions = padded places directions })

abbrev pub exactly : ℕ → Result
exactly v = says (gives v)

pub record Row : Type 0 where
  pub call : Call
  pub result : Result

abbrev pub ◌answers◌ : Call → Result → Row
c answers r = record { call = c; result = r }

unfoldable pub starred_rows : List Row
starred_rows =
    -- 000, example 1, rewritten as elements
    equation 19 (14 ∷ 8 ∷ 1 ∷ []) answers roots_are ((3, 1) ∷ (11, 1) ∷ [])
    -- 001, example 1
    ∷ equation 37 (31 ∷ 1 ∷ 1 ∷ []) answers roots_are ((24, 1) ∷ (25, 1) ∷ [])
    -- 001, example 2
    ∷ equation 37 (23 ∷ 1 ∷ 1 ∷ []) and trace 37 23 answers roots_are [] with exactly 1
    -- 004
    ∷ equation 19 (1 ∷ 1 ∷ 1 ∷ []) answers roots_are ((6, 1) ∷ (7, 1) ∷ [])
    ∷ equation 19 (8 ∷ 0 ∷ 0 ∷ 1 ∷ []) answers roots_are ((2, 1) ∷ (12, 1) ∷ (14, 1) ∷ [])
    ∷ equation 19 (2 ∷ 0 ∷ 0 ∷ 1 ∷ []) answers roots_are []
    ∷ equation 11 (2 ∷ 0 ∷ 0 ∷ 1 ∷ []) answers roots_are ((7, 1) ∷ [])
    ∷ equation 19 (0 ∷ 1 ∷ 0 ∷ 1 ∷ []) answers roots_are ((0, 1) ∷ (1, 2) ∷ [])
    -- here s = 1 is a root
    ∷ equation 19 (0 ∷ 1 ∷ 1 ∷ 1 ∷ 1 ∷ []) answers roots_are ((0, 1) ∷ (1, 3) ∷ [])
    ∷ equation 19 (3 ∷ 0 ∷ 0 ∷ 0 ∷ 1 ∷ []) answers roots_are ((2, 4) ∷ [])
    ∷ affine_equation 37 (31 ∷ 1 ∷ 1 ∷ []) answers found_as 1 24 (1 ∷ [])
    -- 2 to the -1
    ∷ power 19 2 (negsuc 0) answers exactly 9
    -- x has order 5
    ∷ number 31 3 answers exactly 0
    ∷ number 19 15 answers exactly 13
    ∷ []
