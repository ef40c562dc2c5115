-- What each public call says, for every input: its tests in the order of the table of numbers, and its value (01, "Affine equations").
-- Assumes nothing.
use Rattle.std.specs.Prelude.{Bool, true, false, List, [], ◌∷◌, ◌++◌, ℕ, ◌+◌, ◌^◌, leb, ltb, length, drop, replicate}
use Rattle.algebra.specs.Search.{some_below}
use Rattle.binary.specs.Factor.{degree_of}
use Rattle.field.specs.Refusal.{Test, ◌⇒◌, refusal, Outcome, turned_down, gives, answer_by, outcome, polynomial_tests, wrong_count, list_tests}
use Rattle.linear.specs.Limits.{places}
use Rattle.linear.specs.Solution.{placed}
use Rattle.affine.specs.Equation.{is_root, all_roots, base_of, directions_of, root_at}

-- 3: "coefficient count 0 or above" m + 1, then 4: "an element or coefficient is 2^m or more"
abbrev pub equation_tests : ℕ → List ℕ → List Test
equation_tests p cs = polynomial_tests p ++ list_tests p (wrong_count (degree_of p + 1) (length cs)) cs

-- "found or not", and k
pub record Space : Type 0 where
  pub found : Bool
  pub dimension : ℕ

-- "the answer: found or not; k; the base, which is the smallest root; and k directions in sixteen places"
pub record Answer : Type 0 where
  pub says : Outcome Space
  pub base : ℕ
  pub directions : List ℕ

-- "with no root: k, base and all directions are 0"
abbrev pub solution : Bool → ℕ → List ℕ → Answer
solution true b ds = record { says = gives (record { found = true; dimension = length ds }); base = b; directions = placed ds }
solution false b ds = record { says = gives (record { found = false; dimension = 0 }); base = 0; directions = replicate places 0 }

-- "a call turned down returns its number, every other part of the answer 0"
abbrev pub refused_answer : ℕ → Answer
refused_answer n = record { says = turned_down n; base = 0; directions = replicate places 0 }

abbrev pub solve_answer : ℕ → List ℕ → Answer
solve_answer p cs =
    let m = degree_of p in
    answer_by (refusal (equation_tests p cs)) refused_answer (solution (some_below (is_root p cs) (2 ^ m)) (base_of m p cs) (directions_of m p cs))

-- 7: "place n at or past the number of roots"; "every place n is turned down by 7" where there is none
abbrev pub place_outcome : ℕ → List ℕ → ℕ → Outcome ℕ
place_outcome p cs n =
    let m = degree_of p in
    outcome (equation_tests p cs ++ leb (length (all_roots m p cs)) n ⇒ 7 ∷ []) (root_at m p cs n)

-- 7: "lent list shorter than that number"
abbrev pub listing_tests : ℕ → List ℕ → ℕ → List Test
listing_tests p cs room = equation_tests p cs ++ ltb room (length (all_roots (degree_of p) p cs)) ⇒ 7 ∷ []

-- the listing "returns how many"
abbrev pub listing_outcome : ℕ → List ℕ → ℕ → Outcome ℕ
listing_outcome p cs room = outcome (listing_tests p cs room) (length (all_roots (degree_of p) p cs))

-- "a listing writes all roots ascending into a lent list; entries after them stay untouched"; turned down, "no lent entry is touched"
abbrev pub listing_after : ℕ → List ℕ → List ℕ → List ℕ
listing_after p cs list =
    let roots = all_roots (degree_of p) p cs in
    answer_by (refusal (listing_tests p cs (length list))) (λ n. list) (roots ++ drop (length roots) list)
