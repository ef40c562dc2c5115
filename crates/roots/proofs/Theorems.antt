-- What the answer to an equation means, for every accepted field polynomial p, its degree m a parameter: zeros above change nothing
-- (`zeros_above`); the roots (`holds_the_roots`, `in_order`, `each_once`), their multiplicities (`largest_multiplicity`), and how many there
-- are (`at_most_the_degree`, `count_at_most`, `count_fits`), and how large (`root_element`, `multiplicity-fits`). Assumes nothing.
use mathlib.Core.Path.{◌≡◌, sym, ap, ◌∙◌}
use mathlib.Core.Logic.{◌↔◌}
use mathlib.Core.Bool.{Bool}
use mathlib.Core.List.{List, [], ◌∷◌, ◌++◌, map}
use Prim.Native.Nat.{ℕ, ◌^◌, ◌≤◌, ◌<◌}
use native.Mathlib.Omega.{arith}
use lib.ListN.{length, get_or, replicate, length-append}
use Rattle.algebra.specs.Lists.{Member, Nodup, Ascending}
use Rattle.algebra.specs.Counts.{sum_of}
use Rattle.algebra.proofs.Ascending.{ascending_nodup}
use Rattle.algebra.proofs.Counting.{entry_sum}
use Rattle.algebra.proofs.Front.{entry_member}
use Rattle.binary.specs.Factor.{degree_of}
use Rattle.galois.specs.Field.{Field}
use Rattle.galois.specs.Polynomial.{Root, IsDegree}
use Rattle.galois.specs.Roots.{roots_of}
use Rattle.galois.specs.Multiplicity.{multiplicity, PowerDivides}
use Rattle.galois.proofs.RootList.{roots_iff, roots_ascending, roots_few}
use Rattle.galois.proofs.Largest.{multiplicity-divides, multiplicity_largest}
use Rattle.galois.proofs.Degree.{has_degree, total_at_most, roots_at_most}
use Rattle.field.specs.Refusal.{Test, ◌⇒◌, refusal, answer_by, any_too_large, polynomial_tests, wrong_count}
use Rattle.field.proofs.Coefficients.{count_right}
use Rattle.field.proofs.Tests.{same_answer}
use Rattle.roots.specs.Limits.{most_coefficients, most_roots}
use Rattle.roots.specs.Calls.{all_zero, equation_tests, refused_answer, solved, solve_answer}
use Rattle.roots.proofs.Zeros.{large_pad, zero_test_pad, solved_pad}
use Rattle.roots.proofs.Tests.{Passed, equation_passed}

-- "zeros above it change nothing", neither an answer nor a refusal
module _ (p : ℕ) (cs : List ℕ) (n : ℕ) (some : 0 < length cs) (few : length (cs ++ replicate n 0) ≤ most_coefficients) where
  abbrev more : List ℕ
  more = cs ++ replicate n 0

  same_count : wrong_count most_coefficients (length more) ≡ wrong_count most_coefficients (length cs)
  same_count =
      let e = length-append cs (replicate n 0) in
      count_right most_coefficients (length more) (omega arith) few ∙ sym (count_right most_coefficients (length cs) some (omega arith))

  same_tests : equation_tests p more ≡ equation_tests p cs
  same_tests =
      ap (λ (b : Bool). polynomial_tests p ++ b ⇒ 3 ∷ any_too_large p more ⇒ 4 ∷ all_zero more ⇒ 5 ∷ []) same_count
      ∙ ap (λ (b : Bool). polynomial_tests p ++ wrong_count most_coefficients (length cs) ⇒ 3 ∷ b ⇒ 4 ∷ all_zero more ⇒ 5 ∷ []) (large_pad p cs n)
      ∙ ap (λ (b : Bool). polynomial_tests p ++ wrong_count most_coefficients (length cs) ⇒ 3 ∷ any_too_large p cs ⇒ 4 ∷ b ⇒ 5 ∷ []) (zero_test_pad cs n)

  pub zeros_above : solve_answer p more ≡ solve_answer p cs
  zeros_above =
      ap (λ (ts : List Test). answer_by (refusal ts) refused_answer (solved p more (roots_of (degree_of p) p more))) same_tests
      ∙ same_answer (refusal (equation_tests p cs)) refused_answer (solved p more (roots_of (degree_of p) p more)) (solved p cs (roots_of (degree_of p) p cs))
      (λ e. let P = equation_passed p cs e in solved_pad (degree_of p) p P.accepted.ready.field cs n P.nonzero)

module _ (p : ℕ) (cs : List ℕ) (z : refusal (equation_tests p cs) ≡ 0) where
  abbrev m : ℕ
  m = degree_of p

  abbrev rs : List ℕ
  rs = roots_of m p cs

  P : Passed p cs
  P = equation_passed p cs z

  F : Field m p
  F = P.accepted.ready.field

  -- the list holds the roots and nothing else, "ascending as numbers", each once
  pub holds_the_roots : (x : ℕ) → Member x rs ↔ Root m p cs x
  holds_the_roots x = roots_iff m p cs x

  pub in_order : Ascending rs
  in_order = roots_ascending m p cs

  pub each_once : Nodup rs
  each_once = ascending_nodup rs in_order

  -- "the multiplicity of r is the largest k with (x + r)^k dividing the polynomial"
  pub largest_multiplicity : (r : ℕ) → PowerDivides p r (multiplicity p r cs) cs × ((k : ℕ) → PowerDivides p r k cs → k ≤ multiplicity p r cs)
  largest_multiplicity r = (multiplicity-divides m p F r cs P.nonzero, λ k d. multiplicity_largest m p F r k cs d)

  -- it has a degree, and at most as many roots, counted with multiplicity or not
  pub its_degree : (d : ℕ) × IsDegree d cs
  its_degree = has_degree cs P.nonzero

  pub at_most_the_degree : (d : ℕ) → IsDegree d cs → sum_of (map (λ r. multiplicity p r cs) rs) ≤ d
  at_most_the_degree d D = total_at_most d cs D m p F P.small

  pub count_at_most : (d : ℕ) → IsDegree d cs → length rs ≤ d
  count_at_most d D = roots_at_most d cs D m p F P.small

  -- they fit their four places
  pub count_fits : length rs ≤ most_roots
  count_fits =
      let l = roots_few m p F cs P.small P.nonzero in
      let f = P.few in
      omega arith

  -- each root is an element, and its multiplicity at most 4
  pub root_element : (i : ℕ) → i < length rs → get_or rs i 0 < 2 ^ m
  root_element i l = ((holds_the_roots (get_or rs i 0)).0 (entry_member rs i l)).0

  pub multiplicity-fits : (i : ℕ) → get_or (map (λ r. multiplicity p r cs) rs) i 0 ≤ most_roots
  multiplicity-fits i =
      let d = its_degree in
      omega (arith, entry_sum (map (λ r. multiplicity p r cs) rs) i, at_most_the_degree d.0 d.1, d.1.within, P.few)
