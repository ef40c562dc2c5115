-- No call is turned down by 0, so that 0 says that it was done: one line for each. Assumes nothing.
use mathlib.Core.Bool.{Bool, true, false, ◌&&◌, ◌||◌}
use mathlib.Core.List.{List, [], ◌∷◌, ◌++◌}
use Prim.Native.Nat.{ℕ, zero, suc, ◌-◌, ◌^◌}
use native.Mathlib.Omega.{arith}
use lib.Dec.{eqb, leb, ltb}
use lib.IntN.{ℤ, pos}
use lib.Signed.{lt_z}
use lib.ListN.{length}
use Rattle.algebra.specs.Search.{some_below}
use Rattle.binary.specs.Xor.{◌⊕◌}
use Rattle.binary.specs.Product.{product}
use Rattle.binary.specs.Factor.{degree_of}
use Rattle.galois.specs.Power.{power}
use Rattle.galois.specs.Trace.{trace}
use Rattle.galois.specs.Roots.{roots_of}
use Rattle.arithmetic.specs.Quotient.{quotient_of}
use Rattle.arithmetic.specs.Power.{power_of}
use Rattle.arithmetic.specs.Number.{number_of, element_of}
use Rattle.field.specs.Limits.{smallest_degree, largest_degree}
use Rattle.field.specs.Refusal.{Test, ◌⇒◌, refusal, Outcome, turned_down, gives, answer_by, outcome, polynomial_tests, element_tests, elements_tests}
use Rattle.field.specs.House.{house_entry}
use Rattle.field.specs.Calls.{accept_outcome, sum_outcome, product_outcome, quotient_outcome, power_outcome, square_root_outcome, trace_outcome, number_outcome, element_outcome, power_of_x_outcome, house_outcome}
use Rattle.affine.specs.Equation.{is_root, all_roots, base_of, directions_of, root_at}
use Rattle.affine.specs.Calls.{place_outcome, listing_tests, listing_outcome}
use Rattle.affine.specs.Calls as affine
use Rattle.roots.specs.Calls as roots
use Rattle.firmware.specs.Lent.{Refuses}

-- what a call answers by its first number, that of a test or 0
by : {A B : Type 0} (says : A → Outcome B) (refused : ℕ → A) (v : A) (n : ℕ) → ((k : ℕ) → Refuses (says (refused (suc k)))) → Refuses (says v)
    → Refuses (says (answer_by n refused v))
by says refused v zero r g = g
by says refused v (suc k) r g = r k

outcome_refuses : {A : Type 0} (ts : List Test) (v : A) → Refuses (outcome ts v)
outcome_refuses {A} ts v = by (λ (o : Outcome A). o) turned_down (gives v) (refusal ts) (λ k e. omega (arith, e)) tt

pub accept_refuses : (p : ℕ) → Refuses (accept_outcome p)
accept_refuses p = outcome_refuses (polynomial_tests p) (degree_of p)

pub house_refuses : (d : ℕ) → Refuses (house_outcome d)
house_refuses d = outcome_refuses ((ltb d smallest_degree || ltb largest_degree d) ⇒ 1 ∷ []) (house_entry d)

pub sum_refuses : (p a b : ℕ) → Refuses (sum_outcome p a b)
sum_refuses p a b = outcome_refuses (elements_tests p a b) (a ⊕ b)

pub product_refuses : (p a b : ℕ) → Refuses (product_outcome p a b)
product_refuses p a b = outcome_refuses (elements_tests p a b) (product p a b)

pub quotient_refuses : (p a b : ℕ) → Refuses (quotient_outcome p a b)
quotient_refuses p a b = outcome_refuses (elements_tests p a b ++ eqb b 0 ⇒ 6 ∷ []) (quotient_of (degree_of p) p a b)

pub power_refuses : (p a : ℕ) (e : ℤ) → Refuses (power_outcome p a e)
power_refuses p a e = outcome_refuses (element_tests p a ++ (eqb a 0 && lt_z e (pos 0)) ⇒ 6 ∷ []) (power_of (degree_of p) p a e)

pub root_refuses : (p b : ℕ) → Refuses (square_root_outcome p b)
root_refuses p b = outcome_refuses (element_tests p b) (power p b (2 ^ (degree_of p - 1)))

pub trace_refuses : (p c : ℕ) → Refuses (trace_outcome p c)
trace_refuses p c = outcome_refuses (element_tests p c) (trace (degree_of p) p c)

pub number_refuses : (p a : ℕ) → Refuses (number_outcome p a)
number_refuses p a = outcome_refuses (element_tests p a) (number_of (degree_of p) p a)

pub element_refuses : (p n : ℕ) → Refuses (element_outcome p n)
element_refuses p n = outcome_refuses (element_tests p n) (element_of p n)

pub power_of_x_refuses : (p : ℕ) (e : ℤ) → Refuses (power_of_x_outcome p e)
power_of_x_refuses p e = outcome_refuses (polynomial_tests p) (power_of (degree_of p) p 2 e)

pub place_refuses : (p : ℕ) (cs : List ℕ) (n : ℕ) → Refuses (place_outcome p cs n)
place_refuses p cs n = outcome_refuses (affine.equation_tests p cs ++ leb (length (all_roots (degree_of p) p cs)) n ⇒ 7 ∷ []) (root_at (degree_of p) p cs n)

pub listing_refuses : (p : ℕ) (cs : List ℕ) (room : ℕ) → Refuses (listing_outcome p cs room)
listing_refuses p cs room = outcome_refuses (listing_tests p cs room) (length (all_roots (degree_of p) p cs))

pub solve_refuses : (p : ℕ) (cs : List ℕ) → Refuses (roots.solve_answer p cs).says
solve_refuses p cs = by (λ (a : roots.Answer). a.says) roots.refused_answer (roots.solved p cs (roots_of (degree_of p) p cs)) (refusal (roots.equation_tests p cs)) (λ k e. omega (arith, e)) tt

pub build_refuses : (p : ℕ) (rs : List ℕ) → Refuses (roots.build_answer p rs).says
build_refuses p rs = by (λ (a : roots.Built). a.says) roots.refused_built (roots.built p rs) (refusal (roots.build_tests p rs)) (λ k e. omega (arith, e)) tt

pub affine_refuses : (p : ℕ) (cs : List ℕ) → Refuses (affine.solve_answer p cs).says
affine_refuses p cs =
    let m = degree_of p in
    let found = some_below (is_root p cs) (2 ^ m) in
    by (λ (a : affine.Answer). a.says) affine.refused_answer (affine.solution found (base_of m p cs) (directions_of m p cs)) (refusal (affine.equation_tests p cs)) (λ k e. omega (arith, e))
    (solved found)
  where
    solved : (b : Bool) → Refuses (affine.solution b (base_of (degree_of p) p cs) (directions_of (degree_of p) p cs)).says
    solved true = tt
    solved false = tt
