-- The coefficients of a line: how many (`coefficient_count`), and each (`coefficient_is`); a line that no test turns down is well formed
-- (`is_well_formed`). Assumes nothing.
use mathlib.Core.Path.{◌≡◌, sym, ap, ◌∙◌}
use mathlib.Core.Logic.{◌≢◌}
use mathlib.Core.List.{List}
use Prim.Native.Nat.{ℕ, ◌+◌, ◌*◌, ◌/◌, ◌%◌, ◌<◌}
use native.Mathlib.Nat.{zero-add}
use native.Mathlib.Omega.{arith}
use borrow.Author.Tests.{eqb-true, eqb-false, ltb-false, not-false}
use lib.ListN.{length, get_or, length-map}
use Rattle.algebra.specs.Lists.{count_up}
use Rattle.algebra.proofs.CountUp.{count_up-length, map-count_up}
use Rattle.field.specs.Refusal.{refusal}
use Rattle.field.proofs.Tests.{passes}
use Rattle.frames.specs.Frame.{count_of, coefficient_at, coefficients_of, disagrees, line_tests, WellFormed}

pub coefficient_count : (l : List ℕ) → length (coefficients_of l) ≡ count_of l
unfolding coefficients_of
coefficient_count l = length-map (count_up 0 (count_of l)) (coefficient_at l) ∙ count_up-length 0 (count_of l)

pub coefficient_is : (l : List ℕ) (i : ℕ) → i < count_of l → coefficient_at l i ≡ get_or (coefficients_of l) i 0
unfolding coefficients_of
coefficient_is l i h = sym (map-count_up (coefficient_at l) 0 (count_of l) i 0 h ∙ ap (coefficient_at l) (zero-add i))

pub is_well_formed : (l : List ℕ) → refusal (line_tests l) ≡ 0 → WellFormed l
unfolding disagrees
is_well_formed l e =
    let w = passes (line_tests l) tt e in
    let even : length l % 2 ≢ 1 = eqb-false _ _ w.0 in
    let long : length l / 2 ≡ 5 + 2 * count_of l = eqb-true _ _ (not-false _ w.1.1.1.1.0) in
    record { short = ltb-false _ _ w.1.1.1.1.1.1.0; agrees = omega arith }
