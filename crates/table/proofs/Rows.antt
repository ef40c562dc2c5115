-- `starred_rows_hold`: the starred rows, fourteen of them (`fourteen_rows`), hold of the definitions, all by one computation. Assumes nothing.
use mathlib.Core.Path.{◌≡◌, refl}
use mathlib.Core.List.{map}
use lib.ListN.{length}
use Rattle.algebra.specs.Search.{first_from, first, some_below, every_below}
use Rattle.binary.specs.Xor.{◌⊕◌}
use Rattle.binary.specs.Fold.{fold, fold_f}
use Rattle.binary.specs.Times.{times, times_step}
use Rattle.binary.specs.Remainder.{top, top_step, reduce, remainder_step, remainder_by, remainder}
use Rattle.binary.specs.Product.{product}
use Rattle.binary.specs.Factor.{degree_of, factor_free}
use Rattle.galois.specs.Power.{power, squares}
use Rattle.galois.specs.Trace.{part_trace}
use Rattle.galois.specs.Polynomial.{value, sums, without_root}
use Rattle.galois.specs.Roots.{is_root, roots_of}
use Rattle.galois.specs.Multiplicity.{multiplicity_up_to, multiplicity}
use Rattle.galois.specs.Affine.{linear_at, affine_at}
use Rattle.linear.specs.Directions.{smallest_at, in_front, directions_from}
use Rattle.linear.specs.Solution.{placed}
use Rattle.arithmetic.specs.Quotient.{quotient_of}
use Rattle.arithmetic.specs.Power.{power_of}
use Rattle.arithmetic.specs.Number.{numbered, number_of}
use Rattle.field.specs.Refusal.{out_of_range, has_factor, too_large, any_too_large, wrong_count}
use Rattle.affine.specs.Equation as affine
use Rattle.roots.specs.Calls.{all_zero}
use Rattle.table.specs.Rows.{answer_of, starred_rows}

pub fourteen_rows : length starred_rows ≡ 14
unfolding starred_rows
fourteen_rows = refl

pub starred_rows_hold : map (λ r. answer_of r.call) starred_rows ≡ map (λ r. r.result) starred_rows
unfolding starred_rows wrong_count all_zero is_root roots_of value sums without_root multiplicity_up_to multiplicity affine.is_root affine.is_direction affine.base_of affine.directions_of placed smallest_at in_front directions_from linear_at affine_at out_of_range has_factor too_large any_too_large some_below degree_of factor_free every_below first first_from quotient_of power_of number_of numbered power squares part_trace product times times_step remainder remainder_by remainder_step reduce top top_step fold fold_f ◌⊕◌
starred_rows_hold = refl
