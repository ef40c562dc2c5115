-- `example_holds`: what the definitions say is written for the example's input is the example's output. Assumes nothing.
use mathlib.Core.Path.{◌≡◌, refl}
use Rattle.algebra.specs.Search.{first_from, first, some_below, every_below}
use Rattle.binary.specs.Xor.{◌⊕◌}
use Rattle.binary.specs.Fold.{fold, fold_f}
use Rattle.binary.specs.Times.{times, times_step}
use Rattle.binary.specs.Remainder.{top, top_step, reduce, remainder_step, remainder_by, remainder}
use Rattle.binary.specs.Product.{product}
use Rattle.binary.specs.Factor.{degree_of, factor_free}
use Rattle.galois.specs.Power.{power, squares}
use Rattle.galois.specs.Polynomial.{value, sums, without_root}
use Rattle.galois.specs.Roots.{is_root, roots_of}
use Rattle.galois.specs.Multiplicity.{multiplicity_up_to, multiplicity}
use Rattle.galois.specs.Affine.{linear_at, affine_at}
use Rattle.linear.specs.Directions.{smallest_at, in_front, directions_from}
use Rattle.linear.specs.Solution.{placed}
use Rattle.field.specs.Refusal.{out_of_range, has_factor, too_large, any_too_large, wrong_count}
use Rattle.affine.specs.Equation as affine
use Rattle.roots.specs.Calls.{all_zero}
use Rattle.frames.specs.Frame.{digit_value, byte_at, coefficients_of, another_character, another_kind, disagrees}
use Rattle.frames.specs.Text.{capital}
use Rattle.frames.specs.Answer.{answer_bytes, answer_text}
use Rattle.frames.specs.Stream.{answer_line, output}
use Rattle.table.specs.Example.{example_input, example_output}

pub example_holds : output example_input ≡ example_output
unfolding example_input example_output answer_line answer_text answer_bytes capital digit_value byte_at coefficients_of another_character another_kind disagrees wrong_count all_zero is_root roots_of value sums without_root multiplicity_up_to multiplicity affine.is_root affine.is_direction affine.base_of affine.directions_of placed smallest_at in_front directions_from linear_at affine_at out_of_range has_factor too_large any_too_large some_below degree_of factor_free every_below first first_from power squares product times times_step remainder remainder_by remainder_step reduce top top_step fold fold_f ◌⊕◌
example_holds = refl
