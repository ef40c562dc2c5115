-- `put_coefficients` meets its contract. Assumes nothing.
use Rattle.std.proofs.Common.{◌∙◌, arith}
use Rattle.algebra.proofs.Filled.{filled_put}
use Rattle.algebra.proofs.Places.{filled_padded}
use Rattle.frames.specs.Limits.{most_counted}
use Rattle.frames.specs.Frame.{coefficients_of}
use Rattle.frames.proofs.Digits.{digits_join}
use Rattle.frames.proofs.Coefficients.{coefficient_count, coefficient_is}
use Rattle.frames.proofs.inner.frame.put_coefficients.Goals as goal

pub loop-i-preserved : goal.loop-i-preserved
loop-i-preserved c =
    let l = c.loop-i in
    let w = c.requires in
    let read = c.in_ok-places.ensures in
    record {
      filled = filled_put _ _ _ l.i _ (omega arith) (read.0 ∙ coefficient_is _ l.i (omega arith)) l.invariant.filled;
      digits = digits_join _ _ _ _ _ _ l.invariant.digits read.1 (omega arith) (omega arith);
    }

pub returns : goal.returns
returns c =
    let l = c.loop-i in
    let line = c.args.line.now in
    let w = c.requires in (
      filled_padded most_counted (coefficients_of line) _ l.i (omega (arith, coefficient_count line)) (omega (arith, coefficient_count line)) l.invariant.filled,
      record { each = λ j h k. l.invariant.digits.each j h (omega arith) },
    )
