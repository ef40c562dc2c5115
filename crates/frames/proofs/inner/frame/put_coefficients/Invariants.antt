-- `put_coefficients` meets its contract: the coefficients fill the places from the first on, and their characters are digits. Assumes
-- nothing.
use Rattle.std.proofs.Common.{◌+◌, ◌*◌, get_or}
use lib.ListN.{replicate}
use Rattle.algebra.proofs.Filled.{Filled}
use Rattle.frames.specs.Limits.{most_counted}
use Rattle.frames.specs.Frame.{coefficients_of}
use Rattle.frames.specs.Digits.{AreDigits}
use Rattle.frames.proofs.inner.frame.put_coefficients.Given as goal

abbrev pub invariant-loop-i : goal.invariant-loop-i
invariant-loop-i l = record {
  filled : Filled (λ j. get_or (coefficients_of l.line) j 0) (replicate most_counted 0) l.places l.i;
  digits : AreDigits l.line 10 (10 + 4 * l.i);
}
