-- `column` meets its contract. Assumes nothing.
use mathlib.Core.Path.{◌≡◌}
use lib.ListN.{length}
use Rattle.linear.specs.Reading.{column}
use Rattle.linear.specs.Values.{state}
use Rattle.linear.proofs.inner.reduced.Reduced.column.Given as goal

abbrev pub invariant-loop-row : goal.invariant-loop-row
invariant-loop-row l = l.sum ≡ column (state l.self) l.f (length l.yielded)
