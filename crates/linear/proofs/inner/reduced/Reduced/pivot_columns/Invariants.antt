-- `pivot_columns` meets its contract. Assumes nothing.
use mathlib.Core.Path.{◌≡◌}
use Rattle.linear.specs.Reading.{pivot_columns}
use Rattle.linear.specs.Values.{state}
use Rattle.linear.proofs.inner.reduced.Reduced.pivot_columns.Given as goal

abbrev pub invariant-loop-mark : goal.invariant-loop-mark
invariant-loop-mark l = l.columns ≡ pivot_columns (state l.self) l.mark-index
