-- `cleared` meets its contract: the loop adds the pivot row to every row that holds the column, itself too, and then it is put back.
-- Assumes nothing.
use native.Mathlib.Omega.{arith}
use Rattle.linear.proofs.Clear.{clear_end}
use Rattle.linear.proofs.inner.elimination.cleared.Goals as goal

pub returns : goal.returns
returns c = clear_end _ _ _ _ c.loop-row.row-index (omega arith) c.loop-row.invariant
