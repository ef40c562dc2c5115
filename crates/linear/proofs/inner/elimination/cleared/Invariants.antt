-- `cleared` meets its contract: the loop adds the pivot row to every row that holds the column, itself too, and then it is put back.
-- Assumes nothing.
use lib.ListN.{get_or}
use Rattle.algebra.proofs.Filled.{Filled}
use Rattle.linear.proofs.Clear.{plus}
use Rattle.linear.proofs.inner.elimination.cleared.Given as goal

abbrev pub invariant-loop-row : goal.invariant-loop-row
invariant-loop-row l = Filled (λ j. plus l.k l.pivot (get_or l.initial.row-items j 0)) l.initial.row-items l.row-items l.row-index
