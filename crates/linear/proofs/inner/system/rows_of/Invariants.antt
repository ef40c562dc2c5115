-- `rows_of` meets its contract: the columns are joined one after another. Assumes nothing.
use mathlib.Core.Path.{◌≡◌}
use Prim.Native.Nat.{ℕ}
use lib.ListN.{get_or}
use Rattle.linear.proofs.Matrix.{columns_done}
use Rattle.linear.proofs.inner.system.rows_of.Given as goal

abbrev pub invariant-loop-j : goal.invariant-loop-j
invariant-loop-j l = l.rows ≡ columns_done (λ (k : ℕ). get_or l.fn.columns k 0) l.j
