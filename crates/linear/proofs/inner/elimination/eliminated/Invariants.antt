-- `eliminated` meets its contract: the search yields the definition's pivot, and each column is the definition's step. Assumes nothing.
use Prim.Native.Nat.{◌-◌}
use Rattle.algebra.proofs.Seeking.{Seeking}
use Rattle.linear.specs.Limits.{places}
use Rattle.linear.proofs.Columns.{may_pivot, Columns}
use Rattle.linear.proofs.inner.elimination.eliminated.Given as goal

abbrev pub invariant-loop-i : goal.invariant-loop-i
invariant-loop-i l = Seeking (may_pivot l.m l.k l.a l.marks) places l.i

abbrev pub decreases-loop-i : goal.decreases-loop-i
decreases-loop-i l = places - l.i

abbrev pub invariant-loop-k : goal.invariant-loop-k
invariant-loop-k l = Columns l.m l.initial.a l.a l.marks l.k
