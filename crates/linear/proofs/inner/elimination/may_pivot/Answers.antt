-- `may_pivot` meets its contract. Assumes nothing.
use mathlib.Core.Path.{ap}
use Prim.Native.Nat.{ℕ}
use lib.Dec.{eqb}
use borrow.Author.Tests.{eq-eqb, ne_eqb}
use Rattle.linear.specs.Elimination.{candidate}
use Rattle.linear.proofs.inner.elimination.may_pivot.Goals as goal

pub returns-then-mark-m : goal.returns-then-mark-m
unfolding candidate
returns-then-mark-m c = rw (eq-eqb _ _ c.if-mark-m.true) (ap (λ (x : ℕ). eqb x 1) c.bit.ensures)

pub returns-else-mark-m : goal.returns-else-mark-m
unfolding candidate
returns-else-mark-m c = rw (ne_eqb _ _ c.if-mark-m.false)
