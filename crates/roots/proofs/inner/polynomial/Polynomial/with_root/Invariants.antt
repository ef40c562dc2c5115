-- `with_root` meets its contract: what is done, and what the coefficient below still goes into, make the whole. Assumes nothing.
use Rattle.roots.proofs.Division.{Raising}
use Rattle.roots.proofs.inner.polynomial.Polynomial.with_root.Given as goal

abbrev pub invariant-loop-c : goal.invariant-loop-c
invariant-loop-c l = Raising l.self.field.polynomial l.a l.initial.c-items l.c-items l.below l.c-index
