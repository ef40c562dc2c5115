-- `divided` meets its contract: from place i on the values are those of the polynomial's tails. Assumes nothing.
use Rattle.roots.proofs.Division.{Dividing}
use Rattle.roots.proofs.inner.polynomial.Polynomial.divided.Given as goal

abbrev pub invariant-loop-i : goal.invariant-loop-i
invariant-loop-i l = Dividing l.self.field.polynomial l.r l.f l.sums l.i
