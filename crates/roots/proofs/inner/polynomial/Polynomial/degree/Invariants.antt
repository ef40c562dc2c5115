-- `degree` meets its contract: from place i on every coefficient is 0. Assumes nothing.
use Rattle.std.proofs.Common.{◌-◌, ◌≤◌}
use Rattle.roots.proofs.Highest.{Above}
use Rattle.roots.proofs.inner.polynomial.Polynomial.degree.Given as goal

abbrev pub invariant-loop-i : goal.invariant-loop-i
invariant-loop-i l = (1 ≤ l.i) × Above l.self.coefficients (l.i - 1)
