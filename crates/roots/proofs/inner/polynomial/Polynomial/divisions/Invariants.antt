-- `divisions` meets its contract: k divisions are done, and those still to come make up the multiplicity. Assumes nothing.
use Rattle.std.proofs.Common.{◌≡◌}
use Rattle.roots.proofs.Counting.{Counting}
use Rattle.roots.proofs.inner.polynomial.Polynomial.divisions.Given as goal

abbrev pub invariant-loop-k : goal.invariant-loop-k
invariant-loop-k l = (l.left.field ≡ l.fn.self.field) × Counting l.fn.self.field.polynomial l.r l.fn.self.coefficients l.left.coefficients l.k
