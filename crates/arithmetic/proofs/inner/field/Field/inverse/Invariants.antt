-- `inverse` meets its contract. Assumes nothing.
use Rattle.std.proofs.Common.{◌+◌}
use Rattle.arithmetic.proofs.Steps.{Head}
use Rattle.arithmetic.proofs.inner.field.Field.inverse.Given as goal

abbrev pub invariant-loop-u : goal.invariant-loop-u
invariant-loop-u l = Head l.fn.self.degree l.fn.self.polynomial l.a l.u l.v l.g l.h

abbrev pub decreases-loop-u : goal.decreases-loop-u
decreases-loop-u l = l.u + l.v
