-- `degree` meets its contract: from place i on every coefficient is 0. Assumes nothing.
use Rattle.std.proofs.Common.{arith}
use Rattle.roots.proofs.Highest.{above_end}
use Rattle.roots.proofs.inner.polynomial.Polynomial.degree.Goals as goal

pub returns : goal.returns
returns c = above_end _ _ (omega arith) c.requires c.loop-i.invariant.1
