-- `read` meets its contract: the directions gathered are the definition's. Assumes nothing.
use Rattle.linear.specs.Values.{state}
use Rattle.linear.proofs.Gathered.{Gathered}
use Rattle.linear.proofs.inner.reduced.Reduced.solutions.Given as goal

abbrev pub invariant-loop-t : goal.invariant-loop-t
invariant-loop-t l = Gathered (state l.self) l.self.unknowns l.t l.directions l.count
