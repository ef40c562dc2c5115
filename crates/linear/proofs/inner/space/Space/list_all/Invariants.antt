-- `list_all` meets its contract. Assumes nothing.
use Rattle.linear.proofs.Doubling.{Listing}
use Rattle.linear.proofs.inner.space.Space.list_all.Given as goal

abbrev pub invariant-loop-direction : goal.invariant-loop-direction
invariant-loop-direction l = Listing l.self.base l.self.directions l.self.count l.initial.list l.list l.size l.direction-index
