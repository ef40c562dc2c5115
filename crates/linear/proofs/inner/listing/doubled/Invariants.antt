-- `doubled` meets its contract. Assumes nothing.
use Rattle.linear.proofs.Doubling.{Doubled}
use Rattle.linear.proofs.inner.listing.doubled.Given as goal

abbrev pub invariant-loop-i : goal.invariant-loop-i
invariant-loop-i l = Doubled l.d l.size l.initial.list l.list l.i
