-- `doubled` meets its contract. Assumes nothing.
use native.Mathlib.Omega.{arith}
use Rattle.linear.proofs.Doubling.{doubled_turn}
use Rattle.linear.proofs.inner.listing.doubled.Goals as goal

pub loop-i-preserved : goal.loop-i-preserved
loop-i-preserved c = doubled_turn c.loop-i.invariant (omega arith) (omega arith)
