-- `place` meets its contract: what is added, and what the rest of n still chooses, make the whole. Assumes nothing.
use native.Mathlib.Omega.{arith}
use Rattle.linear.proofs.Choose.{choose_next, choose_done}
use Rattle.linear.proofs.inner.space.Space.place.Goals as goal

pub loop-direction-preserved : goal.loop-direction-preserved
loop-direction-preserved c =
    let l = c.loop-direction in
    choose_next _ l.direction-index _ _ _ _ (omega arith) c.picked-sum.ensures l.invariant

pub returns : goal.returns
returns c =
    let l = c.loop-direction in
    choose_done _ l.direction-index _ _ _ (omega arith) l.invariant
