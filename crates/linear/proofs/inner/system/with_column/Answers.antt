-- `with_column` meets its contract. Assumes nothing.
use mathlib.Core.Path.{ap₂, ◌∙◌}
use Prim.Native.Nat.{◌*◌}
use native.Mathlib.Omega.{arith}
use borrow.Author.Rules.{rules}
use Rattle.binary.proofs.Bit.{bit_lt}
use Rattle.linear.proofs.Matrix.{with_column-turn, with_column_end}
use Rattle.linear.proofs.inner.system.with_column.Goals as goal

pub picked-requires : goal.picked-requires
picked-requires c = rw c.bit.ensures (bit_lt _ _)

pub loop-i-preserved : goal.loop-i-preserved
loop-i-preserved c =
    let l = c.loop-i in
    with_column-turn _ _ _ l.row-items l.i l.invariant c.picked.result (omega arith)
    (c.picked.ensures ∙ ap₂ ◌*◌ c.bit.ensures c.power_of_two-power.ensures)

pub returns : goal.returns
returns c = with_column_end _ _ _ _ c.loop-i.i c.loop-i.invariant (search rules) (omega arith)
