-- `with_column` meets its contract. Assumes nothing.
use Prim.Native.Nat.{◌*◌, ◌^◌}
use lib.ListN.{get_or}
use Rattle.algebra.proofs.Filled.{Filled}
use Rattle.binary.specs.Xor.{◌⊕◌}
use Rattle.binary.specs.Bit.{bit}
use Rattle.linear.proofs.inner.system.with_column.Given as goal

abbrev pub invariant-loop-i : goal.invariant-loop-i
invariant-loop-i l = Filled (λ k. get_or l.initial.row-items k 0 ⊕ bit k l.column * 2 ^ l.j) l.initial.row-items l.row-items l.i
