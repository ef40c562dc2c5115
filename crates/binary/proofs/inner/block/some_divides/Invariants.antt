-- `some_divides` meets its contract: each of the divisions goes on as `remainder` does. Assumes nothing.
use Rattle.std.proofs.Common.{◌≤◌}
use Rattle.binary.proofs.Block.{Beside}
use Rattle.binary.proofs.inner.block.some_divides.Given as goal

abbrev pub invariant-loop : goal.invariant-loop
invariant-loop l = (l.counter ≤ l.end) × Beside l.k l.fn.a l.raised l.rests l.counter
