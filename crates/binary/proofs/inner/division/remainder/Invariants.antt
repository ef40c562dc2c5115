-- `remainder` meets its contract: after each turn the rest is a number with a's remainder, one place higher. Assumes nothing.
use Rattle.std.proofs.Common.{◌≤◌}
use Rattle.binary.proofs.Aligned.{Aligned}
use Rattle.binary.proofs.inner.division.remainder.Given as goal

abbrev pub invariant-loop : goal.invariant-loop
invariant-loop l = (l.counter ≤ l.end) × Aligned l.fn.a l.d l.rest l.counter
