-- `has_zero` meets its contract: no rest seen so far is 0. Assumes nothing.
use Rattle.std.proofs.Common.{◌≡◌, ℕ, ◌<◌, false, eqb, get_or}
use Rattle.binary.proofs.inner.block.has_zero.Given as goal

abbrev pub invariant-loop-rest : goal.invariant-loop-rest
invariant-loop-rest l = (j : ℕ) → j < l.rest-index → eqb (get_or l.rest-items j 0) 0 ≡ false
