-- `factor_free` meets its contract: no divisor tried so far divides p. Assumes nothing.
use Rattle.std.proofs.Common.{◌≡◌, ℕ, ◌+◌, ◌-◌, ◌/◌, ◌^◌, ◌<◌, ◌≤◌, ◌≢◌}
use Rattle.binary.specs.Remainder.{remainder}
use Rattle.binary.proofs.inner.modulo.Modulus.factor_free.Given as goal

-- the divisors from `first` on are next
pub record Tried (m p limit first : ℕ) : Type 0 where
  pub limit_is : limit ≡ 2 ^ (m / 2 + 1)
  pub none : (j : ℕ) → j < first → 2 ≤ j → j < limit → remainder p j ≢ 0

abbrev pub invariant-loop-candidates : goal.invariant-loop-candidates
invariant-loop-candidates l = Tried l.self.degree l.self.polynomial l.limit l.candidates.first

abbrev pub decreases-loop-candidates : goal.decreases-loop-candidates
decreases-loop-candidates l = l.limit - l.candidates.first
