-- `raised` meets its contract. Assumes nothing.
use Rattle.std.proofs.Common.{◌≡◌, ℕ, ◌<◌, ◌^◌}
use Rattle.binary.specs.Product.{product}
use Rattle.galois.specs.Power.{power}
use Rattle.arithmetic.proofs.inner.field.Field.raised.Given as goal

-- the result so far, times what is left of the power, is the whole
pub record Raised (m p w result base left : ℕ) : Type 0 where
  pub done : result < 2 ^ m
  pub small : base < 2 ^ m
  pub whole : product p result (power p base left) ≡ w

abbrev pub invariant-loop-left : goal.invariant-loop-left
invariant-loop-left l = Raised l.self.degree l.self.polynomial (power l.self.polynomial l.a l.n) l.so_far l.base l.left

abbrev pub decreases-loop-left : goal.decreases-loop-left
decreases-loop-left l = l.left
