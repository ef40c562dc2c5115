-- `any_too_large` meets its contract: it looks at each coefficient until one is too large. Assumes nothing.
use Rattle.std.proofs.Common.{◌≡◌, ℕ, ◌<◌, false, get_or}
use Rattle.field.specs.Refusal.{too_large}
use Rattle.field.proofs.inner.refusal.any_too_large.Given as goal

abbrev pub invariant-loop-a : goal.invariant-loop-a
invariant-loop-a l = (j : ℕ) → j < l.a-index → too_large l.field.polynomial (get_or l.coefficients j 0) ≡ false
