-- A function by recursion on a number's binary digits: `fold f a` is `f a (fold f (a / 2))`, and 0 at 0 (`fold_step` of proofs/).
-- Assumes nothing.
use Rattle.std.specs.Prelude.{ℕ, zero, suc, ◌/◌}

-- n halvings at most
unfoldable pub fold_f : (ℕ → ℕ → ℕ) → ℕ → ℕ → ℕ
fold_f f zero a = 0
fold_f f (suc n) zero = 0
fold_f f (suc n) (suc a) = f (suc a) (fold_f f n (suc a / 2))

-- a halvings are enough for a
unfoldable pub fold : (ℕ → ℕ → ℕ) → ℕ → ℕ
fold f a = fold_f f a a
