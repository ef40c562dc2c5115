-- What a loop keeps (`loop_keeps`), and one turn more (`loop_more`). Assumes nothing.
use mathlib.Core.Path.{◌≡◌}
use Prim.Native.Nat.{ℕ, zero, suc, ◌+◌, ◌<◌}
use native.Mathlib.Omega.{arith}
use Rattle.algebra.specs.Loop.{loop}

module _ {S : Type 0} (f : ℕ → S → S) where
  pub loop_keeps : (P : ℕ → S → Type 0) (n : ℕ) (s : S) → P 0 s → ((i : ℕ) → i < n → (t : S) → P i t → P (suc i) (f i t)) → P n (loop f n s)
  unfolding loop
  loop_keeps P zero s b h = b
  loop_keeps P (suc n) s b h = h n (omega arith) (loop f n s) (loop_keeps P n s b (λ i l. h i (omega arith)))

  pub loop_more : (i : ℕ) (s : S) → f i (loop f i s) ≡ loop f (i + 1) s
  unfolding loop
  loop_more i s = let q : i + 1 ≡ suc i = omega arith in rw q
