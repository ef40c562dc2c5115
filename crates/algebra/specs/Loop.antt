-- A loop over 0 .. n - 1: the state after its turns. Assumes nothing.
use Rattle.std.specs.Prelude.{ℕ, zero, suc}

-- turn i takes the state s to f i s
unfoldable pub loop : {S : Type 0} → (ℕ → S → S) → ℕ → S → S
loop f zero s = s
loop f (suc n) s = f n (loop f n s)
