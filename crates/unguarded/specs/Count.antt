-- How many roots an answer has. Assumes nothing.
use Rattle.std.specs.Prelude.{ℕ}
use Rattle.field.specs.Refusal.{Outcome, turned_down, gives}

abbrev pub count_of : Outcome ℕ → ℕ
count_of (turned_down n) = 0
count_of (gives k) = k
