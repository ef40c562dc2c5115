-- Marks of rows: each is a column, or the number of unknowns. Assumes nothing.
use Rattle.std.specs.Prelude.{List, ℕ, ◌<◌, get_or}
use Rattle.linear.specs.Limits.{places}

-- every mark is a place in the code's word
abbrev pub MarksFit : List ℕ → Type 0
MarksFit marks = (i : ℕ) → i < places → get_or marks i 0 < 32
