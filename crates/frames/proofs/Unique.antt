-- Any two answers that a promise permits are the same one. `answer_line` and `last_answer` answer a number, and the promise says which;
-- `one_progress` and `one_line` are for `next_answer`, whose promise says each part, of what it answers and of the line. Assumes nothing.
use mathlib.Core.Path.{◌≡◌}
use Rattle.frames.specs.declared.OpenLine.{OpenLine}
use Rattle.frames.specs.declared.Progress.{Progress}

pub one_progress : (a b : Progress) → a.taken ≡ b.taken → a.written ≡ b.written → a ≡ b
one_progress a b e f = λ i. record { taken = e i; written = f i }

pub one_line : (a b : OpenLine) → a.length ≡ b.length → a.bytes ≡ b.bytes → a ≡ b
one_line a b e f = λ i. record { length = e i; bytes = f i }
