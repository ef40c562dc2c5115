-- `space` meets its contract: after the base stand the first directions. Assumes nothing.
use Rattle.std.proofs.Common.{◌≡◌, ◌∷◌, ◌++◌}
use Rattle.frames.specs.Text.{element_bytes, up_to}
use Rattle.frames.specs.Answer.{direction_bytes, found_byte}
use Rattle.frames.proofs.inner.answer.space.Given as goal

abbrev pub invariant-loop-direction : goal.invariant-loop-direction
invariant-loop-direction l =
    l.bytes ≡ 2 ∷ 0 ∷ found_byte l.found ∷ l.k ∷ element_bytes l.base ++ up_to (direction_bytes l.fn.directions) l.direction-index
