-- `solved` meets its contract: after the count stand the bytes of the first roots. Assumes nothing.
use Rattle.std.proofs.Common.{◌≡◌, ◌∷◌, length}
use Rattle.frames.specs.Text.{up_to}
use Rattle.frames.specs.Answer.{root_bytes}
use Rattle.frames.proofs.inner.answer.solved.Given as goal

abbrev pub invariant-loop-root : goal.invariant-loop-root
invariant-loop-root l = l.bytes ≡ 1 ∷ 0 ∷ l.count ∷ up_to (root_bytes l.fn.roots l.fn.multiplicities) (length l.yielded)
