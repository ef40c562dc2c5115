-- `put_text` meets its contract: the text of the first i bytes stands at the front. Assumes nothing.
use Rattle.std.proofs.Common.{◌≡◌, take}
use Rattle.frames.specs.Text.{put_bytes}
use Rattle.frames.proofs.inner.text.AnswerBytes.put_text.Given as goal

abbrev pub invariant-loop-i : goal.invariant-loop-i
invariant-loop-i l = l.out ≡ put_bytes l.initial.out 0 (take l.i l.self-inside.values)
