-- `put_line` meets its contract: what is copied is the answer's text. Assumes nothing.
use Rattle.std.specs.Prelude.{replicate}
use Rattle.frames.specs.Limits.{answer_room}
use Rattle.frames.specs.Answer.{answer_text}
use Rattle.firmware.proofs.Texts.{front_copied, text_copied}
use Rattle.firmware.proofs.lines.put_line.Goals as goal

pub returns-clause-answer_after : goal.returns-clause-answer_after
returns-clause-answer_after c =
    let a = c.args in
    let text = c.answer_line-n.ensures in
    let written = front_copied _ (answer_text a.line.now) (replicate answer_room 0) _ text.value text.out_after text.counts.0 a.answer.now _ c.copy_from_slice.ensures.after in
    text_copied _ (answer_text a.line.now) (replicate answer_room 0) _ text.value text.out_after text.counts.0 _ _ written
