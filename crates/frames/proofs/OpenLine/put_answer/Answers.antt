-- `put_answer` meets its contract. Assumes nothing.
use Rattle.std.proofs.Common.{refl, arith}
use Rattle.frames.specs.Answer.{answer_bytes, answer_text}
use Rattle.frames.specs.Stream.{line_feed, held, answer_line}
use Rattle.frames.proofs.Writing.{text-length, put_last}
use Rattle.frames.proofs.Fitting.{line_length}
use Rattle.frames.proofs.OpenLine.put_answer.Goals as goal

pub returns-clause-value : goal.returns-clause-value
unfolding answer_text
returns-clause-value c =
    let l = held c.args.self.now.length c.args.self.now.bytes in
    omega (arith, c.put_text-end.ensures.value, line_length l _ refl, text-length (answer_bytes l))

pub returns-clause-out_after : goal.returns-clause-out_after
unfolding answer_line
returns-clause-out_after c =
    let e = c.put_text-end.ensures in
    put_last _ _ _ line_feed e.value e.out_after
