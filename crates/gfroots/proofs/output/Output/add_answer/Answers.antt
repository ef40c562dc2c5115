-- `add_answer` meets its contract: what stands after the characters that wait is the answer. Assumes nothing.
use Rattle.std.proofs.Common.{◌+◌, ℕ, List, ap, ap₂, ◌∙◌, length, arith}
use Rattle.std.proofs.lemmas.List.Edits.{sets}
use Rattle.frames.proofs.Keeping.{set_between}
use Rattle.gfroots.specs.Output.{next_place}
use Rattle.gfroots.proofs.output.Output.add_answer.Goals as goal

pub returns-clause-buffer_after : goal.returns-clause-buffer_after
returns-clause-buffer_after c =
    let s = c.args.self.now in
    let room = c.make_room-room in
    let copied = c.copy_from_slice in
    let place = room.new.self.waiting in
    let written = set_between room.new.self.buffer copied.new.self place (place + length c.args.text.now) (omega (arith, copied.ensures.len)) (omega arith) in
    written
    ∙ ap₂ (λ (b : List ℕ) (i : ℕ). sets b i copied.new.self) room.ensures.buffer_kept room.ensures.waiting_value
    ∙ ap (sets s.buffer (next_place s.waiting)) copied.ensures.after
