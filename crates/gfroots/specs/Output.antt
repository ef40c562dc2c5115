-- How the output is collected before it is handed on. Assumes nothing.
use Rattle.std.specs.Prelude.{true, false, ℕ, ◌+◌, leb}
use Rattle.frames.specs.Limits.{answer_room}

abbrev pub output_room : ℕ
output_room = 65536

-- where the next answer is put: after the characters that wait, or at the front, once these were handed on, where it may find no room there
abbrev pub next_place : ℕ → ℕ
next_place waiting = elim (leb (waiting + answer_room) output_room) [ true ↦ waiting | false ↦ 0 ]
