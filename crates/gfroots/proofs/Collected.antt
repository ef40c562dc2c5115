-- Where an answer is put: after what waits (`keeps_place`), or at the front (`from_front`). Assumes nothing.
use mathlib.Core.Path.{◌≡◌, refl}
use Prim.Native.Nat.{ℕ, ◌+◌, ◌≤◌, ◌<◌}
use borrow.Author.Tests.{le-leb, lt-leb}
use Rattle.frames.specs.Limits.{answer_room}
use Rattle.gfroots.specs.Output.{output_room, next_place}

pub keeps_place : (w : ℕ) → w + answer_room ≤ output_room → w ≡ next_place w
keeps_place w h = rw (next_place, le-leb (w + answer_room) output_room h) refl

pub from_front : (w : ℕ) → output_room < w + answer_room → 0 ≡ next_place w
from_front w h = rw (next_place, lt-leb (w + answer_room) output_room h) refl
