-- `space` meets its contract. Assumes nothing.
use Rattle.std.proofs.Common.{ap, refl, length, arith, length-take}
use Rattle.frames.specs.Answer.{direction_bytes}
use Rattle.frames.proofs.Writing.{up_to_length}
use Rattle.frames.proofs.inner.answer.space.Goals as goal

pub push_element-requires-in-loop-direction : goal.push_element-requires-in-loop-direction
push_element-requires-in-loop-direction c =
    let i = c.loop-direction.direction-index in
    omega (arith, ap length c.loop-direction.invariant, up_to_length (direction_bytes c.args.directions) 2 i (λ i. refl), length-take c.args.k c.args.directions)
