-- `place` meets its contract: what is added, and what the rest of n still chooses, make the whole. Assumes nothing.
use mathlib.Core.Path.{◌≡◌}
use lib.ListN.{drop}
use Rattle.binary.specs.Xor.{◌⊕◌}
use Rattle.linear.specs.Directions.{choose}
use Rattle.linear.proofs.inner.space.Space.place.Given as goal

abbrev pub invariant-loop-direction : goal.invariant-loop-direction
invariant-loop-direction l = l.sum ⊕ choose (drop l.direction-index l.self.directions) l.rest ≡ l.initial.sum ⊕ choose l.self.directions l.initial.rest
