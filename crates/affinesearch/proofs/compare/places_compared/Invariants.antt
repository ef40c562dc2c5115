-- `places_compared` is safe: the places that are left run out. Assumes nothing.
use Rattle.std.proofs.Common.{◌+◌, ◌≤◌}
use Rattle.affinesearch.proofs.compare.places_compared.Given as goal

abbrev pub invariant-loop-n : goal.invariant-loop-n
invariant-loop-n l = (l.left ≤ l.count) × (l.compared + l.left ≤ l.count + 2)

abbrev pub decreases-loop-n : goal.decreases-loop-n
decreases-loop-n l = l.left
