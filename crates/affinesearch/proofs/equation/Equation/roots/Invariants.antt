-- `roots` is safe: there are no more roots than elements tried. Assumes nothing.
use Rattle.std.proofs.Common.{◌≤◌, length}
use Rattle.affinesearch.proofs.equation.Equation.roots.Given as goal

abbrev pub invariant-loop-x : goal.invariant-loop-x
invariant-loop-x l = length l.list.items ≤ l.x
