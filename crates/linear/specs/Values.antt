-- What the code's values stand for. Assumes nothing.
use Rattle.linear.specs.declared.inner.reduced.Reduced.{Reduced}
use Rattle.linear.specs.declared.inner.space.Space.{Space}
use Rattle.linear.specs.Elimination.{State}
use Rattle.linear.specs.Solution.{Solutions}

abbrev pub state : Reduced → State
state r = record { rows = r.rows; marks = r.marks }

abbrev pub solutions : Space → Solutions
solutions s = record { base = s.base; count = s.count; directions = s.directions }
