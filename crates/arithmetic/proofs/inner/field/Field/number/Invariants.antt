-- `number` meets its contract. Assumes nothing.
use Rattle.arithmetic.proofs.Number.{Tried}
use Rattle.arithmetic.proofs.inner.field.Field.number.Given as goal

abbrev pub invariant-loop-e : goal.invariant-loop-e
invariant-loop-e l = Tried l.self.degree l.self.polynomial l.a l.x l.e
