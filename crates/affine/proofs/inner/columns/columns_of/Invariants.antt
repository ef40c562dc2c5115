-- `columns_of` meets its contract. Assumes nothing.
use Rattle.affine.proofs.Terms.{SomeTerms}
use Rattle.affine.proofs.inner.columns.columns_of.Given as goal

abbrev pub invariant-loop-i : goal.invariant-loop-i
invariant-loop-i l = SomeTerms l.field.degree l.field.polynomial l.linear l.columns l.step l.i
