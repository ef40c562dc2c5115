-- `with_term` meets its contract. Assumes nothing.
use Rattle.affine.proofs.Terms.{OneTerm}
use Rattle.affine.proofs.inner.columns.with_term.Given as goal

abbrev pub invariant-loop-column : goal.invariant-loop-column
invariant-loop-column l =
    OneTerm l.field.degree l.field.polynomial l.l l.step l.initial.column-items l.column-items l.t l.column-index
