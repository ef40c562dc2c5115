-- `space` meets its contract. Assumes nothing.
use mathlib.Core.Path.{sym, ap, ◌∙◌, subst}
use Rattle.affine.specs.Equation.{Ready, solution_of}
use Rattle.roots.proofs.Folding.{folded_short, folded_long, folded_ready}
use Rattle.roots.proofs.inner.finding.space.Goals as goal

pub solution-requires : goal.solution-requires
solution-requires c =
    let a = c.args in
    let P = c.requires in
    subst (Ready a.field.degree a.field.polynomial) (folded_short a.field.degree a.c a.l0 a.l1 a.l2 c.if-field-eq-FOLDED.true)
    (folded_ready _ _ _ _ _ _ a.field.is_field P.0 P.1)

pub returns-then-field-eq-FOLDED : goal.returns-then-field-eq-FOLDED
returns-then-field-eq-FOLDED c =
    let a = c.args in
    c.solution.ensures
    ∙ sym (ap (solution_of a.field.polynomial) (folded_short a.field.degree a.c a.l0 a.l1 a.l2 c.if-field-eq-FOLDED.true))

pub returns-else-field-eq-FOLDED : goal.returns-else-field-eq-FOLDED
returns-else-field-eq-FOLDED c =
    let a = c.args in
    c.solution-else-field-eq-FOLDED.ensures
    ∙ sym (ap (solution_of a.field.polynomial) (folded_long a.field.degree a.c a.l0 a.l1 a.l2 c.if-field-eq-FOLDED.false))
