-- `solution` meets its contract. Assumes nothing.
use mathlib.Core.Path.{sym, ap, ◌∙◌}
use Prim.Native.Nat.{ℕ}
use Rattle.linear.specs.Solution.{solution_by}
use Rattle.affine.specs.Equation.{is_root, is_direction, solution_of}
use Rattle.binary.proofs.Factor.{degree_is}
use Rattle.affine.proofs.Tests.{part_is}
use Rattle.affine.proofs.Matrix.{matrix_solution}
use Rattle.affine.proofs.inner.equation.solution.Goals as goal

pub returns : goal.returns
unfolding solution_of
returns c =
    let f = c.args.field in
    let cs = c.args.coefficients.now in
    let R = c.requires in
    let k = rw (part_is _ f.polynomial cs R) at c.columns_of-columns.ensures in
    c.solved.ensures
    ∙ matrix_solution _ f.polynomial f.is_field.field cs R.largest R.small c.columns_of-columns.result _ k c.rows_of-rows.ensures
    ∙ ap (λ (m : ℕ). solution_by m (is_root f.polynomial cs) (is_direction f.polynomial cs)) (sym (degree_is _ _ f.is_field.modulus.degree))
