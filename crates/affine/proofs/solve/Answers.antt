-- `solve` meets its contract. Assumes nothing.
use Rattle.linear.specs.Values.{solutions}
use Rattle.affine.proofs.Tests.{tested_ready}
use Rattle.affine.proofs.Answered.{solve_none, solve_some}
use Rattle.affine.proofs.solve.Goals as goal

pub solution-requires : goal.solution-requires
solution-requires c = tested_ready _ _ c.in_ok-field.field c.in_ok-field.ensures

pub returns-in-Some : goal.returns-in-Some
returns-in-Some c =
    rw (c.from.ensures.0, c.from.ensures.1, c.from.ensures.2)
    (solve_some _ _ c.in_ok-field.field c.in_ok-field.ensures (solutions c.in-Some.space) c.in-Some.ensures)

pub returns-in-None : goal.returns-in-None
returns-in-None c = solve_none _ _ c.in_ok-field.field c.in_ok-field.ensures c.in-None.ensures
