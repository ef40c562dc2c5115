-- `quotient` meets its contract. Assumes nothing.
use Rattle.std.proofs.Common.{arith}
use Rattle.field.proofs.Answered.{elements_in}
use Rattle.field.proofs.quotient.Goals as goal

pub quotient-requires : goal.quotient-requires
quotient-requires c =
    let a = c.args in
    let q = elements_in a.p c.in_ok-field.field a.a.0 a.b.0 c.in_ok-field.ensures in
    (q.0, omega (arith, c.if-b-eq0.false), q.1)
