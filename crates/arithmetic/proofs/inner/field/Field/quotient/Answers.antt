-- `quotient` meets its contract. Assumes nothing.
use Rattle.std.proofs.Common.{◌∙◌}
use Rattle.arithmetic.proofs.Quotient.{quotient_by}
use Rattle.arithmetic.proofs.inner.field.Field.quotient.Goals as goal

pub returns : goal.returns
returns c =
    let a = c.args in
    let q = c.requires in
    c.product.ensures ∙ quotient_by a.self.degree a.self.polynomial a.self.is_field.field a.a a.b c.inverse.result q.0 q.1 q.2 c.inverse.ensures.0
