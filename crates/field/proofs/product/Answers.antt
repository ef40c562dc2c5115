-- `product` meets its contract. Assumes nothing.
use Rattle.field.proofs.Answered.{elements_in}
use Rattle.field.proofs.product.Goals as goal

pub product-requires : goal.product-requires
product-requires c =
    let a = c.args in
    elements_in a.p c.in_ok-field.field a.a.0 a.b.0 c.in_ok-field.ensures
