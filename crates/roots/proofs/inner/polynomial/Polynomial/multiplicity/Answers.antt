-- `multiplicity` meets its contract. Assumes nothing.
use borrow.Author.Rules.{rules}
use Rattle.galois.proofs.Power.{mul_lt}
use Rattle.roots.proofs.Derivative.{simple_root}
use Rattle.roots.proofs.Equations.{coeffs}
use Rattle.roots.proofs.inner.polynomial.Polynomial.multiplicity.Goals as goal

pub product-requires-2 : goal.product-requires-2
product-requires-2 c =
    let a = c.args in
    (a.self.small 3, rw c.product.ensures (mul_lt _ _ a.self.field.is_field.field a.r a.r))

pub returns-then-f-product-ne0 : goal.returns-then-f-product-ne0
returns-then-f-product-ne0 c =
    let P = c.requires in
    let s = c.args.self in
    simple_root _ _ s.field.is_field.field _ P.0 s.coefficients (search rules) (coeffs s) P.1 _ _
    c.product.ensures c.product-2.ensures c.if-f-product-ne0.true
