-- `cubic_roots` meets its contract. Assumes nothing.
use Rattle.std.proofs.Common.{arith, rules}
use Rattle.roots.proofs.Cubic.{t_small, made_ready, made_first, all_roots_lem, kept_roots}
use Rattle.roots.proofs.Equations.{cubic_ready, cubic_roots}
use Rattle.roots.proofs.Moving.{count-is, moved_by}
use Rattle.roots.proofs.inner.equation.Equation.cubic_roots.Goals as goal

pub product-requires : goal.product-requires
product-requires c =
    let R = cubic_ready c.args.self (search rules) c.requires.1 in
    (R.small.1.0, t_small _ _ _ _ _ _ R c.requires.0 _ c.quotient-t.ensures)

pub product-requires-2 : goal.product-requires-2
product-requires-2 c =
    let R = cubic_ready c.args.self (search rules) c.requires.1 in
    (R.small.1.1.0, t_small _ _ _ _ _ _ R c.requires.0 _ c.quotient-t.ensures)

pub solutions-zs-requires : goal.solutions-zs-requires
solutions-zs-requires c =
    let R = cubic_ready c.args.self (search rules) c.requires.1 in
    made_ready _ _ _ _ _ _ R c.requires.0 _ _ _ c.quotient-t.ensures c.product.ensures c.product-2.ensures

pub rest-requires : goal.rest-requires
rest-requires c =
    let R = cubic_ready c.args.self (search rules) c.requires.1 in
    let some = made_first _ _ _ _ _ _ R c.requires.0 _ _ _ c.quotient-t.ensures c.product.ensures c.product-2.ensures _ c.solutions-zs.ensures in
    omega (arith, count-is c.solutions-zs.result (search rules))

pub returns-then-l0-ne0 : goal.returns-then-l0-ne0
returns-then-l0-ne0 c =
    let R = cubic_ready c.args.self (search rules) c.requires.1 in
    cubic_roots c.args.self (search rules) c.requires.1 _
    (kept_roots _ _ _ _ _ _ R c.requires.0 _ _ _ c.quotient-t.ensures c.product.ensures c.product-2.ensures _ c.solutions-zs.ensures
    c.if-l0-ne0.true _ _ c.rest.ensures
    (moved_by c.quotient-t.result _ c.rest.result c.map.result (search rules) (search rules) c.map.ensures (λ i y h r. search rules)))

pub returns-else-l0-ne0 : goal.returns-else-l0-ne0
returns-else-l0-ne0 c =
    let R = cubic_ready c.args.self (search rules) c.requires.1 in
    cubic_roots c.args.self (search rules) c.requires.1 _
    (all_roots_lem _ _ _ _ _ _ R c.requires.0 _ _ _ c.quotient-t.ensures c.product.ensures c.product-2.ensures _ c.solutions-zs.ensures
    c.if-l0-ne0.false _
    (moved_by c.quotient-t.result _ c.solutions-zs.result c.map-else-l0-ne0.result (search rules) (search rules) c.map-else-l0-ne0.ensures
    (λ i y h r. search rules)))
