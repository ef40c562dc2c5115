-- `quartic_roots` meets its contract. Assumes nothing.
use Rattle.std.proofs.Common.{arith, rules}
use Rattle.roots.specs.Equation.{from_inverse}
use Rattle.roots.proofs.Shifting.{root_ready, shift_ready, first_ready, second_ready, shifted_ready, shifted_units, shifted_others, shifted_room, shifted_roots}
use Rattle.roots.proofs.Moving.{count-is, unit_at}
use Rattle.roots.proofs.ShortLists.{changed_entries}
use Rattle.roots.proofs.inner.equation.Equation.quartic_roots.Goals as goal

pub square_root-s-requires : goal.square_root-s-requires
square_root-s-requires c =
    let P = c.requires in
    root_ready c.args.self (search rules) P.0 P.1 _ c.quotient-q.ensures

pub product-requires : goal.product-requires
product-requires c =
    let P = c.requires in
    shift_ready c.args.self (search rules) P.0 P.1 _ c.quotient-q.ensures _ c.square_root-s.ensures

pub product-requires-2 : goal.product-requires-2
product-requires-2 c =
    let P = c.requires in
    first_ready c.args.self (search rules) P.0 P.1 _ c.quotient-q.ensures

pub product-requires-3 : goal.product-requires-3
product-requires-3 c =
    let P = c.requires in
    second_ready c.args.self (search rules) P.0 P.1 _ c.quotient-q.ensures _ c.product-2.ensures

pub solutions-ys-requires : goal.solutions-ys-requires
solutions-ys-requires c =
    let P = c.requires in
    shifted_ready c.args.self (search rules) P.0 P.1 _ c.quotient-q.ensures _ c.square_root-s.ensures _ _ _ c.product.ensures c.product-2.ensures c.product-3.ensures

pub map-others-requires : goal.map-others-requires
map-others-requires c i h =
    let P = c.requires in
    let U = shifted_units c.args.self (search rules) P.0 P.1 _ c.quotient-q.ensures _ c.square_root-s.ensures _ _ _ c.product.ensures c.product-2.ensures c.product-3.ensures _ c.solutions-ys.ensures in
    let u = unit_at c.solutions-ys.result (search rules) _ U i h in
    search rules

pub returns-then-l2-ne0 : goal.returns-then-l2-ne0
returns-then-l2-ne0 c =
    let P = c.requires in
    let F = c.args.self.polynomial.field in
    let moved = changed_entries _ (from_inverse F.degree F.polynomial c.square_root-s.result) c.solutions-ys.result c.map-others.result (search rules) (search rules) c.map-others.ensures (λ i y h r. search rules) in
    shifted_others c.args.self (search rules) P.0 P.1 _ c.quotient-q.ensures _ c.square_root-s.ensures _ _ _ c.product.ensures c.product-2.ensures c.product-3.ensures _ c.solutions-ys.ensures _ moved c.if-l2-ne0.true

pub with_last-requires : goal.with_last-requires
with_last-requires c =
    let P = c.requires in
    let F = c.args.self.polynomial.field in
    let moved = changed_entries _ (from_inverse F.degree F.polynomial c.square_root-s.result) c.solutions-ys.result c.map-others.result (search rules) (search rules) c.map-others.ensures (λ i y h r. search rules) in
    let room = shifted_room c.args.self (search rules) P.0 P.1 _ c.quotient-q.ensures _ c.square_root-s.ensures _ _ _ c.product.ensures c.product-2.ensures c.product-3.ensures _ c.solutions-ys.ensures _ moved c.if-l2-ne0.false in
    omega (arith, count-is c.map-others.result (search rules))

pub returns-else-l2-ne0 : goal.returns-else-l2-ne0
returns-else-l2-ne0 c =
    let P = c.requires in
    let F = c.args.self.polynomial.field in
    let moved = changed_entries _ (from_inverse F.degree F.polynomial c.square_root-s.result) c.solutions-ys.result c.map-others.result (search rules) (search rules) c.map-others.ensures (λ i y h r. search rules) in
    shifted_roots c.args.self (search rules) P.0 P.1 _ c.quotient-q.ensures _ c.square_root-s.ensures _ _ _ c.product.ensures c.product-2.ensures c.product-3.ensures _ c.solutions-ys.ensures _ moved c.if-l2-ne0.false _ c.with_last.ensures
