-- `columns_of` meets its contract. Assumes nothing.
use Rattle.std.proofs.Common.{arith, rules}
use Rattle.galois.proofs.Polynomial.{coeff_at}
use Rattle.affine.proofs.Terms.{terms_start, terms_turn, step_lt}
use Rattle.affine.proofs.inner.columns.columns_of.Goals as goal

pub loop-i-init : goal.loop-i-init
loop-i-init c = terms_start _ _ _ c.requires.0

pub with_term-next-requires : goal.with_term-next-requires
with_term-next-requires c =
    let q = c.requires in
    let l = c.loop-i in
    (q.0, coeff_at _ c.args.linear.now l.i q.2, l.invariant.step_now)

pub product-step-requires : goal.product-step-requires
product-step-requires c =
    let f = c.args.field.is_field in
    let l = c.loop-i in
    let small = rw (← l.invariant.step_now) at (step_lt _ _ f.field f.modulus l.i) in
    (small, small)

pub loop-i-preserved : goal.loop-i-preserved
loop-i-preserved c =
    let l = c.loop-i in
    terms_turn _ _ c.args.field.is_field.field _ l.columns _ l.step l.i _ (omega arith) (search rules) c.with_term-next.ensures c.product-step.ensures l.invariant
