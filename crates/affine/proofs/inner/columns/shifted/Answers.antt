-- `shifted` meets its contract. Assumes nothing.
use mathlib.Core.Path.{sym, ◌∙◌}
use native.Mathlib.Omega.{arith}
use Rattle.binary.proofs.Product.{product_one}
use Rattle.binary.proofs.Modulus.{times_x_lt}
use Rattle.galois.specs.Power.{power}
use Rattle.affine.proofs.Terms.{shift_more}
use Rattle.affine.proofs.inner.columns.shifted.Goals as goal

pub loop-init : goal.loop-init
unfolding power
loop-init c =
    let a = c.args in
    let q = c.requires in
    (omega arith, q, sym (product_one a.field.degree a.field.polynomial a.field.is_field.field.irr.degree a.t q))

pub loop-preserved : goal.loop-preserved
loop-preserved c =
    let a = c.args in
    let q = c.requires in
    let l = c.loop in
    let e = c.doubled-moved.ensures in
    (omega arith, rw e (times_x_lt a.field.degree a.field.polynomial a.field.is_field.field.irr.degree _), e ∙ shift_more a.field.degree a.field.polynomial a.field.is_field.field a.t l.counter l.moved l.invariant.2)
