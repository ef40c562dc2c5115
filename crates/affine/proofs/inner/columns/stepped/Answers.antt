-- `stepped` meets its contract: 2^i shifts are the product with x^(2^i). Assumes nothing.
use mathlib.Core.Path.{sym, ap, ◌∙◌}
use Prim.Native.Nat.{ℕ}
use Rattle.binary.specs.Product.{product}
use Rattle.galois.specs.Power.{power}
use Rattle.affine.proofs.Terms.{step_lt, step_is}
use Rattle.affine.proofs.inner.columns.stepped.Goals as goal

pub returns-then-i-lt-MANY_SHIFTS : goal.returns-then-i-lt-MANY_SHIFTS
returns-then-i-lt-MANY_SHIFTS c =
    let a = c.args in
    let q = c.requires in
    c.shifted.ensures ∙ ap (λ (k : ℕ). product a.field.polynomial a.t (power a.field.polynomial 2 k)) c.power_of_two.ensures
    ∙ ap (product a.field.polynomial a.t) (sym (q.1 ∙ step_is a.field.degree a.field.polynomial a.field.is_field.field a.field.is_field.modulus a.i))

pub product-requires : goal.product-requires
product-requires c =
    let a = c.args in
    let q = c.requires in
    (q.0, rw q.1 (step_lt a.field.degree a.field.polynomial a.field.is_field.field a.field.is_field.modulus a.i))
