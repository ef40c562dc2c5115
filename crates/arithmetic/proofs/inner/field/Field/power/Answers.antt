-- `power` meets its contract. Assumes nothing.
use Rattle.std.proofs.Common.{◌∙◌, to_z-of_z}
use Rattle.arithmetic.proofs.Power.{power_plain, power_inverse}
use Rattle.arithmetic.proofs.inner.field.Field.power.Goals as goal
use Rattle.arithmetic.proofs.inner.field.Field.power.Goals.{then-e-lt0, else-e-lt0}

pub returns : goal.returns
returns c =
    let a = c.args in
    let p = a.self.polynomial in
    let i = to_z-of_z c.ranges.e in
    let n = c.unsigned_abs.result in
    let size = rw i at c.unsigned_abs.ensures.value in
    c.raised.ensures
    ∙ elim c.if-e-lt0.branch [
      | then-e-lt0 w ↦
          let below = rw i at w.if-e-lt0.true in
          let s = w.inverse-base in
          rw w.base-is
          (power_inverse a.self.degree p a.self.is_field.field a.a s.result n a.e (c.requires.1 below) c.requires.0 s.ensures.0 s.ensures.1 below size)
      | else-e-lt0 w ↦ rw w.base-is (power_plain a.self.degree p a.self.is_field.field a.a n a.e (rw i at w.if-e-lt0.false) size)
    ]
