-- `power_of_x` meets its contract. Assumes nothing.
use Rattle.std.proofs.Common.{arith, pow_mono}
use Rattle.field.proofs.power_of_x.Goals as goal

pub power-requires : goal.power-requires
power-requires c =
    let w = pow_mono c.in_ok-field.field.is_field.modulus.two in
    (omega arith, λ h. omega arith)
