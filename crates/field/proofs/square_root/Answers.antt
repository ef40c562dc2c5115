-- `square_root` meets its contract. Assumes nothing.
use Rattle.std.proofs.Common.{◌-◌}
use Rattle.field.proofs.Answered.{element_in}
use Rattle.field.proofs.square_root.Goals as goal

pub square_root-requires : goal.square_root-requires
square_root-requires c = let a = c.args in element_in a.p c.in_ok-field.field a.b.0 c.in_ok-field.ensures
