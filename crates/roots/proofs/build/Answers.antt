-- `build` meets its contract. Assumes nothing.
use Rattle.roots.proofs.Answered.{roots_given}
use Rattle.roots.proofs.build.Goals as goal

pub built-requires : goal.built-requires
built-requires c = roots_given _ _ c.in_ok-field.field c.in_ok-field.ensures
