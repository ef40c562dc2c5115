-- `bit` meets its contract. Assumes nothing.
use Rattle.std.proofs.Common.{refl}
use Rattle.binary.specs.Bit.{bit}
use Rattle.binary.proofs.inner.digit.bit.Goals as goal

pub returns : goal.returns
unfolding bit
returns c = refl
