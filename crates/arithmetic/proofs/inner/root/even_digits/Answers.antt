-- `even_digits` meets its contract. Assumes nothing.
use Rattle.std.proofs.Common.{arith}
use Rattle.arithmetic.proofs.EvenDigits.{gathered_is}
use Rattle.arithmetic.proofs.inner.root.even_digits.Goals as goal

pub returns : goal.returns
returns c = gathered_is c.args.x (omega arith)
