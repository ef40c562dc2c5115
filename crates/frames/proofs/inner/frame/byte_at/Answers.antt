-- `byte_at` meets its contract. Assumes nothing.
use Rattle.std.proofs.Common.{◌+◌, ◌*◌, arith, rules}
use Rattle.frames.specs.Frame.{byte_at}
use Rattle.frames.proofs.Digits.{no_digit_at}
use Rattle.frames.proofs.inner.frame.byte_at.Goals as goal

pub returns-in_err-digit_value-clause-decodes : goal.returns-in_err-digit_value-clause-decodes
returns-in_err-digit_value-clause-decodes c = rw c.from_residual.ensures (no_digit_at c.args.line.now (2 * c.args.i) (omega arith) c.in_err-digit_value.ensures.value)

pub returns-in_err-digit_value-2-clause-decodes : goal.returns-in_err-digit_value-2-clause-decodes
returns-in_err-digit_value-2-clause-decodes c = rw c.from_residual-in_err-digit_value-2.ensures (no_digit_at c.args.line.now (2 * c.args.i + 1) (omega arith) c.in_err-digit_value-2.ensures.value)

pub returns-clause-decodes : goal.returns-clause-decodes
unfolding byte_at
returns-clause-decodes c = search rules
