-- `capital` meets its contract. Assumes nothing.
use Rattle.std.proofs.Common.{◌∙◌, arith}
use Rattle.frames.proofs.Characters.{as_decimal, as_letter}
use Rattle.frames.proofs.inner.character.capital.Goals as goal

pub returns-then-digit-lt10 : goal.returns-then-digit-lt10
returns-then-digit-lt10 c = as_decimal _ c.if-digit-lt10.true

pub returns-else-digit-lt10 : goal.returns-else-digit-lt10
returns-else-digit-lt10 c = omega arith ∙ as_letter c.args.digit c.if-digit-lt10.false
