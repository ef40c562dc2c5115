-- `wrong_count` meets its contract. Assumes nothing.
use Rattle.std.proofs.Common.{eq-eqb, ne_eqb}
use Rattle.field.specs.Refusal.{wrong_count}
use Rattle.field.proofs.inner.refusal.wrong_count.Goals as goal

pub returns-then-count-eq0 : goal.returns-then-count-eq0
unfolding wrong_count
returns-then-count-eq0 c = rw (eq-eqb _ _ c.if-count-eq0.true)

pub returns-else-count-eq0 : goal.returns-else-count-eq0
unfolding wrong_count
returns-else-count-eq0 c = rw (ne_eqb _ _ c.if-count-eq0.false)
