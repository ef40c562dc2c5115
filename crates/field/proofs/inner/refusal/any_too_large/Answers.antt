-- `any_too_large` meets its contract: it looks at each coefficient until one is too large. Assumes nothing.
use Rattle.std.proofs.Common.{sym, ◌∙◌, arith}
use Rattle.algebra.proofs.Search.{some_one, some_none}
use Rattle.field.specs.Refusal.{any_too_large}
use Rattle.field.proofs.inner.refusal.any_too_large.Goals as goal

pub returns-then-too_large : goal.returns-then-too_large
unfolding any_too_large
returns-then-too_large c =
    let l = c.loop-a in
    sym (some_one _ _ l.a-index (omega arith) (sym c.too_large.ensures ∙ c.if-too_large.true))

pub returns : goal.returns
unfolding any_too_large
returns c =
    let l = c.loop-a in
    let w = l.invariant in
    sym (some_none _ _ (λ j h. w j (omega arith)))
