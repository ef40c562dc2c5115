-- `has_zero` meets its contract: no rest seen so far is 0. Assumes nothing.
use Rattle.std.proofs.Common.{get_or, sym, arith, eq-eqb}
use Rattle.algebra.proofs.Search.{some_one, some_none}
use Rattle.binary.specs.Block.{block}
use Rattle.binary.proofs.inner.block.has_zero.Goals as goal

pub returns-then-rest-eq0 : goal.returns-then-rest-eq0
returns-then-rest-eq0 c =
    let i = c.loop-rest.rest-index in
    sym (some_one _ block i (omega arith) (eq-eqb (get_or c.args.rests i 0) 0 c.if-rest-eq0.true))

pub returns : goal.returns
returns c = sym (some_none _ block (λ j l. c.loop-rest.invariant j (omega arith)))
