-- `some_divides` meets its contract: each of the divisions goes on as `remainder` does. Assumes nothing.
use Rattle.std.proofs.Common.{ℕ, get_or, ◌∙◌, arith}
use Rattle.binary.proofs.Block.{beside_start, beside_turn, beside_end}
use Rattle.binary.proofs.inner.block.some_divides.Goals as goal

pub loop-init : goal.loop-init
loop-init c =
    let D = c.requires in
    (omega (arith, D.fits, D.most), beside_start c.args.m c.args.k c.args.a c.raised-raised.result D.degree (omega (arith, D.fits)))

pub loop-preserved : goal.loop-preserved
loop-preserved c =
    let l = c.loop in
    let D = c.requires in (
      omega arith,
      beside_turn c.args.k c.args.a c.raised-raised.result l.rests c.turned_each-next.result l.counter (omega (arith, D.most, D.fits)) c.turned_each-next.ensures
          l.invariant.1,
    )

pub returns : goal.returns
returns c =
    let a = c.args in
    let D = c.requires in
    let l = c.loop in
    c.has_zero.ensures
    ∙ beside_end a.k a.a (λ (i : ℕ). get_or a.divisors i 0) c.raised-raised.result l.rests l.counter (omega (arith, D.most, D.fits)) (omega (arith, l.invariant.0))
    D.alike c.raised-raised.ensures l.invariant.1
