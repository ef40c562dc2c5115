-- `remainder` meets its contract: after each turn the rest is a number with a's remainder, one place higher. Assumes nothing.
use Rattle.std.proofs.Common.{◌≤◌, arith}
use Rattle.binary.proofs.Aligned.{divisor_degree, aligned_start, aligned_turn, aligned_end}
use Rattle.binary.proofs.inner.division.remainder.Goals as goal
use Rattle.binary.proofs.inner.division.remainder.Goals.{After-degree-k}

-- the divisor's degree is 1 at least and a's at most
degrees : (c : After-degree-k) → (1 ≤ c.degree-k.result) × (c.degree-k.result ≤ c.args.m) × (c.args.m ≤ 30)
degrees c = divisor_degree c.requires c.degree-k.ensures

pub overflow_sub-divisor : goal.overflow_sub-divisor
overflow_sub-divisor c = omega (arith, degrees (goal.at.overflow_sub-divisor c).After-degree-k)

pub overflow_sub-end : goal.overflow_sub-end
overflow_sub-end c = omega (arith, degrees (goal.at.overflow_sub-end c).After-degree-k)

pub loop-init : goal.loop-init
loop-init c = (
  omega (arith, degrees (goal.at.loop-init c).After-degree-k),
  aligned_start c.args.m c.args.a c.args.d c.requires.degree (omega (arith, c.requires.fits)),
)

pub loop-preserved : goal.loop-preserved
loop-preserved c =
    let l = c.loop in
    let g = c.degree-k in (
      omega arith,
      rw c.turned-rest.ensures (aligned_turn g.result c.args.a c.args.d l.rest l.counter g.ensures (omega arith) l.invariant.1),
    )

pub returns : goal.returns
returns c =
    let l = c.loop in
    let g = c.degree-k in
    let w = degrees (goal.at.returns c).After-degree-k in
    aligned_end g.result c.args.a c.args.d l.rest l.counter g.ensures (omega arith) (omega (arith, l.invariant.0)) l.invariant.1
