-- `inverse` meets its contract. Assumes nothing.
use Rattle.std.proofs.Common.{◌≡◌, suc, ◌+◌, ◌<◌, arith}
use Rattle.binary.proofs.Xor.{exp_lt}
use Rattle.arithmetic.proofs.Steps.{Ordered, order_swapped, order_kept, steps_start, steps_end, step_le, steps_turn, steps_less}
use Rattle.arithmetic.proofs.inner.field.Field.inverse.Goals as goal
use Rattle.arithmetic.proofs.inner.field.Field.inverse.Goals.{Joined-u-v, After-degree, then-u-v, else-u-v}

-- after the choice the larger one is first
ordered : (c : Joined-u-v) → Ordered c.args.self.degree c.args.self.polynomial c.args.a c.if-u-v.high.0 c.if-u-v.high.1 c.if-u-v.high.2 c.if-u-v.high.3
ordered c =
    elim c.if-u-v.branch [
      | then-u-v w ↦ rw w.high-is (order_swapped c.loop-u.invariant w.if-u-v.true c.loop-u-test.true)
      | else-u-v w ↦ rw w.high-is (order_kept c.loop-u.invariant w.if-u-v.false)
    ]

same_sum : (c : Joined-u-v) → c.if-u-v.high.0 + c.if-u-v.high.1 ≡ c.loop-u.u + c.loop-u.v
same_sum c = elim c.if-u-v.branch [ then-u-v w ↦ rw w.high-is (omega arith) | else-u-v w ↦ rw w.high-is (omega arith) ]

degree_lt : (c : After-degree) → c.degree.result < 32
degree_lt c =
    let w = exp_lt c.degree.result (suc c.args.self.degree) _ c.degree.ensures.0 (ordered (goal.at.After-degree c).Joined-u-v).most in
    omega (arith, c.args.self.is_field.modulus.fits)

pub loop-u-init : goal.loop-u-init
loop-u-init c = steps_start c.args.self.degree c.args.self.polynomial c.args.a c.args.self.is_field.field c.requires.0 c.requires.1

pub overflow_sub-j : goal.overflow_sub-j
overflow_sub-j c =
    let O = ordered (goal.at.overflow_sub-j c).Joined-u-v in
    step_le c.args.self.degree c.args.self.polynomial c.args.a c.args.self.is_field.field _ _ _ _ c.degree.result c.degree-in-loop-u.result O
    c.degree.ensures c.degree-in-loop-u.ensures

pub overflow_shl-u : goal.overflow_shl-u
overflow_shl-u c = let w = degree_lt (goal.at.overflow_shl-u c).After-degree in omega arith

pub overflow_shl-g : goal.overflow_shl-g
overflow_shl-g c = let w = degree_lt (goal.at.overflow_shl-g c).After-degree in omega arith

pub loop-u-smaller : goal.loop-u-smaller
loop-u-smaller c =
    let j = (goal.at.loop-u-smaller c).Joined-u-v in
    let w = steps_less c.args.self.degree c.args.self.polynomial c.args.a c.args.self.is_field.field _ _ _ _ c.degree.result c.degree-in-loop-u.result (ordered j)
    c.degree.ensures c.degree-in-loop-u.ensures c.args.self.is_field.modulus.fits in
    omega (arith, w, same_sum j)

pub loop-u-preserved : goal.loop-u-preserved
loop-u-preserved c =
    steps_turn c.args.self.degree c.args.self.polynomial c.args.a c.args.self.is_field.field _ _ _ _ c.degree.result c.degree-in-loop-u.result
    (ordered (goal.at.loop-u-preserved c).Joined-u-v) c.degree.ensures c.degree-in-loop-u.ensures c.args.self.is_field.modulus.fits

pub returns : goal.returns
returns c =
    let a = c.args in
    let l = c.loop-u in
    steps_end a.self.degree a.self.polynomial a.a c.args.self.is_field.field l.u l.v l.g l.h l.invariant c.loop-u-test.false
