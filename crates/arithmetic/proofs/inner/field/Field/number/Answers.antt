-- `number` meets its contract. Assumes nothing.
use Rattle.std.proofs.Common.{arith}
use Rattle.arithmetic.proofs.Number.{tried_start, tried_turn, tried_found, tried_all}
use Rattle.arithmetic.proofs.inner.field.Field.number.Goals as goal

pub loop-e-init : goal.loop-e-init
loop-e-init c = let a = c.args in tried_start a.self.degree a.self.polynomial a.a c.args.self.is_field.modulus

pub returns-then-x-a : goal.returns-then-x-a
returns-then-x-a c =
    let a = c.args in
    let l = c.loop-e in
    tried_found a.self.degree a.self.polynomial a.a c.args.self.is_field.modulus l.x l.e l.invariant (omega arith) c.if-x-a.true

pub loop-e-preserved : goal.loop-e-preserved
loop-e-preserved c =
    let a = c.args in
    let l = c.loop-e in
    tried_turn a.self.degree a.self.polynomial a.a c.args.self.is_field.modulus l.x l.e l.invariant _ (omega arith) c.if-x-a.false
    c.doubled-x.ensures

pub returns : goal.returns
returns c =
    let a = c.args in
    let l = c.loop-e in
    tried_all a.self.degree a.self.polynomial a.a c.args.self.is_field.modulus l.x l.e l.invariant (omega arith)
