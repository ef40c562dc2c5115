-- `divisions` meets its contract: k divisions are done, and those still to come make up the multiplicity. Assumes nothing.
use Rattle.std.proofs.Common.{◌≡◌, refl, sym, ap, ◌∙◌, arith, rules, [], ◌∷◌, ◌++◌}
use Rattle.arithmetic.specs.declared.inner.field.Field.{Field}
use Rattle.galois.specs.Polynomial.{value, without_root}
use Rattle.roots.proofs.Counting.{counting_start, counting_stop, counting_next, counting_end}
use Rattle.roots.proofs.inner.polynomial.Polynomial.divisions.Goals as goal

pub loop-k-init : goal.loop-k-init
loop-k-init c = (refl, counting_start _ _ _)

pub returns-then-remainder-ne0 : goal.returns-then-remainder-ne0
returns-then-remainder-ne0 c =
    let l = c.loop-k in
    let q = c.divided-remainder.ensures in
    counting_stop _ _ _ _ l.k (search rules) _
    (q.value ∙ ap (λ (f : Field). value f.polynomial l.left.coefficients c.args.r) l.invariant.0) l.invariant.1 c.if-remainder-ne0.true

pub loop-k-preserved : goal.loop-k-preserved
loop-k-preserved c =
    let l = c.loop-k in
    let q = c.divided-remainder.ensures in (
      q.field ∙ l.invariant.0,
      counting_next _ _ _ _ l.k (search rules) _
          (q.value ∙ ap (λ (f : Field). value f.polynomial l.left.coefficients c.args.r) l.invariant.0) l.invariant.1 _ c.if-remainder-ne0.false
          (q.quotient ∙ ap (λ (f : Field). without_root f.polynomial c.args.r l.left.coefficients ++ 0 ∷ []) l.invariant.0),
    )

pub returns : goal.returns
returns c =
    let l = c.loop-k in
    let e : l.k ≡ 5 = omega (arith, l.auto.k-end) in
    sym e ∙ counting_end _ _ _ _ l.k (search rules) l.invariant.1
