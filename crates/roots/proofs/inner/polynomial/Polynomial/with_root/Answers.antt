-- `with_root` meets its contract: what is done, and what the coefficient below still goes into, make the whole. Assumes nothing.
use Rattle.std.proofs.Common.{refl, arith, rules}
use Rattle.std.proofs.lemmas.List.{length-take-le}
use Rattle.roots.proofs.Division.{raising_start, raising_next, raising_end, raised_small}
use Rattle.roots.proofs.Equations.{coeffs}
use Rattle.roots.proofs.inner.polynomial.Polynomial.with_root.Goals as goal

pub loop-c-init : goal.loop-c-init
loop-c-init c = raising_start _ _ _

pub loop-c-preserved : goal.loop-c-preserved
loop-c-preserved c =
    let l = c.loop-c in
    raising_next _ _ _ _ _ l.c-index l.invariant _ (search rules) c.product.ensures

pub invariant_of-result : goal.invariant_of-result
invariant_of-result c =
    let l = c.loop-c in
    let s = c.args.self in
    let k = length-take-le c.args.n s.coefficients (search rules) in
    record {
      small = raised_small _ _ s.field.is_field.field c.args.a s.coefficients c.args.n (coeffs s) _
          (raising_end _ _ _ _ _ l.c-index l.invariant s.coefficients c.args.n (search rules) refl k (omega arith));
    }

pub returns : goal.returns
returns c =
    let l = c.loop-c in
    let s = c.args.self in
    let k = length-take-le c.args.n s.coefficients (search rules) in
    record { coefficients = raising_end _ _ _ _ _ l.c-index l.invariant s.coefficients c.args.n (search rules) refl k (omega arith); field = refl }
