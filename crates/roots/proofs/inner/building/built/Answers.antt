-- `built` meets its contract: the roots from place i on are in. Assumes nothing.
use Rattle.std.proofs.Common.{ap, ◌∙◌, arith, ◌-◌, ◌++◌, take, drop, suc, get_or, length}
use Rattle.arithmetic.specs.declared.inner.field.Field.{Field}
use Rattle.galois.specs.Polynomial.{with_root}
use Rattle.roots.proofs.FromRoots.{building_start, building_next, building_end}
use Rattle.roots.proofs.inner.building.built.Goals as goal

pub loop-i-init : goal.loop-i-init
loop-i-init c =
    let q = c.one-f.ensures in
    (q.field, building_start _ _ _ q.coefficients c.requires.0)

pub loop-i-preserved : goal.loop-i-preserved
loop-i-preserved c =
    let l = c.loop-i in
    let q = c.with_root-f.ensures in
    let rs = c.args.roots.now in
    let n = length rs - (l.i - 1) in (
      q.field ∙ l.invariant.0,
      building_next _ _ _ l.i l.invariant.1 _ _ (omega arith)
          (q.coefficients
          ∙ ap (λ (k : Field). with_root k.polynomial (get_or rs (l.i - 1) 0) (take n l.f.coefficients) ++ drop (suc n) l.f.coefficients) l.invariant.0),
    )

pub returns : goal.returns
returns c =
    let l = c.loop-i in
    building_end _ _ _ l.i l.invariant.1 (omega arith)
