-- `rows_of` meets its contract: the columns are joined one after another. Assumes nothing.
use mathlib.Core.Path.{◌≡◌, sym, ap, ap₂, ◌∙◌}
use Prim.Native.Nat.{◌<◌}
use lib.ListN.{length}
use lib.Seq.{length-take-le, get_or-take}
use borrow.Author.Rules.{rules}
use Rattle.linear.specs.Limits.{places}
use native.Mathlib.Omega.{arith}
use Rattle.linear.specs.Matrix.{with_column}
use Rattle.linear.proofs.Matrix.{columns_none, columns_more, columns_all}
use Rattle.linear.proofs.inner.system.rows_of.Goals as goal

pub loop-j-init : goal.loop-j-init
loop-j-init c = sym (columns_none _)

pub loop-j-preserved : goal.loop-j-preserved
loop-j-preserved c =
    let l = c.loop-j in
    let a = c.args in
    let long : length a.columns ≡ places = search rules in
    let left : l.j < a.m = omega (arith, length-take-le a.m a.columns (omega (arith, long))) in
    c.with_column-next.ensures
    ∙ ap₂ (with_column l.j) (get_or-take a.m a.columns l.j 0 left) l.invariant
    ∙ columns_more _ l.j

pub returns : goal.returns
returns c =
    let l = c.loop-j in
    let a = c.args in
    let long : length a.columns ≡ places = search rules in
    let e : l.j ≡ a.m = omega (arith, length-take-le a.m a.columns (omega (arith, long))) in
    c.with_column.ensures ∙ ap (with_column _ _) (rw e at l.invariant) ∙ columns_all _ _ _
