-- `pivot_columns` meets its contract. Assumes nothing.
use mathlib.Core.Path.{refl}
use Rattle.linear.specs.Reading.{pivot_columns}
use Rattle.linear.proofs.Reading.{pivot_columns_more}
use Rattle.linear.proofs.inner.reduced.Reduced.pivot_columns.Goals as goal

pub loop-mark-init : goal.loop-mark-init
unfolding pivot_columns
loop-mark-init c = refl

pub loop-mark-preserved : goal.loop-mark-preserved
loop-mark-preserved c =
    let l = c.loop-mark in
    pivot_columns_more _ l.mark-index l.columns _ l.invariant c.power_of_two-columns.ensures
