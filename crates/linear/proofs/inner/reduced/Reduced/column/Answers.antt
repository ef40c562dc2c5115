-- `column` meets its contract. Assumes nothing.
use mathlib.Core.Path.{refl, sym, ap, ap₂, ◌∙◌}
use mathlib.Core.List.{[], ◌∷◌}
use Prim.Native.Nat.{ℕ, ◌*◌, ◌^◌}
use borrow.Author.Rules.{rules}
use lib.ListN.{length, length-append}
use Rattle.std.proofs.lemmas.Slice.Zip.{zip_turn}
use Rattle.binary.specs.Bit.{bit}
use Rattle.binary.proofs.Bit.{bit_lt}
use Rattle.linear.specs.Reading.{column}
use Rattle.linear.specs.Values.{state}
use Rattle.linear.proofs.Reading.{column_more}
use Rattle.linear.proofs.inner.reduced.Reduced.column.Goals as goal

pub loop-row-init : goal.loop-row-init
unfolding column
loop-row-init c = refl

pub picked-sum-requires : goal.picked-sum-requires
picked-sum-requires c = rw c.bit.ensures (bit_lt _ _)

pub loop-row-preserved : goal.loop-row-preserved
loop-row-preserved c =
    let s = c.args.self.now in
    let l = c.loop-row in
    let t = zip_turn s.rows s.marks l.yielded _ _ c.next.new.self _ (search rules) (search rules) l.yielded_by _ c.in-Some.is c.next.ensures.steps in
    column_more (state s) c.args.f (length l.yielded) l.sum _ l.invariant
    (c.picked-sum.ensures
    ∙ ap₂ ◌*◌ (c.bit.ensures ∙ ap (bit c.args.f) (t.2 0)) (c.power_of_two.ensures ∙ ap (λ (k : ℕ). 2 ^ k) (t.3 0)))
    ∙ ap (column (state s) c.args.f) (sym (length-append l.yielded ((c.in-Some.row, c.in-Some.mark) ∷ [])))
