-- `read` meets its contract: the directions gathered are the definition's. Assumes nothing.
use mathlib.Core.Path.{◌≡◌, sym, ap, ◌∙◌}
use native.Mathlib.Omega.{arith}
use borrow.Author.Rules.{rules}
use Rattle.binary.specs.Bit.{bit}
use Rattle.linear.specs.Limits.{places}
use Rattle.linear.specs.Values.{state}
use Rattle.linear.specs.Reading.{pivot_columns}
use Rattle.linear.proofs.Reading.{free_direction_is}
use Rattle.linear.proofs.Taken.{taken-bit, free_bit}
use Rattle.linear.proofs.Gathered.{gathered_start, gathered_skip, gathered_push, gathered_solutions}
use Rattle.linear.proofs.inner.reduced.Reduced.solutions.Goals as goal
use Rattle.linear.proofs.inner.reduced.Reduced.solutions.Goals.{then-bit-eq0, else-bit-eq0}

pub loop-t-init : goal.loop-t-init
loop-t-init c = gathered_start _ _

pub loop-t-preserved : goal.loop-t-preserved
loop-t-preserved c =
    let l = c.loop-t in
    let s = state c.args.self.now in
    let m = c.args.self.now.unknowns in
    let b : c.bit.result ≡ bit l.t (pivot_columns s places) = c.bit.ensures ∙ ap (bit l.t) c.pivot_columns-pivots.ensures in
    elim c.if-bit-eq0.branch [
      | then-bit-eq0 w ↦
          rw (w.directions-is, w.count-is)
          (gathered_push s m l.t l.directions l.count (omega arith) l.invariant _
          (free_bit places s (search rules) l.t (sym b ∙ w.if-bit-eq0.true)) (omega arith)
          (free_direction_is places s l.t _ _ (search rules) w.power_of_two.ensures w.column.ensures))
      | else-bit-eq0 w ↦
          rw (w.directions-is, w.count-is)
          (gathered_skip s m l.t l.directions l.count (omega arith) l.invariant
          (taken-bit places s (search rules) l.t (λ z. w.if-bit-eq0.false (b ∙ z))))
    ]

pub returns : goal.returns
returns c = gathered_solutions _ _ c.loop-t.t _ _ _ _ (omega arith) c.loop-t.invariant c.column-base.ensures
