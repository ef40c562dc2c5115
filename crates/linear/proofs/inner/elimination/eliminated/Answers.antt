-- `eliminated` meets its contract: the search yields the definition's pivot, and each column is the definition's step. Assumes nothing.
use mathlib.Core.Path.{subst, refl, ◌≡◌, sym, ◌∙◌}
use Prim.Native.Nat.{◌<◌}
use native.Mathlib.Omega.{arith}
use borrow.Author.Rules.{rules}
use Rattle.algebra.specs.Search.{first}
use Rattle.algebra.proofs.Seeking.{seeking_start, seeking_skip, seeking_here, seeking_end}
use Rattle.linear.specs.Elimination.{State}
use Rattle.linear.specs.Marks.{MarksFit}
use Rattle.linear.specs.Limits.{places}
use Rattle.linear.proofs.Solved.{marks_fit}
use Rattle.linear.proofs.Columns.{may_pivot, columns_start, columns_some, columns_none, columns_end}
use Rattle.linear.proofs.inner.elimination.eliminated.Goals as goal
use Rattle.linear.proofs.inner.elimination.eliminated.Goals.{then-i-ge-PLACES, else-i-ge-PLACES+then-may_pivot, in-Some, in_default}

pub loop-k-init : goal.loop-k-init
loop-k-init c = columns_start _ places _ (search rules)

pub loop-i-init : goal.loop-i-init
loop-i-init c = seeking_start _ places

pub loop-i-preserved : goal.loop-i-preserved
loop-i-preserved c =
    seeking_skip _ places c.loop-i.i (omega arith) (sym c.may_pivot.ensures ∙ c.if-may_pivot.false)
    c.loop-i.invariant

pub loop-k-preserved : goal.loop-k-preserved
loop-k-preserved c =
    let l = c.loop-k in
    let a = c.args in
    let test = may_pivot a.m l.k l.a l.marks in
    elim c.match-pivot.branch [
      | in-Some w ↦
          let pivot : (w.in-Some.p ≡ first test places) × (w.in-Some.p < places) =
          elim c.if-i-ge-PLACES.branch [
            | then-i-ge-PLACES v ↦ let e = sym w.in-Some.is ∙ v.pivot-is in grind arith
            | else-i-ge-PLACES+then-may_pivot v ↦
                let e = sym w.in-Some.is ∙ v.pivot-is in
                let here : w.in-Some.p ≡ c.loop-i.i = grind arith in (
                  here ∙ seeking_here _ places c.loop-i.i v.if-i-ge-PLACES.false (sym v.may_pivot.ensures ∙ v.if-may_pivot.true) c.loop-i.invariant,
                  omega (arith, v.if-i-ge-PLACES.false),
                )
          ] in
          rw (w.a-is, w.marks-is)
          (columns_some a.m places a.rows l.a l.marks l.k w.in-Some.p (search rules) (omega arith) pivot.0 l.invariant pivot.1
          _ w.cleared-a.ensures)
      | in_default w ↦
          let none : places ≡ first test places =
          elim c.if-i-ge-PLACES.branch [
            | then-i-ge-PLACES v ↦ seeking_end _ places c.loop-i.i v.if-i-ge-PLACES.true c.loop-i.invariant
            | else-i-ge-PLACES+then-may_pivot v ↦ absurd (w.in_default.not-Some _ v.pivot-is)
          ] in
          rw (w.a-is, w.marks-is)
          (columns_none a.m places a.rows l.a l.marks l.k places (search rules) (omega arith) none l.invariant (omega arith))
    ]

pub invariant_of-result-clause-marks_fit : goal.invariant_of-result-clause-marks_fit
invariant_of-result-clause-marks_fit c =
    let e = columns_end _ _ _ _ c.loop-k.k (omega arith) c.loop-k.invariant in
    subst (λ (s : State). MarksFit s.marks) (sym e) (marks_fit c.args.m c.args.rows c.requires (search rules))

pub returns : goal.returns
returns c = record { unknowns = refl; rows = columns_end _ _ _ _ c.loop-k.k (omega arith) c.loop-k.invariant }
