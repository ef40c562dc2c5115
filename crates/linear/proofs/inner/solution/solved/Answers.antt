-- `solved` meets its contract. Assumes nothing.
use mathlib.Core.Path.{◌≡◌, sym, ap, ap₂, ◌∙◌}
use Prim.Native.Nat.{ℕ}
use lib.ListN.{length}
use borrow.Author.Rules.{rules}
use Rattle.std.specs.Prelude.{Some}
use Rattle.linear.specs.Limits.{places}
use Rattle.linear.specs.Elimination.{State, eliminate}
use Rattle.linear.specs.Reading.{broken, column, free_directions}
use Rattle.linear.specs.Solution.{Solutions, some_solutions}
use Rattle.linear.proofs.Solved.{solved_none, solved_some}
use Rattle.linear.proofs.inner.solution.solved.Goals as goal

pub returns-then-contradicts : goal.returns-then-contradicts
returns-then-contradicts c =
    let a = c.args in
    let q = c.eliminated-reduced.ensures in
    solved_none a.m a.rows (ap₂ broken (sym q.unknowns) (sym q.rows) ∙ sym c.contradicts.ensures ∙ c.if-contradicts.true)

pub returns-else-contradicts : goal.returns-else-contradicts
returns-else-contradicts c =
    let a = c.args in
    let q = c.eliminated-reduced.ensures in
    let long : length a.rows ≡ places = search rules in
    ap (λ (s : Solutions). Some s)
    (c.solutions.ensures
    ∙ ap₂ (λ (s : State) (m : ℕ). some_solutions (column s m places) (free_directions s m 0)) q.rows q.unknowns
    ∙ ap (λ (n : ℕ). some_solutions (column (eliminate a.m a.rows) a.m n) (free_directions (eliminate a.m a.rows) a.m 0)) (sym long))
    ∙ solved_some a.m a.rows (ap₂ broken (sym q.unknowns) (sym q.rows) ∙ sym c.contradicts.ensures ∙ c.if-contradicts.false)
