-- `contradicts` meets its contract. Assumes nothing.
use mathlib.Core.Path.{◌∙◌}
use Prim.Native.Nat.{ℕ}
use borrow.Author.Rules.{rules}
use borrow.Author.Tests.{tests}
use Rattle.std.proofs.lemmas.Iterator.{YieldsList-from_slice, YieldsList-from_zip}
use Rattle.std.proofs.lemmas.Iterator.Search.{any_from_yields_List}
use Rattle.linear.specs.Elimination.{candidate}
use Rattle.linear.specs.Values.{state}
use Rattle.linear.proofs.Reading.{any_broken}
use Rattle.linear.proofs.inner.reduced.Reduced.contradicts.Goals as goal

pub returns : goal.returns
returns c =
    let s = c.args.self.now in
    any_from_yields_List (λ (p : ℕ × ℕ). candidate s.unknowns s.unknowns p.1 p.0) c.any.new.self _ _ c.any.ensures.ran
    (YieldsList-from_zip (YieldsList-from_slice s.rows cc) (YieldsList-from_slice s.marks cc)) (λ x b q k. (search rules, search (rules, tests)))
    ∙ any_broken s.unknowns (state s) (search rules)
