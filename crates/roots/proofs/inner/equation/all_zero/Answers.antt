-- `all_zero` meets its contract. Assumes nothing.
use Rattle.std.proofs.Common.{◌≡◌, ◌≢◌, sym, arith, rules, Bool, true, false, ℕ, ◌<◌, List, length}
use Rattle.std.specs.Prelude.{MatchBool}
use Rattle.std.specs.List.{AllWithin, HoldsAt}
use Rattle.std.proofs.lemmas.Iterator.{cases_from_all, YieldsList-from_slice}
use borrow.Author.Tests.{tests, eq-eqb, ne_eqb}
use Rattle.algebra.proofs.Search.{every_below_lem, not_every_below}
use Rattle.roots.specs.Calls.{all_zero}
use Rattle.roots.proofs.inner.equation.all_zero.Goals as goal

decides : (cs : List ℕ) (r : Bool) → MatchBool r (AllWithin (λ x. x ≡ 0) cs 0 (length cs)) ((k : ℕ) × (k < length cs) × HoldsAt (λ x. x ≢ 0) cs k)
    → r ≡ all_zero cs
unfolding all_zero
decides cs true h = sym (every_below_lem _ (length cs) (λ j l. eq-eqb _ _ (h j 0 (omega arith) l)))
decides cs false h = sym (not_every_below _ (length cs) h.0 h.1 (ne_eqb _ _ (h.2 0)))

pub returns : goal.returns
returns c =
    decides _ _
    (cases_from_all _ _ _ (λ x. x ≡ 0) (λ x. x ≢ 0) c.all.ensures.ran (YieldsList-from_slice c.args.coefficients.now cc)
    (λ x q k. search (rules, tests)) (λ x q k. search (rules, tests)))
