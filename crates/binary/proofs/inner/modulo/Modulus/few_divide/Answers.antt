-- `few_divide` meets its contract. Assumes nothing.
use Rattle.std.proofs.Common.{◌≡◌, ℕ, suc, ◌+◌, ◌-◌, refl, ap, ◌∙◌, arith, rules, tests}
use Rattle.std.proofs.lemmas.Iterator.{YieldsList-from_range}
use Rattle.std.proofs.lemmas.Iterator.Search.{any_from_yields_List}
use Rattle.algebra.proofs.Search.{some_same}
use Rattle.algebra.specs.Search.{some_below}
use Rattle.binary.specs.Remainder.{divides}
use Rattle.binary.proofs.Any.{any_below}
use Rattle.binary.proofs.inner.modulo.Modulus.few_divide.Goals as goal

below_two : (p n : ℕ) → some_below (λ i. divides (2 + i) p) n ≡ some_below (λ i. divides (suc (suc i)) p) n
below_two p n = some_same _ _ n (λ i l. let e : 2 + i ≡ suc (suc i) = omega arith in ap (λ (d : ℕ). divides d p) e)

pub returns : goal.returns
returns c =
    let n = c.min.result - 2 in
    let p = c.args.self.polynomial in
    any_from_yields_List (λ d. divides d p) _ _ _ c.any.ensures.ran (YieldsList-from_range 2 c.min.result n refl refl) (λ x b q k. search (rules, tests))
    ∙ any_below (λ d. divides d p) 2 n ∙ below_two p n ∙ ap (λ (m : ℕ). some_below (λ i. divides (suc (suc i)) p) (m - 2)) c.min.ensures
