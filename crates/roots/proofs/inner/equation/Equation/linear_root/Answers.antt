-- `linear_root` meets its contract. Assumes nothing.
use Rattle.std.proofs.Common.{ap, ◌∙◌, subst, sym, rules, ℕ, List, [], ◌∷◌, ◌++◌}
use Rattle.roots.specs.Equation.{HoldsRoots}
use Rattle.roots.proofs.Entries.{as_linear}
use Rattle.roots.proofs.Completing.{ready_as, roots_as, linear_roots}
use Rattle.roots.proofs.Equations.{ready}
use Rattle.roots.proofs.ShortLists.{placed_entries}
use Rattle.roots.proofs.inner.equation.Equation.linear_root.Goals as goal

pub returns : goal.returns
returns c =
    let e = c.args.self in
    let f = e.polynomial.coefficients in
    let P = c.requires in
    let k = as_linear f (search rules) P.1 P.2 P.3 in
    let q = c.with_last.ensures ∙ ap (λ (l : List ℕ). l ++ c.quotient-root.result ∷ []) (placed_entries _ _ c.empty.ensures) in
    subst (HoldsRoots e.polynomial.field.degree e.polynomial.field.polynomial f) (sym q)
    (roots_as _ _ f _ _ k (linear_roots _ _ _ _ _ (ready_as _ _ f _ k (ready e)) P.0 c.quotient-root.ensures))
