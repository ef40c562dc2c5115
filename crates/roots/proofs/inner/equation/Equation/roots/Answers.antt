-- `roots` meets its contract. Assumes nothing.
use Rattle.std.proofs.Common.{sym, subst, rules, get_or}
use Rattle.roots.specs.Equation.{HoldsRoots, quartic_of}
use Rattle.roots.proofs.Entries.{no_bits, as_affine, as_constant}
use Rattle.roots.proofs.Completing.{ready_as, roots_as, affine_roots, constant_roots}
use Rattle.roots.proofs.Equations.{ready}
use Rattle.roots.proofs.ShortLists.{placed_entries}
use Rattle.roots.proofs.inner.equation.Equation.roots.Goals as goal

pub returns-then-c2-c4-ne0 : goal.returns-then-c2-c4-ne0
returns-then-c2-c4-ne0 c =
    let f = c.args.self.polynomial.coefficients in
    roots_as _ _ f (quartic_of (get_or f 0 0) (get_or f 1 0) (get_or f 2 0) (get_or f 4 0)) _ (as_affine f (search rules) c.if-c3-ne0.false)
    (affine_roots _ _ _ _ c.solutions.ensures)

pub linear_root-requires : goal.linear_root-requires
linear_root-requires c =
    let z = no_bits _ _ c.if-c2-c4-ne0.false in
    (c.if-c1-ne0.true, z.0, c.if-c3-ne0.false, z.1)

pub returns-else-c1-ne0 : goal.returns-else-c1-ne0
returns-else-c1-ne0 c =
    let e = c.args.self in
    let f = e.polynomial.coefficients in
    let k = as_constant f (search rules) c.if-c1-ne0.false c.if-c2-c4-ne0.false c.if-c3-ne0.false in
    subst (HoldsRoots e.polynomial.field.degree e.polynomial.field.polynomial f) (sym (placed_entries _ _ c.empty.ensures))
    (roots_as _ _ f _ _ k (constant_roots _ _ _ (ready_as _ _ f _ k (ready e))))
