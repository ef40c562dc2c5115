-- `solved` meets its contract. Assumes nothing.
use Rattle.std.proofs.Common.{◌≡◌, sym, ap, ◌∙◌, subst, pow_pos, arith, ℕ, List}
use Rattle.arithmetic.specs.declared.inner.field.Field.{Field}
use Rattle.arithmetic.specs.Modulus.{FieldModulus}
use Rattle.binary.specs.Factor.{degree_of}
use Rattle.binary.proofs.Factor.{degree_is}
use Rattle.roots.proofs.Tests.{equation_passed}
use Rattle.field.specs.Refusal.{refusal}
use Rattle.roots.specs.Calls.{equation_tests, solve_answer}
use Rattle.roots.specs.ShortList.{Placed}
use Rattle.roots.proofs.Sorting.{sorted_roots}
use Rattle.roots.proofs.Solving.{solve_answer_lem}
use Rattle.roots.proofs.inner.solved.solved.Goals as goal

pub degree-requires : goal.degree-requires
degree-requires c =
    let A = (equation_passed c.args.p c.args.coefficients.now c.requires).accepted in
    let w = pow_pos (degree_of c.args.p) in
    omega (arith, A.ready.modulus.degree.0)

pub invariant_of-field : goal.invariant_of-field
invariant_of-field c =
    let A = (equation_passed c.args.p c.args.coefficients.now c.requires).accepted in
    record { is_field = subst (λ (m : ℕ). FieldModulus m c.args.p) (degree_is _ _ c.degree.ensures) A.ready }

pub multiplicities-counts-requires : goal.multiplicities-counts-requires
multiplicities-counts-requires c =
    subst (λ (xs : List ℕ). Placed xs c.sorted-found.result) (sorted_roots _ _ _ _ c.roots.ensures) c.sorted-found.ensures

pub returns : goal.returns
returns c =
    let e = c.new-equation.ensures in
    let cs = c.args.coefficients.now in
    solve_answer_lem _ cs (subst (λ (f : Field). refusal (equation_tests f.polynomial cs) ≡ 0) (sym e.field) c.requires) _
    (sym (degree_is _ _ c.new-equation.result.polynomial.field.is_field.modulus.degree)) _ e.coefficients _ _
    (subst (λ (xs : List ℕ). Placed xs c.sorted-found.result) (sorted_roots _ _ _ _ c.roots.ensures) c.sorted-found.ensures)
    c.multiplicities-counts.ensures
    ∙ ap (λ (f : Field). solve_answer f.polynomial cs) e.field
