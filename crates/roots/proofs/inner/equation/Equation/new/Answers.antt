-- `new` meets its contract. Assumes nothing.
use Rattle.std.proofs.Common.{sym}
use Rattle.binary.proofs.Factor.{degree_is}
use Rattle.galois.proofs.Polynomial.{coeff_at}
use Rattle.roots.proofs.Tests.{equation_passed, padded_ready}
use Rattle.roots.proofs.inner.equation.Equation.new.Goals as goal

pub five-coefficients-requires : goal.five-coefficients-requires
five-coefficients-requires c = (equation_passed _ _ c.requires).few

pub invariant_of-polynomial : goal.invariant_of-polynomial
invariant_of-polynomial c =
    let R = padded_ready _ _ _ _ c.requires (sym (degree_is _ _ c.args.field.is_field.modulus.degree)) c.five-coefficients.ensures in
    record { small = λ i. coeff_at _ _ i R.small }

pub invariant_of-result : goal.invariant_of-result
invariant_of-result c =
    let R = padded_ready _ _ _ _ c.requires (sym (degree_is _ _ c.args.field.is_field.modulus.degree)) c.five-coefficients.ensures in
    record { largest = R.largest; nonzero = R.nonzero }
