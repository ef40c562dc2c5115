-- `new` meets its contract. Assumes nothing.
use Rattle.std.proofs.Common.{arith}
use Rattle.binary.proofs.Factor.{test_irreducible}
use Rattle.arithmetic.proofs.inner.field.Field.new.Goals as goal

pub invariant_of-result : goal.invariant_of-result
invariant_of-result c =
    let M = c.args.modulus.is_modulus in
    record {
      is_field = record {
        modulus = M;
        field = record { irr = test_irreducible _ _ M.degree c.requires; pos = omega (arith, M.two) };
      };
    }
