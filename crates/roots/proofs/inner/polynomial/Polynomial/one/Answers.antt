-- `one` meets its contract. Assumes nothing.
use Rattle.roots.proofs.FromRoots.{one_small}
use Rattle.roots.proofs.inner.polynomial.Polynomial.one.Goals as goal

pub invariant_of-result : goal.invariant_of-result
invariant_of-result c = record { small = one_small _ _ c.args.field.is_field.field }
