-- What acceptance shows of a field polynomial (`accepted` of proofs/Tests). Assumes nothing.
use Rattle.std.specs.Prelude.{ℕ, ◌≤◌}
use Rattle.binary.specs.Factor.{degree_of}
use Rattle.arithmetic.specs.Modulus.{FieldModulus}
use Rattle.field.specs.Limits.{largest_degree}

pub record Accepted (p : ℕ) : Type 0 where
  pub ready : FieldModulus (degree_of p) p
  pub largest : degree_of p ≤ largest_degree
