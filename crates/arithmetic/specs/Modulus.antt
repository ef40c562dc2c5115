-- What the code asks of a field polynomial p and its degree m. Assumes nothing.
use Rattle.std.specs.Prelude.{ℕ}
use Rattle.binary.specs.Product.{Modulus}
use Rattle.galois.specs.Field.{Field}

pub record FieldModulus (m p : ℕ) : Type 0 where
  pub modulus : Modulus m p
  pub field : Field m p
