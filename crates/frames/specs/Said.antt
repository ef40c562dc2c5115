-- What the code has read of a well-formed line. Assumes nothing.
use Rattle.std.specs.Prelude.{◌≡◌, List, ℕ, take}
use Rattle.field.specs.Refusal.{refusal}
use Rattle.frames.specs.Frame.{kind_of, polynomial_of, coefficients_of, line_tests}
use Rattle.frames.specs.Kind.{kind_byte}
use Rattle.frames.specs.declared.inner.frame.Frame.{Frame}

pub record Says (l : List ℕ) (f : Frame) : Type 0 where
  pub accepted : refusal (line_tests l) ≡ 0
  pub kind : kind_byte f.kind ≡ kind_of l
  pub polynomial : f.polynomial ≡ polynomial_of l
  pub coefficients : take f.count f.coefficients ≡ coefficients_of l
