-- `sum` meets its contract. Assumes nothing.
use Rattle.std.proofs.Common.{ℕ, sym}
use Rattle.binary.specs.Xor.{◌⊕◌}
use Rattle.binary.proofs.Xor.{is_xor}
use Rattle.field.specs.Refusal.{elements_tests}
use Rattle.field.proofs.Answered.{given_by}
use Rattle.field.proofs.sum.Goals as goal

pub returns : goal.returns
returns c =
    let a = c.args in
    given_by a.p c.in_ok-with_elements.field-0 (elements_tests a.p a.a.0 a.b.0) c.in_ok-with_elements.ensures
    (λ (m p : ℕ). a.a.0 ⊕ a.b.0) (sym (is_xor a.a.0 a.b.0))
