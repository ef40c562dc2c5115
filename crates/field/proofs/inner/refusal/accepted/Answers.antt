-- `accepted` meets its contract: the tests apply in their order. Assumes nothing.
use Rattle.std.proofs.Common.{◌≡◌, ◌∙◌, sym, ap, ap₂, ℕ, arith, Bool, true, not, [], ◌∷◌, ◌≤◌, ◌<◌}
use Rattle.binary.specs.Xor.{Degree}
use Rattle.binary.specs.Factor.{factor_free}
use Rattle.field.specs.Limits.{polynomial_floor, polynomial_ceiling}
use Rattle.field.specs.Refusal.{◌⇒◌, outcome, turned_down, gives, out_of_range, polynomial_tests}
use Rattle.field.specs.Answers.{field_of}
use Rattle.field.proofs.Tests.{too_low, too_high, in_range, has_factor_lem}
use Rattle.field.proofs.inner.refusal.accepted.Goals.{then-p-lt-POLYNOMIAL_FLOOR-via-then-p-lt-POLYNOMIAL_FLOOR, then-p-lt-POLYNOMIAL_FLOOR-via-else-p-lt-POLYNOMIAL_FLOOR+then-p-ge-POLYNOMIAL_CEILING}
use Rattle.field.proofs.inner.refusal.accepted.Goals as goal

out : (p : ℕ) → out_of_range p ≡ true → turned_down 1 ≡ outcome (polynomial_tests p) (field_of p)
out p e = rw e

-- in range, the test of factors decides
tested : (p m : ℕ) (r : Bool) → polynomial_floor ≤ p → p < polynomial_ceiling → Degree m p → r ≡ factor_free m p
    → outcome (not r ⇒ 2 ∷ []) (field_of p) ≡ outcome (polynomial_tests p) (field_of p)
tested p m r h l d e = rw (in_range p h l, has_factor_lem m p r d e)

pub returns-then-p-lt-POLYNOMIAL_FLOOR : goal.returns-then-p-lt-POLYNOMIAL_FLOOR
returns-then-p-lt-POLYNOMIAL_FLOOR c =
    elim c.then-p-lt-POLYNOMIAL_FLOOR.branch [
      | then-p-lt-POLYNOMIAL_FLOOR-via-then-p-lt-POLYNOMIAL_FLOOR w ↦ out c.args.p (too_low c.args.p w.if-p-lt-POLYNOMIAL_FLOOR.true)
      | then-p-lt-POLYNOMIAL_FLOOR-via-else-p-lt-POLYNOMIAL_FLOOR+then-p-ge-POLYNOMIAL_CEILING w ↦ out c.args.p (too_high c.args.p w.if-p-ge-POLYNOMIAL_CEILING.true)
    ]

pub returns-then-factor_free : goal.returns-then-factor_free
returns-then-factor_free c =
    let q = c.new-modulus.ensures in
    let n = c.new.ensures in
    let M = rw q.0 at c.new-modulus.result.is_modulus in
    ap₂ (λ (p m : ℕ). gives (p, m)) (n.0 ∙ q.0) (n.1 ∙ q.1)
    ∙ ap (λ (b : Bool). outcome (not b ⇒ 2 ∷ []) (field_of c.args.p)) (sym c.if-factor_free.true)
    ∙ tested c.args.p _ _ (omega arith) (omega arith) M.degree (rw q.0 at c.factor_free.ensures)

pub returns : goal.returns
returns c =
    let q = c.new-modulus.ensures in
    let M = rw q.0 at c.new-modulus.result.is_modulus in
    ap (λ (b : Bool). outcome (not b ⇒ 2 ∷ []) (field_of c.args.p)) (sym c.if-factor_free.false)
    ∙ tested c.args.p _ _ (omega arith) (omega arith) M.degree (rw q.0 at c.factor_free.ensures)
