-- What the inner code asks, at the degree that a call computed, once its tests have passed. Assumes nothing.
use mathlib.Core.Path.{◌≡◌, sym, ◌∙◌, subst}
use Prim.Native.Nat.{ℕ, ◌^◌, ◌<◌}
use Rattle.binary.specs.Factor.{degree_of}
use Rattle.arithmetic.specs.Modulus.{FieldModulus}
use Rattle.field.specs.Accepted.{Accepted}
use Rattle.field.specs.Refusal.{refusal, polynomial_tests, element_tests, elements_tests}
use Rattle.field.proofs.Tests.{accepted, element_passed, elements_passed}

module _ (m p : ℕ) (d : m ≡ degree_of p) where
  pub ready : Accepted p → FieldModulus m p
  ready A = subst (λ (k : ℕ). FieldModulus k p) (sym d) A.ready

  below : (a : ℕ) → a < 2 ^ degree_of p → a < 2 ^ m
  below a h = subst (λ (k : ℕ). a < 2 ^ k) (sym d) h

  pub polynomial_ready : (r : ℕ) → r ≡ refusal (polynomial_tests p) → r ≡ 0 → FieldModulus m p
  polynomial_ready r e z = ready (accepted p (sym e ∙ z))

  pub element_ready : (a r : ℕ) → r ≡ refusal (element_tests p a) → r ≡ 0 → FieldModulus m p × (a < 2 ^ m)
  element_ready a r e z = let q = element_passed p a (sym e ∙ z) in (ready q.0, below a q.1)

  pub elements_ready : (a b r : ℕ) → r ≡ refusal (elements_tests p a b) → r ≡ 0 → FieldModulus m p × (a < 2 ^ m) × (b < 2 ^ m)
  elements_ready a b r e z = let q = elements_passed p a b (sym e ∙ z) in (ready q.0, below a q.1, below b q.2)
