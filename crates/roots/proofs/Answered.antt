-- The answer of `build` where the tests have passed and handed a field on. Assumes nothing.
use Rattle.std.proofs.Common.{◌≡◌, sym, ap, ◌∙◌, subst, ℕ, ◌≤◌, List, length}
use Rattle.arithmetic.specs.declared.inner.field.Field.{Field}
use Rattle.galois.specs.Polynomial.{Coeffs, build}
use Rattle.algebra.specs.Lists.{padded}
use Rattle.field.specs.Refusal.{refusal, outcome, gives}
use Rattle.field.specs.Answers.{field_of}
use Rattle.field.proofs.Tests.{answered_by}
use Rattle.field.proofs.Answered.{field_given}
use Rattle.roots.specs.Limits.{most_coefficients, most_roots}
use Rattle.roots.specs.Calls.{build_tests, refused_built, build_answer}
use Rattle.roots.proofs.Tests.{build_passed}

module _ (p : ℕ) (rs : List ℕ) (f : Field) (e : gives (f.polynomial, f.degree) ≡ outcome (build_tests p rs) (field_of p)) where
  passed : refusal (build_tests p rs) ≡ 0
  passed = (field_given p f (build_tests p rs) e).passed

  pub roots_given : (length rs ≤ most_roots) × Coeffs f.degree rs
  roots_given =
      let q = build_passed p rs passed in
      (q.1, subst (λ (m : ℕ). Coeffs m rs) (sym (field_given p f (build_tests p rs) e).degree) q.2)

  pub built_given : (l : List ℕ) → l ≡ padded most_coefficients (build f.polynomial rs)
      → record { says = gives tt; coefficients = l } ≡ build_answer p rs
  built_given l h =
      ap (λ (l : List ℕ). record { says = gives tt; coefficients = l })
      (h ∙ ap (λ (q : ℕ). padded most_coefficients (build q rs)) (field_given p f (build_tests p rs) e).polynomial)
      ∙ answered_by refused_built _ (build_tests p rs) passed
