-- The answer to a line: malformed (`line_refused`), or by the call of its kind (`line_called`). Assumes nothing.
use mathlib.Core.Path.{◌≡◌, sym, ap, ap₂, ◌∙◌}
use mathlib.Core.List.{List, [], ◌∷◌}
use Prim.Native.Nat.{ℕ}
use native.Mathlib.Omega.{arith}
use lib.Dec.{eqb}
use lib.ListN.{length, take}
use lib.Seq.{take_at}
use Rattle.algebra.specs.Lists.{padded}
use Rattle.field.specs.Refusal.{refusal}
use Rattle.field.proofs.Tests.{refused_by, answered_by}
use Rattle.frames.specs.Frame.{kind_of, polynomial_of, coefficients_of, line_tests}
use Rattle.frames.specs.Answer.{called_bytes, answer_bytes}

-- the coefficients, out of their places
pub front_padded : (n k : ℕ) (xs : List ℕ) → length xs ≡ k → take k (padded n xs) ≡ xs
front_padded n k xs e = take_at xs _ k e

module _ (l : List ℕ) where
  pub line_refused : refusal (line_tests l) ≡ 8 → 255 ∷ 8 ∷ [] ≡ answer_bytes l
  unfolding answer_bytes
  line_refused e =
      let said = called_bytes (eqb (kind_of l) 1) (polynomial_of l) (coefficients_of l) in
      refused_by (λ (k : ℕ). 255 ∷ k ∷ []) said 8 (line_tests l) (sym e) (λ q. absurd (omega arith))

  pub line_called : (k p : ℕ) (cs : List ℕ) → refusal (line_tests l) ≡ 0 → k ≡ kind_of l → p ≡ polynomial_of l → cs ≡ coefficients_of l
      → called_bytes (eqb k 1) p cs ≡ answer_bytes l
  unfolding answer_bytes
  line_called k p cs z ek ep ec =
      let said = called_bytes (eqb (kind_of l) 1) (polynomial_of l) (coefficients_of l) in
      ap (λ (j : ℕ). called_bytes (eqb j 1) p cs) ek
      ∙ ap₂ (λ (q : ℕ) (ds : List ℕ). called_bytes (eqb (kind_of l) 1) q ds) ep ec
      ∙ answered_by (λ (k : ℕ). 255 ∷ k ∷ []) said (line_tests l) z
