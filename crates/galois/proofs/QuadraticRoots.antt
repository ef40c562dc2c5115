-- The roots of t² + t = D are those of the affine polynomial with constant D and the coefficients 1, 1. Assumes nothing.
use mathlib.Core.Path.{◌≡◌, sym, ap, ap₂, ◌∙◌}
use mathlib.Core.Logic.{◌↔◌}
use mathlib.Core.List.{[], ◌∷◌}
use Prim.Native.Nat.{ℕ, ◌^◌, ◌<◌}
use Rattle.binary.specs.Xor.{◌⊕◌}
use Rattle.binary.proofs.Xor.{xor_self, equal_of_xor, ac}
use Rattle.binary.specs.Product.{product}
use Rattle.binary.proofs.Product.{one_product}
use Rattle.galois.specs.Field.{Field}
use Rattle.galois.proofs.Power.{mul_lt}
use Rattle.galois.specs.Affine.{linear_at, affine_at}

module _ (m p : ℕ) (F : Field m p) where
  -- its value is (t² + t) + D
  pub quadratic_value : (D t : ℕ) → t < 2 ^ m → affine_at p D (1 ∷ 1 ∷ []) t ≡ (product p t t ⊕ t) ⊕ D
  unfolding linear_at affine_at
  quadratic_value D t h =
      ap₂ (λ (u v : ℕ). D ⊕ (u ⊕ (v ⊕ 0))) (one_product m p F.irr.degree t h)
      (one_product m p F.irr.degree (product p t t) (mul_lt m p F t t))
      ∙ (simp ac)

  -- t is a root of one exactly when it is a root of the other
  pub quadratic_affine : (D t : ℕ) → t < 2 ^ m → (affine_at p D (1 ∷ 1 ∷ []) t ≡ 0) ↔ (product p t t ⊕ t ≡ D)
  quadratic_affine D t h = (
    λ e. equal_of_xor (product p t t ⊕ t) D (sym (quadratic_value D t h) ∙ e),
    λ e. quadratic_value D t h ∙ ap (λ (x : ℕ). x ⊕ D) e ∙ xor_self D,
  )
