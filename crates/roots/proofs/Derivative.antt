-- E5: at a root r of c0 + .. + c4·x⁴ the quotient by x + r has the value of the derivative, c1 + c3·r² (`quotient_at`); where that is not 0
-- the multiplicity is 1 (`simple_root`). Assumes nothing.
use mathlib.Core.Path.{◌≡◌, refl, sym, ap, ◌∙◌, subst}
use mathlib.Core.Logic.{◌≢◌}
use mathlib.Core.List.{List, [], ◌∷◌}
use Prim.Native.Nat.{ℕ, suc, ◌^◌, ◌<◌}
use lib.Bits.{bit_xor}
use lib.ListN.{length, get_or}
use Rattle.algebra.specs.Expression.{var, O, ◌⊕◌ as ◌∔◌, ◌⊗◌}
use Rattle.algebra.proofs.Identity.{ring_on}
use Rattle.binary.specs.Xor.{◌⊕◌}
use Rattle.binary.proofs.Xor.{is_xor}
use Rattle.binary.specs.Product.{product}
use Rattle.galois.specs.Field.{Field}
use Rattle.galois.specs.Polynomial.{value, Coeffs, sums, without_root}
use Rattle.galois.specs.Multiplicity.{multiplicity}
use Rattle.galois.proofs.Field.{ring}
use Rattle.galois.proofs.Multiplicity.{multiplicity_none, multiplicity_root}
use Rattle.roots.specs.Limits.{most_coefficients}
use Rattle.roots.proofs.Entries.{five_entries}

module _ (m p : ℕ) (F : Field m p) (r : ℕ) (hr : r < 2 ^ m) where
  quotient_at : (c0 c1 c2 c3 c4 : ℕ) → Coeffs m (c0 ∷ c1 ∷ c2 ∷ c3 ∷ c4 ∷ [])
      → value p (without_root p r (c0 ∷ c1 ∷ c2 ∷ c3 ∷ c4 ∷ [])) r ≡ c1 ⊕ product p c3 (product p r r)
  unfolding without_root sums value
  quotient_at c0 c1 c2 c3 c4 h =
      ring_on (ring m p F) ((r, hr) ∷ (c1, h.1.0) ∷ (c2, h.1.1.0) ∷ (c3, h.1.1.1.0) ∷ (c4, h.1.1.1.1.0) ∷ [])
      (var 1 ∔ var 0 ⊗ (var 2 ∔ var 0 ⊗ (var 3 ∔ var 0 ⊗ (var 4 ∔ var 0 ⊗ O)))
      ∔ var 0 ⊗ (var 2 ∔ var 0 ⊗ (var 3 ∔ var 0 ⊗ (var 4 ∔ var 0 ⊗ O))
      ∔ var 0 ⊗ (var 3 ∔ var 0 ⊗ (var 4 ∔ var 0 ⊗ O) ∔ var 0 ⊗ (var 4 ∔ var 0 ⊗ O ∔ var 0 ⊗ O))))
      (var 1 ∔ var 3 ⊗ (var 0 ⊗ var 0))
      refl

  -- by the products that the code makes
  pub simple_root : (f : List ℕ) → length f ≡ most_coefficients → Coeffs m f → value p f r ≡ 0 → (a b : ℕ) → a ≡ product p r r
      → b ≡ product p (get_or f 3 0) a → bit_xor (get_or f 1 0) b ≢ 0 → 1 ≡ multiplicity p r f
  simple_root f five h z a b ea eb n =
      sym (ap (multiplicity p r) e ∙ multiplicity_root p r (get_or f 0 0) _ (sym (ap (λ (l : List ℕ). value p l r) e) ∙ z)
      ∙ ap suc (multiplicity_none p r _ (λ w. n (sym at ∙ w))))
    where
      e : f ≡ get_or f 0 0 ∷ get_or f 1 0 ∷ get_or f 2 0 ∷ get_or f 3 0 ∷ get_or f 4 0 ∷ []
      e = five_entries f five

      at : value p (without_root p r (get_or f 0 0 ∷ get_or f 1 0 ∷ get_or f 2 0 ∷ get_or f 3 0 ∷ get_or f 4 0 ∷ [])) r ≡ bit_xor (get_or f 1 0) b
      at =
          quotient_at (get_or f 0 0) (get_or f 1 0) (get_or f 2 0) (get_or f 3 0) (get_or f 4 0) (subst (Coeffs m) e h)
          ∙ ap (λ (v : ℕ). get_or f 1 0 ⊕ v) (sym (eb ∙ ap (product p (get_or f 3 0)) ea)) ∙ is_xor (get_or f 1 0) b
