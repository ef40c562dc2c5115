-- C4: the value of a coefficient list stays in the field, and of a list joined to another; coefficients place by place (`coeff_at`,
-- `coeffs_of`, `zero_at`, `zero_of`) and from a place on (`coeffs_drop`). Assumes nothing.
use mathlib.Core.Path.{◌≡◌, refl, sym, ap, ap₂, ◌∙◌}
use mathlib.Core.List.{List, [], ◌∷◌, ◌++◌}
use Prim.Native.Nat.{ℕ, zero, suc, ◌^◌, ◌<◌}
use native.Mathlib.Omega.{arith}
use lib.ListN.{length, get_or, drop}
use lib.Pow.{pow_pos}
use Rattle.binary.specs.Xor.{◌⊕◌}
use Rattle.binary.proofs.Xor.{zero_xor, xor_assoc, xor_lt}
use Rattle.binary.specs.Product.{product}
use Rattle.binary.proofs.Product.{product-zero, one_product, product-xor, product_assoc}
use Rattle.galois.specs.Field.{Field}
use Rattle.galois.specs.Power.{power}
use Rattle.galois.proofs.Power.{mul_lt}
use Rattle.galois.specs.Polynomial.{value, Coeffs, AllZero}

-- every coefficient is an element, place by place
pub coeff_at : (m : ℕ) (f : List ℕ) (i : ℕ) → Coeffs m f → get_or f i 0 < 2 ^ m
coeff_at m [] i h = pow_pos m
coeff_at m (c ∷ f) zero h = h.0
coeff_at m (c ∷ f) (suc i) h = coeff_at m f i h.1

pub coeffs_of : (m : ℕ) (f : List ℕ) → ((i : ℕ) → i < length f → get_or f i 0 < 2 ^ m) → Coeffs m f
coeffs_of m [] h = tt
coeffs_of m (c ∷ f) h = (h 0 (omega arith), coeffs_of m f (λ i l. h (suc i) (omega arith)))

-- all zero, place by place
pub zero_at : (f : List ℕ) (i : ℕ) → AllZero f → get_or f i 0 ≡ 0
zero_at [] i z = refl
zero_at (c ∷ f) zero z = z.0
zero_at (c ∷ f) (suc i) z = zero_at f i z.1

pub zero_of : (f : List ℕ) → ((i : ℕ) → i < length f → get_or f i 0 ≡ 0) → AllZero f
zero_of [] h = tt
zero_of (c ∷ f) h = (h 0 (omega arith), zero_of f (λ i l. h (suc i) (omega arith)))

pub coeffs_drop : (m : ℕ) (f : List ℕ) (i : ℕ) → Coeffs m f → Coeffs m (drop i f)
coeffs_drop m f zero h = h
coeffs_drop m [] (suc i) h = tt
coeffs_drop m (c ∷ f) (suc i) h = coeffs_drop m f i h.1

pub zero-value : (p : ℕ) (f : List ℕ) (x : ℕ) → AllZero f → value p f x ≡ 0
unfolding value
zero-value p [] x z = refl
zero-value p (c ∷ f) x z = ap₂ ◌⊕◌ z.0 (ap (product p x) (zero-value p f x z.1) ∙ product-zero p x) ∙ zero_xor 0

module _ (m p : ℕ) (F : Field m p) where
  pub value_lt : (f : List ℕ) (x : ℕ) → Coeffs m f → value p f x < 2 ^ m
  unfolding value
  value_lt [] x h = pow_pos m
  value_lt (c ∷ f) x h = xor_lt m h.0 (mul_lt m p F x (value p f x))

  pub value-append : (f g : List ℕ) (x : ℕ) → Coeffs m g → value p (f ++ g) x ≡ value p f x ⊕ product p (power p x (length f)) (value p g x)
  unfolding value power
  value-append [] g x h = sym (zero_xor (product p 1 (value p g x)) ∙ one_product m p F.irr.degree (value p g x) (value_lt g x h))
  value-append (c ∷ f) g x h =
      ap (λ (v : ℕ). c ⊕ product p x v) (value-append f g x h)
      ∙ ap (λ (v : ℕ). c ⊕ v)
      (product-xor m p F.irr.degree x (value p f x) (product p (power p x (length f)) (value p g x))
      ∙ ap (λ (v : ℕ). product p x (value p f x) ⊕ v) (sym (product_assoc m p F.irr.degree x (power p x (length f)) (value p g x))))
      ∙ sym (xor_assoc c (product p x (value p f x)) (product p (product p x (power p x (length f))) (value p g x)))
