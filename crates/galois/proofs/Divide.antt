-- C4: division by x + r (`divide`, `divided`, `without_root_unique`) and the product with x + a (`with_root-value`), each undoing the other.
-- No condition on the numbers. Assumes nothing.
use mathlib.Core.Path.{◌≡◌, refl, sym, ap, ap₂, ◌∙◌, subst}
use mathlib.Core.List.{List, [], ◌∷◌}
use Prim.Native.Nat.{ℕ, suc, ◌^◌, ◌<◌}
use lib.ListN.{length, get_or}
use lib.Pow.{pow_pos}
use Rattle.binary.specs.Xor.{◌⊕◌}
use Rattle.binary.proofs.Xor.{xor-zero, zero_xor, xor_self, xor_assoc, xor_lt, ac}
use Rattle.binary.specs.Product.{product}
use Rattle.binary.proofs.Product.{product-zero, product-xor, xor-product}
use Rattle.galois.specs.Field.{Field}
use Rattle.galois.proofs.Power.{zero-product, mul_lt, mul_left}
use Rattle.galois.specs.Polynomial.{value, Coeffs, AllZero, sums, without_root, shifted, with_root}
use Rattle.galois.proofs.Polynomial.{zero-value, value_lt}

pub sums-length : (p r : ℕ) (f : List ℕ) → length (sums p r f) ≡ length f
unfolding sums
sums-length p r [] = refl
sums-length p r (c ∷ f) = ap suc (sums-length p r f)

pub without_root-length : (p r c : ℕ) (f : List ℕ) → length (without_root p r (c ∷ f)) ≡ length f
unfolding without_root
without_root-length p r c f = sums-length p r f

shifted-length : (p a b : ℕ) (f : List ℕ) → length (shifted p a b f) ≡ suc (length f)
unfolding shifted
shifted-length p a b [] = refl
shifted-length p a b (c ∷ f) = ap suc (shifted-length p a c f)

pub with_root-length : (p a : ℕ) (f : List ℕ) → length (with_root p a f) ≡ suc (length f)
unfolding with_root
with_root-length p a f = shifted-length p a 0 f

sums-zero : (p r : ℕ) (f : List ℕ) → AllZero f → AllZero (sums p r f)
unfolding sums
sums-zero p r [] z = tt
sums-zero p r (c ∷ f) z = (zero-value p (c ∷ f) r z, sums-zero p r f z.1)

pub without_root-zero : (p r : ℕ) (f : List ℕ) → AllZero f → AllZero (without_root p r f)
unfolding without_root
without_root-zero p r [] z = tt
without_root-zero p r (c ∷ f) z = sums-zero p r f z.1

-- if all the sums are zero, so is the list
pub zero-sums : (p r : ℕ) (f : List ℕ) → AllZero (sums p r f) → AllZero f
unfolding sums value
zero-sums p r [] z = tt
zero-sums p r (c ∷ f) z =
    let t = zero-sums p r f z.1 in
    (sym (ap (λ (x : ℕ). c ⊕ x) (ap (product p r) (zero-value p f r t) ∙ product-zero p r) ∙ xor-zero c) ∙ z.0, t)

-- the sums are the remainder and the quotient
sums-value : (p r : ℕ) (f : List ℕ) (x : ℕ) → value p (sums p r f) x ≡ value p f r ⊕ product p x (value p (without_root p r f) x)
unfolding sums without_root value
sums-value p r [] x = sym (ap (λ (v : ℕ). 0 ⊕ v) (product-zero p x) ∙ zero_xor 0)
sums-value p r (c ∷ f) x = refl

module _ (m p : ℕ) (F : Field m p) where
  -- f = (x + r)·q + f(r), in values
  step : (c x r u v : ℕ) → c ⊕ product p x (v ⊕ product p (x ⊕ r) u) ≡ (c ⊕ product p r v) ⊕ product p (x ⊕ r) (v ⊕ product p x u)
  step c x r u v = simp (product-xor m p F.irr.degree, xor-product m p F.irr.degree, mul_left m p F, ac)

  pub divide : (f : List ℕ) (r x : ℕ) → value p f x ≡ value p f r ⊕ product p (x ⊕ r) (value p (without_root p r f) x)
  unfolding value without_root
  divide [] r x = sym (ap (λ (v : ℕ). 0 ⊕ v) (product-zero p (x ⊕ r)) ∙ zero_xor 0)
  divide (c ∷ f) r x =
      ap (λ (v : ℕ). c ⊕ product p x v) (divide f r x)
      ∙ step c x r (value p (without_root p r f) x) (value p f r)
      ∙ ap (λ (v : ℕ). (c ⊕ product p r (value p f r)) ⊕ product p (x ⊕ r) v) (sym (sums-value p r f x))

  shifted-value : (a b x : ℕ) (f : List ℕ) → value p (shifted p a b f) x ≡ b ⊕ product p (x ⊕ a) (value p f x)
  unfolding shifted value
  shifted-value a b x [] = ap (λ (v : ℕ). b ⊕ v) (product-zero p x ∙ sym (product-zero p (x ⊕ a)))
  shifted-value a b x (c ∷ f) =
      ap (λ (v : ℕ). (b ⊕ product p a c) ⊕ product p x v) (shifted-value a c x f)
      ∙ (simp (product-xor m p F.irr.degree, xor-product m p F.irr.degree, mul_left m p F, ac))

  pub with_root-value : (a x : ℕ) (f : List ℕ) → value p (with_root p a f) x ≡ product p (x ⊕ a) (value p f x)
  unfolding with_root
  with_root-value a x f = shifted-value a 0 x f ∙ zero_xor (product p (x ⊕ a) (value p f x))

  pub with_root_root : (r : ℕ) (f : List ℕ) → value p (with_root p r f) r ≡ 0
  with_root_root r f = with_root-value r r f ∙ ap (λ (v : ℕ). product p v (value p f r)) (xor_self r) ∙ zero-product p (value p f r)

  -- dividing the product gives the factor back
  shifted_root : (r c : ℕ) (f : List ℕ) → value p (shifted p r c f) r ≡ c
  shifted_root r c f =
      shifted-value r c r f ∙ ap (λ (v : ℕ). c ⊕ product p v (value p f r)) (xor_self r)
      ∙ ap (λ (v : ℕ). c ⊕ v) (zero-product p (value p f r)) ∙ xor-zero c

  sums-shifted : (r c : ℕ) (f : List ℕ) → sums p r (shifted p r c f) ≡ c ∷ f
  unfolding sums shifted
  sums-shifted r c [] = ap (λ (v : ℕ). v ∷ []) (shifted_root r c [])
  sums-shifted r c (d ∷ f) = ap₂ ◌∷◌ (shifted_root r c (d ∷ f)) (sums-shifted r d f)

  -- the quotient of b + (x + r)·q is q
  pub without_root_unique : (r b : ℕ) (q : List ℕ) → without_root p r (shifted p r b q) ≡ q
  unfolding without_root shifted sums
  without_root_unique r b [] = refl
  without_root_unique r b (c ∷ q) = sums-shifted r c q

  pub without_root-with_root : (r : ℕ) (f : List ℕ) → without_root p r (with_root p r f) ≡ f
  unfolding with_root
  without_root-with_root r f = without_root_unique r 0 f

  shifted-sums : (r b : ℕ) (f : List ℕ) → shifted p r b (sums p r f) ≡ (b ⊕ product p r (value p f r)) ∷ f
  unfolding shifted sums value
  shifted-sums r b [] = ap (λ (v : ℕ). v ∷ []) (sym (ap (λ (v : ℕ). b ⊕ v) (product-zero p r) ∙ xor-zero b))
  shifted-sums r b (c ∷ f) =
      ap (λ (t : List ℕ). (b ⊕ product p r (c ⊕ product p r (value p f r))) ∷ t)
      (shifted-sums r (c ⊕ product p r (value p f r)) f ∙ ap (λ (v : ℕ). v ∷ f) (simp ac))

  -- f = (x + r)·q + f(r), in coefficients
  pub divided : (r c : ℕ) (f : List ℕ) → shifted p r (value p (c ∷ f) r) (without_root p r (c ∷ f)) ≡ c ∷ f
  unfolding without_root value
  divided r c f = shifted-sums r (c ⊕ product p r (value p f r)) f ∙ ap (λ (v : ℕ). v ∷ f) (simp ac)

  -- at a root the quotient and x + r give the list back
  pub with_root_back : (r c : ℕ) (f : List ℕ) → value p (c ∷ f) r ≡ 0 → with_root p r (without_root p r (c ∷ f)) ≡ c ∷ f
  unfolding with_root
  with_root_back r c f e = ap (λ (v : ℕ). shifted p r v (without_root p r (c ∷ f))) (sym e) ∙ divided r c f

  shifted_swap : (a b u w v : ℕ) (f : List ℕ) → u ⊕ product p a v ≡ w ⊕ product p b v
      → shifted p a u (shifted p b v f) ≡ shifted p b w (shifted p a v f)
  unfolding shifted
  shifted_swap a b u w v [] e = ap (λ (x : ℕ). x ∷ v ∷ []) e
  shifted_swap a b u w v (c ∷ f) e =
      ap₂ ◌∷◌
      (ap (λ (x : ℕ). u ⊕ x) (product-xor m p F.irr.degree a v (product p b c)) ∙ sym (xor_assoc u (product p a v) (product p a (product p b c)))
      ∙ ap₂ ◌⊕◌ e (mul_left m p F a b c)
      ∙ xor_assoc w (product p b v) (product p b (product p a c)) ∙ ap (λ (x : ℕ). w ⊕ x) (sym (product-xor m p F.irr.degree b v (product p a c))))
      (shifted_swap a b (v ⊕ product p b c) (v ⊕ product p a c) c f (simp ac))

  pub with_root_swap : (a b : ℕ) (f : List ℕ) → with_root p a (with_root p b f) ≡ with_root p b (with_root p a f)
  unfolding with_root
  with_root_swap a b f = shifted_swap a b 0 0 0 f (ap (λ (x : ℕ). 0 ⊕ x) (product-zero p a ∙ sym (product-zero p b)))

  -- the coefficients stay in the field
  sums_coeffs : (r : ℕ) (f : List ℕ) → Coeffs m f → Coeffs m (sums p r f)
  unfolding sums
  sums_coeffs r [] h = tt
  sums_coeffs r (c ∷ f) h = (value_lt m p F (c ∷ f) r h, sums_coeffs r f h.1)

  pub without_root_coeffs : (r : ℕ) (f : List ℕ) → Coeffs m f → Coeffs m (without_root p r f)
  unfolding without_root
  without_root_coeffs r [] h = tt
  without_root_coeffs r (c ∷ f) h = sums_coeffs r f h.1

  shifted_coeffs : (a b : ℕ) (f : List ℕ) → b < 2 ^ m → Coeffs m f → Coeffs m (shifted p a b f)
  unfolding shifted
  shifted_coeffs a b [] hb h = (hb, tt)
  shifted_coeffs a b (c ∷ f) hb h = (xor_lt m hb (mul_lt m p F a c), shifted_coeffs a c f h.0 h.1)

  pub with_root_coeffs : (a : ℕ) (f : List ℕ) → Coeffs m f → Coeffs m (with_root p a f)
  unfolding with_root
  with_root_coeffs a f h = shifted_coeffs a 0 f (pow_pos m) h

  pub with_root-zero : (a : ℕ) (f : List ℕ) → AllZero (with_root p a f) → AllZero f
  with_root-zero a f z = subst AllZero (without_root-with_root a f) (without_root-zero p a (with_root p a f) z)

-- the first of the values at r is that of the whole
pub sums_head : (p r : ℕ) (f : List ℕ) → get_or (sums p r f) 0 0 ≡ value p f r
unfolding sums value
sums_head p r [] = refl
sums_head p r (c ∷ f) = refl
