-- D5: an affine polynomial as a list of coefficients (`affine_value`), and `affine_few`: with x^(2^i) as its highest term it has at most
-- 2^i different roots. Assumes nothing.
use mathlib.Core.Path.{◌≡◌, refl, sym, ap, ap₂, ◌∙◌}
use mathlib.Core.Logic.{◌≢◌}
use mathlib.Core.List.{List, [], ◌∷◌, ◌++◌}
use Prim.Native.Nat.{ℕ, zero, suc, ◌*◌, ◌^◌, ◌≤◌, ◌<◌}
use native.Mathlib.Omega.{arith}
use lib.ListN.{length, length-append}
use lib.Pow.{pow_pos}
use Rattle.binary.specs.Xor.{◌⊕◌}
use Rattle.binary.proofs.Xor.{zero_xor}
use Rattle.binary.specs.Product.{product}
use Rattle.binary.proofs.Product.{product_comm, product-zero, product-xor, product_assoc}
use Rattle.algebra.specs.Lists.{Member, Nodup}
use Rattle.galois.specs.Field.{Field}
use Rattle.galois.specs.Polynomial.{value, Coeffs, AllZero}
use Rattle.galois.specs.Affine.{linear_at, affine_at}
use Rattle.galois.proofs.Roots.{few_roots}

-- x·f(x²) for f(x)
unfoldable pub gap : List ℕ → List ℕ
gap [] = []
gap (c ∷ f) = 0 ∷ c ∷ gap f

-- f(x²) for f(x), with no zero at its end
unfoldable pub spread : List ℕ → List ℕ
spread [] = []
spread (c ∷ f) = c ∷ gap f

-- the linear part divided by x
unfoldable pub linear_tail : List ℕ → List ℕ
linear_tail [] = []
linear_tail (l ∷ ls) = l ∷ spread (linear_tail ls)

gap_length : (f : List ℕ) → length (gap f) ≡ 2 * length f
unfolding gap
gap_length [] = refl
gap_length (c ∷ f) = let e = gap_length f in omega arith

spread_length : (f : List ℕ) → 0 < length f → suc (length (spread f)) ≡ 2 * length f
unfolding spread
spread_length [] h = absurd (omega arith)
spread_length (c ∷ f) h = let e = gap_length f in omega arith

-- i + 1 coefficients l give 2 ^ i coefficients
pub linear_tail_length : (i : ℕ) (ls : List ℕ) → length ls ≡ suc i → length (linear_tail ls) ≡ 2 ^ i
unfolding linear_tail spread
linear_tail_length i [] e = absurd (omega arith)
linear_tail_length zero (l ∷ []) e = refl
linear_tail_length zero (l ∷ k ∷ ls) e = absurd (omega arith)
linear_tail_length (suc i) (l ∷ ls) e =
    let a = linear_tail_length i ls (omega arith) in
    let b = spread_length (linear_tail ls) (let w = pow_pos i in omega arith) in
    omega arith

gap_zero : (f : List ℕ) → AllZero (gap f) → AllZero f
unfolding gap
gap_zero [] z = tt
gap_zero (c ∷ f) z = (z.1.0, gap_zero f z.1.1)

spread_zero : (f : List ℕ) → AllZero (spread f) → AllZero f
unfolding spread
spread_zero [] z = tt
spread_zero (c ∷ f) z = (z.0, gap_zero f z.1)

pub linear_tail_zero : (ls : List ℕ) → AllZero (linear_tail ls) → AllZero ls
unfolding linear_tail
linear_tail_zero [] z = tt
linear_tail_zero (l ∷ ls) z = (z.0, linear_tail_zero ls (spread_zero (linear_tail ls) z.1))

last_zero : (ks : List ℕ) (l : ℕ) → AllZero (ks ++ l ∷ []) → l ≡ 0
last_zero [] l z = z.0
last_zero (k ∷ ks) l z = last_zero ks l z.1

gap_coeffs : (m : ℕ) (f : List ℕ) → Coeffs m f → Coeffs m (gap f)
unfolding gap
gap_coeffs m [] h = tt
gap_coeffs m (c ∷ f) h = (pow_pos m, (h.0, gap_coeffs m f h.1))

spread_coeffs : (m : ℕ) (f : List ℕ) → Coeffs m f → Coeffs m (spread f)
unfolding spread
spread_coeffs m [] h = tt
spread_coeffs m (c ∷ f) h = (h.0, gap_coeffs m f h.1)

linear_tail_coeffs : (m : ℕ) (ls : List ℕ) → Coeffs m ls → Coeffs m (linear_tail ls)
unfolding linear_tail
linear_tail_coeffs m [] h = tt
linear_tail_coeffs m (l ∷ ls) h = (h.0, spread_coeffs m (linear_tail ls) (linear_tail_coeffs m ls h.1))

pub affine_coeffs : (m c : ℕ) (ls : List ℕ) → Coeffs m (c ∷ ls) → Coeffs m (c ∷ linear_tail ls)
affine_coeffs m c ls h = (h.0, linear_tail_coeffs m ls h.1)

module _ (m p : ℕ) (F : Field m p) where
  gap_value : (f : List ℕ) (x : ℕ) → value p (gap f) x ≡ product p x (value p f (product p x x))
  unfolding gap value
  gap_value [] x = sym (product-zero p x)
  gap_value (c ∷ f) x =
      zero_xor (product p x (c ⊕ product p x (value p (gap f) x)))
      ∙ ap (λ (v : ℕ). product p x (c ⊕ v))
      (ap (product p x) (gap_value f x) ∙ sym (product_assoc m p F.irr.degree x x (value p f (product p x x))))

  spread_value : (f : List ℕ) (x : ℕ) → value p (spread f) x ≡ value p f (product p x x)
  unfolding spread value
  spread_value [] x = refl
  spread_value (c ∷ f) x =
      ap (λ (v : ℕ). c ⊕ v)
      (ap (product p x) (gap_value f x) ∙ sym (product_assoc m p F.irr.degree x x (value p f (product p x x))))

  -- x times the tail is the linear part
  pub linear_value : (ls : List ℕ) (x : ℕ) → product p x (value p (linear_tail ls) x) ≡ linear_at p ls x
  unfolding linear_tail value linear_at
  linear_value [] x = product-zero p x
  linear_value (l ∷ ls) x =
      product-xor m p F.irr.degree x l (product p x (value p (spread (linear_tail ls)) x))
      ∙ ap₂ ◌⊕◌ (product_comm p x l)
      (ap (λ (v : ℕ). product p x (product p x v)) (spread_value (linear_tail ls) x)
      ∙ sym (product_assoc m p F.irr.degree x x (value p (linear_tail ls) (product p x x)))
      ∙ linear_value ls (product p x x))

  -- the list with constant c has the value of the affine polynomial
  pub affine_value : (c : ℕ) (ls : List ℕ) (x : ℕ) → value p (c ∷ linear_tail ls) x ≡ affine_at p c ls x
  unfolding value affine_at
  affine_value c ls x = ap (λ (v : ℕ). c ⊕ v) (linear_value ls x)

  -- highest term x^(2^i), i the number of coefficients ks before its own, l: at most 2^i different roots
  pub affine_few : (c : ℕ) (ks : List ℕ) (l : ℕ) → Coeffs m (c ∷ (ks ++ l ∷ [])) → l ≢ 0 → (rs : List ℕ) → Nodup rs
      → ((r : ℕ) → Member r rs → (r < 2 ^ m) × (affine_at p c (ks ++ l ∷ []) r ≡ 0)) → length rs ≤ 2 ^ length ks
  affine_few c ks l h n rs d w =
      let a = few_roots m p F rs (c ∷ linear_tail (ks ++ l ∷ [])) (affine_coeffs m c (ks ++ l ∷ []) h)
      (λ z. n (last_zero ks l (linear_tail_zero (ks ++ l ∷ []) z.1))) d
      (λ r k. ((w r k).0, affine_value c (ks ++ l ∷ []) r ∙ (w r k).1)) in
      let e = linear_tail_length (length ks) (ks ++ l ∷ []) (length-append ks (l ∷ []) ∙ omega arith) in
      omega arith
