-- Zeros above the highest coefficient change nothing: neither the value (`value_pad`), nor the roots (`roots_pad`), nor a multiplicity
-- (`multiplicity_pad`); they are elements (`coeffs_pad`), and the whole is all zero where the rest is (`zero_pad`). Assumes nothing.
use mathlib.Core.Path.{◌≡◌, refl, sym, ap, ap₂, ◌∙◌}
use mathlib.Core.List.{List, [], ◌∷◌, ◌++◌}
use Prim.Native.Nat.{ℕ, zero, suc}
use native.Mathlib.Decide.{ℕ_discrete}
use native.Mathlib.Omega.{arith}
use lib.ListN.{length, replicate}
use lib.Pow.{pow_pos}
use Rattle.binary.specs.Xor.{◌⊕◌}
use Rattle.binary.specs.Product.{product}
use Rattle.galois.specs.Field.{Field}
use Rattle.galois.specs.Polynomial.{value, Coeffs, AllZero, sums, without_root}
use Rattle.galois.specs.Roots.{roots_of}
use Rattle.galois.specs.Multiplicity.{multiplicity_up_to, multiplicity}
use Rattle.galois.proofs.Polynomial.{zero-value}
use Rattle.galois.proofs.Divide.{without_root-length, without_root-zero}
use Rattle.galois.proofs.Roots.{zero_of_quotient}
use Rattle.galois.proofs.RootList.{roots_same}
use Rattle.galois.proofs.Multiplicity.{multiplicity_none, multiplicity_root}

abbrev zeros : ℕ → List ℕ
zeros n = replicate n 0

-- coefficients that are elements, and all zero
pub coeffs_pad : (m : ℕ) (f : List ℕ) (n : ℕ) → Coeffs m f → Coeffs m (f ++ replicate n 0)
coeffs_pad m [] zero h = tt
coeffs_pad m [] (suc n) h = (pow_pos m, coeffs_pad m [] n tt)
coeffs_pad m (c ∷ f) n h = (h.0, coeffs_pad m f n h.1)

pub coeffs_front : (m : ℕ) (f : List ℕ) (n : ℕ) → Coeffs m (f ++ replicate n 0) → Coeffs m f
coeffs_front m [] n h = tt
coeffs_front m (c ∷ f) n h = (h.0, coeffs_front m f n h.1)

pub pad_zero : (f : List ℕ) (n : ℕ) → AllZero f → AllZero (f ++ replicate n 0)
pad_zero [] zero z = tt
pad_zero [] (suc n) z = (refl, pad_zero [] n tt)
pad_zero (c ∷ f) n z = (z.0, pad_zero f n z.1)

pub zero_pad : (f : List ℕ) (n : ℕ) → AllZero (f ++ replicate n 0) → AllZero f
zero_pad [] n z = tt
zero_pad (c ∷ f) n z = (z.0, zero_pad f n z.1)

pub value_pad : (p : ℕ) (f : List ℕ) (n x : ℕ) → value p (f ++ replicate n 0) x ≡ value p f x
unfolding value
value_pad p [] n x = zero-value p (zeros n) x (pad_zero [] n tt)
value_pad p (c ∷ f) n x = ap (λ (v : ℕ). c ⊕ product p x v) (value_pad p f n x)

pub roots_pad : (m p : ℕ) (f : List ℕ) (n : ℕ) → roots_of m p (f ++ replicate n 0) ≡ roots_of m p f
roots_pad m p f n = roots_same m p (f ++ zeros n) f (λ x h. value_pad p f n x)

-- the quotient
sums_zeros : (p r n : ℕ) → sums p r (zeros n) ≡ zeros n
unfolding sums
sums_zeros p r zero = refl
sums_zeros p r (suc n) = ap₂ ◌∷◌ (zero-value p (zeros (suc n)) r (pad_zero [] (suc n) tt)) (sums_zeros p r n)

sums_pad : (p r : ℕ) (f : List ℕ) (n : ℕ) → sums p r (f ++ zeros n) ≡ sums p r f ++ zeros n
unfolding sums
sums_pad p r [] n = sums_zeros p r n
sums_pad p r (c ∷ f) n = ap₂ ◌∷◌ (value_pad p (c ∷ f) n r) (sums_pad p r f n)

pub without_root_pad : (p r c : ℕ) (f : List ℕ) (n : ℕ) → without_root p r (c ∷ (f ++ replicate n 0)) ≡ without_root p r (c ∷ f) ++ replicate n 0
unfolding without_root
without_root_pad p r c f n = sums_pad p r f n

-- the divisions, so many of them
zero-multiplicity_up_to : (p r k : ℕ) (f : List ℕ) → AllZero f → multiplicity_up_to p r k f ≡ k
unfolding multiplicity_up_to
zero-multiplicity_up_to p r zero f z = refl
zero-multiplicity_up_to p r (suc k) f z =
    ap₂ (λ (v t : ℕ). elim v as (λ (_ : ℕ). ℕ) [ zero ↦ suc t | suc j ↦ 0 ]) (zero-value p f r z)
    (zero-multiplicity_up_to p r k (without_root p r f) (without_root-zero p r f z))

pub multiplicity_up_to_pad : (p r k : ℕ) (f : List ℕ) (n : ℕ) → multiplicity_up_to p r k (f ++ replicate n 0) ≡ multiplicity_up_to p r k f
unfolding multiplicity_up_to
multiplicity_up_to_pad p r zero f n = refl
multiplicity_up_to_pad p r (suc k) [] n = zero-multiplicity_up_to p r (suc k) (zeros n) (pad_zero [] n tt) ∙ sym (zero-multiplicity_up_to p r (suc k) [] tt)
multiplicity_up_to_pad p r (suc k) (c ∷ f) n =
    ap₂ (λ (v t : ℕ). elim v as (λ (_ : ℕ). ℕ) [ zero ↦ suc t | suc j ↦ 0 ]) (value_pad p (c ∷ f) n r)
    (ap (multiplicity_up_to p r k) (without_root_pad p r c f n) ∙ multiplicity_up_to_pad p r k (without_root p r (c ∷ f)) n)

module _ (m p : ℕ) (F : Field m p) (r n : ℕ) where
  pad_at : (k : ℕ) (f : List ℕ) → length f ≡ k → (AllZero f → ⊥) → multiplicity p r (f ++ zeros n) ≡ multiplicity p r f
  pad_at zero [] e z = absurd (z tt)
  pad_at zero (c ∷ f) e z = absurd (omega arith)
  pad_at (suc k) [] e z = absurd (z tt)
  pad_at (suc k) (c ∷ f) e z =
      go (ℕ_discrete (value p (c ∷ f) r) 0)
      (λ y. pad_at k (without_root p r (c ∷ f)) (let l = without_root-length p r c f in omega arith) (λ w. z (zero_of_quotient m p F c r f y w)))
    where
      go : Dec (value p (c ∷ f) r ≡ 0)
          → (value p (c ∷ f) r ≡ 0 → multiplicity p r (without_root p r (c ∷ f) ++ zeros n) ≡ multiplicity p r (without_root p r (c ∷ f)))
          → multiplicity p r (c ∷ (f ++ zeros n)) ≡ multiplicity p r (c ∷ f)
      go (yes y) ih =
          multiplicity_root p r c (f ++ zeros n) (value_pad p (c ∷ f) n r ∙ y)
          ∙ ap suc (ap (multiplicity p r) (without_root_pad p r c f n) ∙ ih y) ∙ sym (multiplicity_root p r c f y)
      go (no y) ih =
          multiplicity_none p r (c ∷ (f ++ zeros n)) (λ w. y (sym (value_pad p (c ∷ f) n r) ∙ w)) ∙ sym (multiplicity_none p r (c ∷ f) y)

  pub multiplicity_pad : (f : List ℕ) → (AllZero f → ⊥) → multiplicity p r (f ++ replicate n 0) ≡ multiplicity p r f
  multiplicity_pad f z = pad_at (length f) f refl z
