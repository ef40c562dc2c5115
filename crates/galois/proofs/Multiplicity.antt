-- E5, `multiplicity-with_root`: the factor x + a adds 1 to the multiplicity of a, and nothing to any other. Assumes nothing.
use mathlib.Core.Path.{◌≡◌, refl, sym, ap, ◌∙◌}
use mathlib.Core.Logic.{◌≢◌}
use mathlib.Core.List.{List, [], ◌∷◌}
use Prim.Native.Nat.{ℕ, zero, suc, ◌+◌, ◌^◌, ◌<◌}
use native.Mathlib.Decide.{ℕ_discrete}
use native.Mathlib.Omega.{arith}
use lib.ListN.{length}
use Rattle.binary.specs.Xor.{◌⊕◌}
use Rattle.binary.proofs.Xor.{equal_of_xor, xor_lt}
use Rattle.binary.specs.Product.{product}
use Rattle.binary.proofs.Product.{product-zero}
use Rattle.binary.proofs.Inverse.{no_zero_divisors}
use Rattle.algebra.specs.Counts.{same}
use Rattle.algebra.proofs.Members.{same_refl, same_apart}
use Rattle.galois.specs.Field.{Field}
use Rattle.galois.specs.Polynomial.{value, Coeffs, AllZero, without_root, with_root}
use Rattle.galois.proofs.Polynomial.{value_lt}
use Rattle.galois.proofs.Divide.{without_root-length, with_root-length, with_root-value, with_root_root, without_root-with_root, with_root_back, with_root_swap, without_root_coeffs}
use Rattle.galois.proofs.Roots.{zero_of_quotient}
use Rattle.galois.specs.Multiplicity.{multiplicity_up_to, multiplicity}

pub at_root : (p r n : ℕ) (f : List ℕ) → value p f r ≡ 0 → multiplicity_up_to p r (suc n) f ≡ suc (multiplicity_up_to p r n (without_root p r f))
unfolding multiplicity_up_to
at_root p r n f e = ap (λ (v : ℕ). elim v as (λ (_ : ℕ). ℕ) [ zero ↦ suc (multiplicity_up_to p r n (without_root p r f)) | suc k ↦ 0 ]) e

pub at_other : (p r n : ℕ) (f : List ℕ) → value p f r ≢ 0 → multiplicity_up_to p r (suc n) f ≡ 0
unfolding multiplicity_up_to
at_other p r n f e = go (value p f r) e
  where
    go : (v : ℕ) → v ≢ 0 → ◌≡◌ {A = ℕ} (elim v as (λ (_ : ℕ). ℕ) [ zero ↦ suc (multiplicity_up_to p r n (without_root p r f)) | suc k ↦ 0 ]) 0
    go zero g = absurd (g refl)
    go (suc v) g = refl

-- a number that is no root has multiplicity 0, and a root has a positive one
pub multiplicity_none : (p r : ℕ) (f : List ℕ) → value p f r ≢ 0 → multiplicity p r f ≡ 0
unfolding multiplicity multiplicity_up_to
multiplicity_none p r [] e = refl
multiplicity_none p r (c ∷ f) e = at_other p r (length f) (c ∷ f) e

pub multiplicity_root : (p r c : ℕ) (f : List ℕ) → value p (c ∷ f) r ≡ 0 → multiplicity p r (c ∷ f) ≡ suc (multiplicity p r (without_root p r (c ∷ f)))
unfolding multiplicity
multiplicity_root p r c f e = at_root p r (length f) (c ∷ f) e ∙ ap (λ (n : ℕ). suc (multiplicity_up_to p r n (without_root p r (c ∷ f)))) (sym (without_root-length p r c f))

module _ (m p : ℕ) (F : Field m p) where
  -- the factor x + r counts one
  pub multiplicity-same : (r : ℕ) (f : List ℕ) → multiplicity p r (with_root p r f) ≡ suc (multiplicity p r f)
  unfolding multiplicity
  multiplicity-same r f =
      ap (λ (n : ℕ). multiplicity_up_to p r n (with_root p r f)) (with_root-length p r f)
      ∙ at_root p r (length f) (with_root p r f) (with_root_root m p F r f)
      ∙ ap (λ (g : List ℕ). suc (multiplicity_up_to p r (length f) g)) (without_root-with_root m p F r f)

  -- another factor counts nothing
  module _ (a r : ℕ) (ha : a < 2 ^ m) (hr : r < 2 ^ m) (n : a ≢ r) where
    other : (k : ℕ) (f : List ℕ) → length f ≡ k → Coeffs m f → (AllZero f → ⊥) → multiplicity_up_to p r (suc k) (with_root p a f) ≡ multiplicity_up_to p r k f
    other zero [] e h z = absurd (z tt)
    other zero (c ∷ f) e h z = absurd (omega arith)
    other (suc k) [] e h z = absurd (z tt)
    other (suc k) (c ∷ f) e h z =
        go (ℕ_discrete (value p (c ∷ f) r) 0)
        (λ y. other k (without_root p r (c ∷ f)) (let l = without_root-length p r c f in omega arith) (without_root_coeffs m p F r (c ∷ f) h) (λ w. z (zero_of_quotient m p F c r f y w)))
      where
        go : Dec (value p (c ∷ f) r ≡ 0)
            → (value p (c ∷ f) r ≡ 0 → multiplicity_up_to p r (suc k) (with_root p a (without_root p r (c ∷ f))) ≡ multiplicity_up_to p r k (without_root p r (c ∷ f)))
            → multiplicity_up_to p r (suc (suc k)) (with_root p a (c ∷ f)) ≡ multiplicity_up_to p r (suc k) (c ∷ f)
        go (yes y) ih =
            at_root p r (suc k) (with_root p a (c ∷ f)) (with_root-value m p F a r (c ∷ f) ∙ ap (product p (r ⊕ a)) y ∙ product-zero p (r ⊕ a))
            ∙ ap (λ (g : List ℕ). suc (multiplicity_up_to p r (suc k) g))
            (ap (λ (g : List ℕ). without_root p r (with_root p a g)) (sym (with_root_back m p F r c f y))
            ∙ ap (without_root p r) (with_root_swap m p F a r (without_root p r (c ∷ f))) ∙ without_root-with_root m p F r (with_root p a (without_root p r (c ∷ f))))
            ∙ ap suc (ih y) ∙ sym (at_root p r k (c ∷ f) y)
        go (no y) ih =
            at_other p r (suc k) (with_root p a (c ∷ f))
            (λ w. y (no_zero_divisors m p F.irr (r ⊕ a) (value p (c ∷ f) r) (λ s. n (sym (equal_of_xor r a s))) (xor_lt m hr ha)
            (value_lt m p F (c ∷ f) r h) (sym (with_root-value m p F a r (c ∷ f)) ∙ w)))
            ∙ sym (at_other p r k (c ∷ f) y)

    pub multiplicity_other : (f : List ℕ) → Coeffs m f → (AllZero f → ⊥) → multiplicity p r (with_root p a f) ≡ multiplicity p r f
    unfolding multiplicity
    multiplicity_other f h z = ap (λ (k : ℕ). multiplicity_up_to p r k (with_root p a f)) (with_root-length p a f) ∙ other (length f) f refl h z

  -- E5
  pub multiplicity-with_root : (a r : ℕ) (f : List ℕ) → a < 2 ^ m → r < 2 ^ m → Coeffs m f → (AllZero f → ⊥)
      → multiplicity p r (with_root p a f) ≡ same a r + multiplicity p r f
  multiplicity-with_root a r f ha hr h z = go (ℕ_discrete a r)
    where
      go : Dec (a ≡ r) → multiplicity p r (with_root p a f) ≡ same a r + multiplicity p r f
      go (yes e) =
          let s : same a r ≡ 1 = ap (same a) (sym e) ∙ same_refl a in
          ap (λ (b : ℕ). multiplicity p r (with_root p b f)) e ∙ multiplicity-same r f ∙ omega arith
      go (no n) = let s = same_apart a r n in multiplicity_other a r ha hr n f h z ∙ omega arith
