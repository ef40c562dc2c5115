-- C4, `few_roots`: a list of n + 1 coefficients that is not all zero has at most n different roots. Assumes nothing.
use mathlib.Core.Path.{◌≡◌, refl, sym, ap, ◌∙◌, subst}
use mathlib.Core.Logic.{◌≢◌, inl, inr}
use mathlib.Core.List.{List, [], ◌∷◌}
use Prim.Native.Nat.{ℕ, ◌≤◌, ◌<◌}
use native.Mathlib.Decide.{dec_le}
use native.Mathlib.Omega.{arith}
use lib.ListN.{length}
use Rattle.binary.specs.Xor.{◌⊕◌}
use Rattle.binary.proofs.Xor.{zero_xor, equal_of_xor, xor_lt}
use Rattle.binary.specs.Product.{product}
use Rattle.binary.proofs.Inverse.{no_zero_divisors}
use Rattle.algebra.specs.Lists.{Member, Nodup}
use Rattle.galois.specs.Field.{Field}
use Rattle.galois.specs.Polynomial.{value, Coeffs, AllZero, sums, without_root, Root}
use Rattle.galois.proofs.Polynomial.{value_lt}
use Rattle.galois.proofs.Divide.{without_root-length, zero-sums, divide, without_root_coeffs}

module _ (m p : ℕ) (F : Field m p) where
  -- another root is a root of the quotient
  pub root_of_quotient : (f : List ℕ) (r s : ℕ) → Coeffs m f → Root m p f r → Root m p f s → s ≢ r → Root m p (without_root p r f) s
  root_of_quotient f r s h a b n = (
    b.0,
    no_zero_divisors m p F.irr (s ⊕ r) (value p (without_root p r f) s) (λ z. n (equal_of_xor s r z)) (xor_lt m b.0 a.0)
        (value_lt m p F (without_root p r f) s (without_root_coeffs m p F r f h))
        (sym (zero_xor (product p (s ⊕ r) (value p (without_root p r f) s)))
        ∙ ap (λ (v : ℕ). v ⊕ product p (s ⊕ r) (value p (without_root p r f) s)) (sym a.1)
        ∙ sym (divide m p F f r s) ∙ b.1),
  )

  -- a list with a root and a zero quotient is zero
  pub zero_of_quotient : (c r : ℕ) (f : List ℕ) → value p (c ∷ f) r ≡ 0 → AllZero (without_root p r (c ∷ f)) → AllZero (c ∷ f)
  unfolding without_root sums
  zero_of_quotient c r f e z = zero-sums p r (c ∷ f) (e, z)

  pub all_zero_lem : (rs f : List ℕ) → Coeffs m f → Nodup rs → ((r : ℕ) → Member r rs → Root m p f r) → length f ≤ length rs → AllZero f
  all_zero_lem [] [] h d w l = tt
  all_zero_lem [] (c ∷ f) h d w l = absurd (omega arith)
  all_zero_lem (r ∷ rs) [] h d w l = tt
  all_zero_lem (r ∷ rs) (c ∷ f) h d w l =
      zero_of_quotient c r f (w r (inl refl)).1
      (all_zero_lem rs (without_root p r (c ∷ f)) (without_root_coeffs m p F r (c ∷ f) h) d.1
      (λ s k. root_of_quotient (c ∷ f) r s h (w r (inl refl)) (w s (inr k)) (λ e. d.0 (subst (λ (v : ℕ). Member v rs) e k)))
      (let e = without_root-length p r c f in omega arith))

  -- a list that is not all zero, of length n + 1, has at most n different roots
  pub few_roots : (rs f : List ℕ) → Coeffs m f → (AllZero f → ⊥) → Nodup rs → ((r : ℕ) → Member r rs → Root m p f r) → length rs < length f
  few_roots rs f h n d w = go (dec_le (length f) (length rs))
    where
      go : Dec (length f ≤ length rs) → length rs < length f
      go (yes l) = absurd (n (all_zero_lem rs f h d w l))
      go (no g) = omega arith
