-- E5: the multiplicity of r is the largest k with (x + r)^k dividing (`multiplicity-divides`, `multiplicity_largest`); counted with
-- multiplicity there are at most as many roots as the degree (`total_few`, `roots_total`). Assumes nothing.
use mathlib.Core.Path.{◌≡◌, refl, sym, ap, ◌∙◌, subst}
use mathlib.Core.Logic.{◌≢◌, inl, inr}
use mathlib.Core.List.{List, [], ◌∷◌, map}
use Prim.Native.Nat.{ℕ, zero, suc, ◌+◌, ◌^◌, ◌≤◌, ◌<◌}
use native.Mathlib.Omega.{arith}
use lib.ListN.{length}
use Rattle.algebra.specs.Lists.{Member, Nodup}
use Rattle.algebra.specs.Counts.{sum_of}
use Rattle.algebra.proofs.Onto.{map_alike}
use Rattle.algebra.proofs.Ascending.{ascending_nodup}
use Rattle.galois.specs.Field.{Field}
use Rattle.galois.specs.Polynomial.{Coeffs, AllZero, with_root_often}
use Rattle.galois.specs.Roots.{roots_of}
use Rattle.galois.specs.Multiplicity.{multiplicity, PowerDivides}
use Rattle.galois.proofs.Polynomial.{zero-value}
use Rattle.galois.proofs.Divide.{with_root-length, without_root-with_root, without_root_coeffs, with_root_coeffs, with_root-zero}
use Rattle.galois.proofs.Multiplicity.{multiplicity-same, multiplicity_other}
use Rattle.galois.proofs.Build.{multiplicity_split}
use Rattle.galois.proofs.RootList.{roots_iff, roots_ascending}

pub often_length : (p r k : ℕ) (f : List ℕ) → length (with_root_often p r k f) ≡ k + length f
unfolding with_root_often
often_length p r zero f = omega arith
often_length p r (suc k) f = let e = often_length p r k f in with_root-length p r (with_root_often p r k f) ∙ omega arith

module _ (m p : ℕ) (F : Field m p) where
  -- the factor (x + r)^k counts k
  pub often_same : (r k : ℕ) (f : List ℕ) → multiplicity p r (with_root_often p r k f) ≡ k + multiplicity p r f
  unfolding with_root_often
  often_same r zero f = omega arith
  often_same r (suc k) f = let e = often_same r k f in multiplicity-same m p F r (with_root_often p r k f) ∙ omega arith

  pub multiplicity-divides : (r : ℕ) (f : List ℕ) → (AllZero f → ⊥) → PowerDivides p r (multiplicity p r f) f
  multiplicity-divides r f z = let s = multiplicity_split m p F r f z in (s.0, s.1)

  pub multiplicity_largest : (r k : ℕ) (f : List ℕ) → PowerDivides p r k f → k ≤ multiplicity p r f
  multiplicity_largest r k f d = let e = ap (multiplicity p r) d.1 ∙ often_same r k d.0 in omega arith

  -- the quotient's coefficients are elements, the product's are, and neither is all zero
  of_often_coeffs : (r k : ℕ) (f : List ℕ) → Coeffs m (with_root_often p r k f) → Coeffs m f
  unfolding with_root_often
  of_often_coeffs r zero f h = h
  of_often_coeffs r (suc k) f h =
      let g = with_root_often p r k f in
      of_often_coeffs r k f (subst (Coeffs m) (without_root-with_root m p F r g) (without_root_coeffs m p F r (with_root_often p r (suc k) f) h))

  often_coeffs : (r k : ℕ) (f : List ℕ) → Coeffs m f → Coeffs m (with_root_often p r k f)
  unfolding with_root_often
  often_coeffs r zero f h = h
  often_coeffs r (suc k) f h = with_root_coeffs m p F r (with_root_often p r k f) (often_coeffs r k f h)

  often_zero : (r k : ℕ) (f : List ℕ) → AllZero (with_root_often p r k f) → AllZero f
  unfolding with_root_often
  often_zero r zero f z = z
  often_zero r (suc k) f z = often_zero r k f (with_root-zero m p F r (with_root_often p r k f) z)

  -- to any other number the factor counts nothing
  pub often_other : (r s k : ℕ) (f : List ℕ) → r < 2 ^ m → s < 2 ^ m → r ≢ s → Coeffs m f → (AllZero f → ⊥)
      → multiplicity p s (with_root_often p r k f) ≡ multiplicity p s f
  unfolding with_root_often
  often_other r s zero f hr hs n h z = refl
  often_other r s (suc k) f hr hs n h z =
      multiplicity_other m p F r s hr hs n (with_root_often p r k f) (often_coeffs r k f h) (λ w. z (often_zero r k f w))
      ∙ often_other r s k f hr hs n h z

  pub total_few : (rs f : List ℕ) → Nodup rs → ((r : ℕ) → Member r rs → r < 2 ^ m) → Coeffs m f → (AllZero f → ⊥)
      → sum_of (map (λ r. multiplicity p r f) rs) < length f
  unfolding sum_of
  total_few [] [] d b h z = absurd (z tt)
  total_few [] (c ∷ f) d b h z = omega arith
  total_few (r ∷ rs) f d b h z =
      let s = multiplicity_split m p F r f z in
      let k = multiplicity p r f in
      let q = s.0 in
      let hq : Coeffs m q = of_often_coeffs r k q (subst (Coeffs m) s.1 h) in
      let zq : AllZero q → ⊥ = λ w. s.2 (zero-value p q r w) in
      let l = total_few rs q d.1 (λ x j. b x (inr j)) hq zq in
      let t = ap sum_of
      (map_alike (λ x. multiplicity p x f) (λ x. multiplicity p x q) rs
      (λ x j. ap (multiplicity p x) s.1
      ∙ often_other r x k q (b r (inl refl)) (b x (inr j)) (λ e. d.0 (subst (λ (v : ℕ). Member v rs) (sym e) j)) hq zq)) in
      let e = ap length s.1 ∙ often_length p r k q in
      omega arith

  pub roots_total : (f : List ℕ) → Coeffs m f → (AllZero f → ⊥) → sum_of (map (λ r. multiplicity p r f) (roots_of m p f)) < length f
  roots_total f h z =
      total_few (roots_of m p f) f (ascending_nodup (roots_of m p f) (roots_ascending m p f)) (λ r k. ((roots_iff m p f r).0 k).0) h z
