-- As many different roots as the degree: each has multiplicity 1 (`all_simple`), so that nothing need be divided. Assumes nothing.
use mathlib.Core.Path.{◌≡◌, ap, ◌∙◌}
use mathlib.Core.Logic.{◌≢◌}
use mathlib.Core.List.{List, ◌∷◌}
use Prim.Native.Nat.{ℕ, suc}
use native.Mathlib.Decide.{ℕ_discrete}
use native.Mathlib.Omega.{arith}
use lib.ListN.{length}
use Rattle.algebra.specs.Lists.{Member, Nodup}
use Rattle.galois.specs.Field.{Field}
use Rattle.galois.specs.Polynomial.{value, Coeffs, AllZero, Root, without_root}
use Rattle.galois.specs.Multiplicity.{multiplicity}
use Rattle.galois.proofs.Divide.{without_root-length, without_root_coeffs}
use Rattle.galois.proofs.Roots.{root_of_quotient, zero_of_quotient, few_roots}
use Rattle.galois.proofs.Multiplicity.{multiplicity_none, multiplicity_root}

module _ (m p : ℕ) (F : Field m p) (c : ℕ) (f rs : List ℕ) (h : Coeffs m (c ∷ f)) (n : AllZero (c ∷ f) → ⊥) (d : Nodup rs)
    (roots : (s : ℕ) → Member s rs → Root m p (c ∷ f) s) (full : length rs ≡ length f) where
  no_double : (r : ℕ) → Member r rs → value p (without_root p r (c ∷ f)) r ≢ 0
  no_double r k z =
      let l = few_roots m p F rs (without_root p r (c ∷ f)) (without_root_coeffs m p F r (c ∷ f) h)
      (λ w. n (zero_of_quotient m p F c r f (roots r k).1 w)) d (λ s j. still s j (ℕ_discrete s r)) in
      let q = without_root-length p r c f in
      omega arith
    where
      still : (s : ℕ) → Member s rs → Dec (s ≡ r) → Root m p (without_root p r (c ∷ f)) s
      still s j (yes e) = ((roots s j).0, ap (value p (without_root p r (c ∷ f))) e ∙ z)
      still s j (no g) = root_of_quotient m p F (c ∷ f) r s h (roots r k) (roots s j) g

  pub all_simple : (r : ℕ) → Member r rs → multiplicity p r (c ∷ f) ≡ 1
  all_simple r k = multiplicity_root p r c f (roots r k).1 ∙ ap suc (multiplicity_none p r (without_root p r (c ∷ f)) (no_double r k))
