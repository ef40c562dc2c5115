-- E5: the polynomial built from roots has each as often as it was given (`build-multiplicity`) and no other (`root_member`); the
-- multiplicity is the k with f = (x + r)^k·q and q(r) not 0. Assumes nothing.
use mathlib.Core.Path.{◌≡◌, refl, sym, ap, ◌∙◌}
use mathlib.Core.Logic.{◌≢◌, ◌⊎◌, inl, inr}
use mathlib.Core.List.{List, [], ◌∷◌}
use Prim.Native.Nat.{ℕ, zero, suc, ◌+◌, ◌^◌, ◌<◌}
use native.Mathlib.Decide.{ℕ_discrete}
use native.Mathlib.Omega.{arith}
use lib.ListN.{length}
use Rattle.binary.specs.Xor.{◌⊕◌}
use Rattle.binary.proofs.Xor.{xor-zero, xor_self, equal_of_xor, xor_lt}
use Rattle.binary.specs.Product.{product}
use Rattle.binary.proofs.Product.{product-zero}
use Rattle.binary.proofs.Inverse.{no_zero_divisors}
use Rattle.algebra.specs.Lists.{Member}
use Rattle.algebra.specs.Counts.{same, count}
use Rattle.galois.specs.Field.{Field}
use Rattle.galois.proofs.Field.{one_lt}
use Rattle.galois.proofs.Power.{zero-product}
use Rattle.galois.specs.Polynomial.{value, Coeffs, AllZero, without_root, with_root, build, with_root_often}
use Rattle.galois.proofs.Polynomial.{value_lt}
use Rattle.galois.proofs.Divide.{without_root-length, with_root-length, with_root-value, with_root_back, with_root_coeffs, with_root-zero}
use Rattle.galois.proofs.Roots.{zero_of_quotient}
use Rattle.galois.specs.Multiplicity.{multiplicity}
use Rattle.galois.proofs.Multiplicity.{multiplicity-same, multiplicity_none, multiplicity-with_root}

pub build-length : (p : ℕ) (rs : List ℕ) → length (build p rs) ≡ suc (length rs)
unfolding build
build-length p [] = refl
build-length p (a ∷ rs) = with_root-length p a (build p rs) ∙ ap suc (build-length p rs)

one_value : (p x : ℕ) → value p (1 ∷ []) x ≢ 0
unfolding value
one_value p x e = let w : ◌≡◌ {A = ℕ} 1 0 = sym (ap (λ (v : ℕ). 1 ⊕ v) (product-zero p x) ∙ xor-zero 1) ∙ e in omega arith

module _ (m p : ℕ) (F : Field m p) where
  pub build_coeffs : (rs : List ℕ) → Coeffs m (build p rs)
  unfolding build
  build_coeffs [] = (one_lt m p F, tt)
  build_coeffs (a ∷ rs) = with_root_coeffs m p F a (build p rs) (build_coeffs rs)

  pub build_nonzero : (rs : List ℕ) → AllZero (build p rs) → ⊥
  unfolding build
  build_nonzero [] z = let w = z.0 in omega arith
  build_nonzero (a ∷ rs) z = build_nonzero rs (with_root-zero m p F a (build p rs) z)

  pub build-value : (a : ℕ) (rs : List ℕ) (x : ℕ) → value p (build p (a ∷ rs)) x ≡ product p (x ⊕ a) (value p (build p rs) x)
  unfolding build
  build-value a rs x = with_root-value m p F a x (build p rs)

  -- its roots are the numbers given, and no others
  pub member_root : (x : ℕ) (rs : List ℕ) → Member x rs → value p (build p rs) x ≡ 0
  member_root x [] h = absurd h
  member_root x (a ∷ rs) (inl e) =
      build-value a rs x ∙ ap (λ (v : ℕ). product p (v ⊕ a) (value p (build p rs) x)) e ∙ ap (λ (v : ℕ). product p v (value p (build p rs) x)) (xor_self a)
      ∙ zero-product p (value p (build p rs) x)
  member_root x (a ∷ rs) (inr h) = build-value a rs x ∙ ap (product p (x ⊕ a)) (member_root x rs h) ∙ product-zero p (x ⊕ a)

  pub root_member : (x : ℕ) (rs : List ℕ) → x < 2 ^ m → Coeffs m rs → value p (build p rs) x ≡ 0 → Member x rs
  unfolding build
  root_member x [] hx h e = one_value p x e
  root_member x (a ∷ rs) hx h e = go (ℕ_discrete x a) (λ z. root_member x rs hx h.1 z)
    where
      go : Dec (x ≡ a) → (value p (build p rs) x ≡ 0 → Member x rs) → (x ≡ a) ⊎ Member x rs
      go (yes q) ih = inl q
      go (no n) ih =
          inr (ih (no_zero_divisors m p F.irr (x ⊕ a) (value p (build p rs) x) (λ z. n (equal_of_xor x a z)) (xor_lt m hx h.0)
          (value_lt m p F (build p rs) x (build_coeffs rs)) (sym (build-value a rs x) ∙ e)))

  -- the roots come back, each as often as it was put in
  pub build-multiplicity : (r : ℕ) (rs : List ℕ) → r < 2 ^ m → Coeffs m rs → multiplicity p r (build p rs) ≡ count r rs
  unfolding build count
  build-multiplicity r [] hr h = multiplicity_none p r (1 ∷ []) (one_value p r)
  build-multiplicity r (a ∷ rs) hr h =
      multiplicity-with_root m p F a r (build p rs) h.0 hr (build_coeffs rs) (build_nonzero rs) ∙ ap (λ (n : ℕ). same a r + n) (build-multiplicity r rs hr h.1)

  -- the multiplicity is the k with f = (x + r)^k·q and q(r) not 0
  pub multiplicity_often : (r k : ℕ) (q : List ℕ) → value p q r ≢ 0 → multiplicity p r (with_root_often p r k q) ≡ k
  unfolding with_root_often
  multiplicity_often r zero q n = multiplicity_none p r q n
  multiplicity_often r (suc k) q n = multiplicity-same m p F r (with_root_often p r k q) ∙ ap suc (multiplicity_often r k q n)

  often_split : (r n : ℕ) (f : List ℕ) → length f ≡ n → (AllZero f → ⊥) → (k : ℕ) × (q : List ℕ) × (f ≡ with_root_often p r k q) × (value p q r ≢ 0)
  unfolding with_root_often
  often_split r zero [] e z = absurd (z tt)
  often_split r zero (c ∷ f) e z = absurd (omega arith)
  often_split r (suc n) [] e z = absurd (z tt)
  often_split r (suc n) (c ∷ f) e z =
      go (ℕ_discrete (value p (c ∷ f) r) 0)
      (λ y. often_split r n (without_root p r (c ∷ f)) (let l = without_root-length p r c f in omega arith) (λ w. z (zero_of_quotient m p F c r f y w)))
    where
      go : Dec (value p (c ∷ f) r ≡ 0)
          → (value p (c ∷ f) r ≡ 0 → (k : ℕ) × (q : List ℕ) × (without_root p r (c ∷ f) ≡ with_root_often p r k q) × (value p q r ≢ 0))
          → (k : ℕ) × (q : List ℕ) × (c ∷ f ≡ with_root_often p r k q) × (value p q r ≢ 0)
      go (yes y) ih = let s = ih y in (suc s.0, s.1, sym (with_root_back m p F r c f y) ∙ ap (with_root p r) s.2, s.3)
      go (no y) ih = (0, c ∷ f, refl, y)

  pub multiplicity_split : (r : ℕ) (f : List ℕ) → (AllZero f → ⊥) → (q : List ℕ) × (f ≡ with_root_often p r (multiplicity p r f) q) × (value p q r ≢ 0)
  multiplicity_split r f z =
      let s = often_split r (length f) f refl z in
      let e : multiplicity p r f ≡ s.0 = ap (multiplicity p r) s.2 ∙ multiplicity_often r s.0 s.1 s.3 in
      (s.1, s.2 ∙ ap (λ (k : ℕ). with_root_often p r k s.1) (sym e), s.3)
