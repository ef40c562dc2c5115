-- A cubic with B = A² has the roots of (x + A)³ = C + A³ (`cube_form`; 01, "Where the papers lead astray"): one root where m is odd (`one_when_odd`);
-- for that value not 0, three different ones or none where m is even (`three_or_none_when_even`). Assumes nothing.
use mathlib.Core.Path.{◌≡◌, refl, sym, ap, ◌∙◌, subst}
use mathlib.Core.Logic.{◌≢◌, ◌⊎◌, inl, inr, ◌↔◌}
use mathlib.Core.List.{List, [], ◌∷◌, map}
use Prim.Native.Nat.{ℕ, ◌%◌, ◌^◌, ◌<◌}
use native.Mathlib.Omega.{arith}
use lib.ListN.{length, length-map}
use Rattle.algebra.specs.Expression.{var, O, I, ◌⊕◌ as ◌∔◌, ◌⊗◌}
use Rattle.algebra.proofs.Identity.{ring_on}
use Rattle.algebra.specs.Lists.{Member}
use Rattle.algebra.proofs.Members.{no_longer}
use Rattle.algebra.proofs.Onto.{of_map, to_map, map_nodup}
use Rattle.algebra.proofs.Ascending.{ascending_nodup}
use Rattle.binary.specs.Xor.{◌⊕◌}
use Rattle.binary.proofs.Xor.{xor_lt, xor_self, equal_of_xor, ac}
use Rattle.binary.specs.Product.{product}
use Rattle.galois.specs.Field.{Field}
use Rattle.galois.specs.Polynomial.{value}
use Rattle.galois.specs.Roots.{roots_of}
use Rattle.galois.proofs.Field.{ring}
use Rattle.galois.proofs.Power.{mul_lt}
use Rattle.galois.proofs.RootList.{roots_iff, roots_ascending}
use Rattle.galois.proofs.CubeRoots.{cube, CubeRoots, odd_roots}
use Rattle.galois.proofs.EvenCubes.{even_roots}

module _ (m p : ℕ) (F : Field m p) where
  -- x³ + A·x² + A²·x + C is 0 exactly when (x + A)³ = C + A³
  pub cube_form : (A C x : ℕ) → A < 2 ^ m → C < 2 ^ m → x < 2 ^ m
      → (value p (C ∷ product p A A ∷ A ∷ 1 ∷ []) x ≡ 0) ↔ (product p (x ⊕ A) (product p (x ⊕ A) (x ⊕ A)) ≡ C ⊕ product p A (product p A A))
  unfolding value
  cube_form A C x hA hC hx =
      let y = product p (x ⊕ A) (product p (x ⊕ A) (x ⊕ A)) in
      let c = C ⊕ product p A (product p A A) in
      let same : value p (C ∷ product p A A ∷ A ∷ 1 ∷ []) x ≡ y ⊕ c =
      ring_on (ring m p F) ((A, hA) ∷ (C, hC) ∷ (x, hx) ∷ [])
      (var 1 ∔ var 2 ⊗ (var 0 ⊗ var 0 ∔ var 2 ⊗ (var 0 ∔ var 2 ⊗ (I ∔ var 2 ⊗ O))))
      ((var 2 ∔ var 0) ⊗ ((var 2 ∔ var 0) ⊗ (var 2 ∔ var 0)) ∔ (var 1 ∔ var 0 ⊗ (var 0 ⊗ var 0)))
      refl in
      (λ e. equal_of_xor y c (sym same ∙ e), λ e. same ∙ ap (λ (v : ℕ). v ⊕ c) e ∙ xor_self c)

-- x³ + A·x² + A²·x + C
module _ (m p : ℕ) (F : Field m p) (A C : ℕ) (hA : A < 2 ^ m) (hC : C < 2 ^ m) where
  abbrev cubic : List ℕ
  cubic = C ∷ product p A A ∷ A ∷ 1 ∷ []

  abbrev target : ℕ
  target = C ⊕ cube p A

  moved : (x : ℕ) → (x ⊕ A) ⊕ A ≡ x
  moved x = simp ac

  -- as many roots as its value has cube roots
  cubic_count : (ys : List ℕ) → CubeRoots m p target ys → length (roots_of m p cubic) ≡ length ys
  cubic_count ys R =
      let there = no_longer (roots_of m p cubic) (map (λ z. z ⊕ A) ys) (ascending_nodup (roots_of m p cubic) (roots_ascending m p cubic))
      (λ x k. let r = (roots_iff m p cubic x).0 k in
      subst (λ (v : ℕ). Member v (map (λ z. z ⊕ A) ys)) (moved x)
      (to_map (λ z. z ⊕ A) ys (x ⊕ A) (R.every (x ⊕ A) (xor_lt m r.0 hA) ((cube_form m p F A C x hA hC r.0).0 r.1)))) in
      let back = no_longer (map (λ z. z ⊕ A) ys) (roots_of m p cubic)
      (map_nodup (λ z. z ⊕ A) ys R.once (λ a b ha hb k. sym (moved a) ∙ ap (λ (v : ℕ). v ⊕ A) k ∙ moved b))
      (λ x k. let r = of_map (λ z. z ⊕ A) ys x k in
      let c = R.each r.0 r.1 in
      let h = xor_lt m c.0 hA in
      subst (λ (v : ℕ). Member v (roots_of m p cubic)) (sym r.2)
      ((roots_iff m p cubic (r.0 ⊕ A)).1 (h, (cube_form m p F A C (r.0 ⊕ A) hA hC h).1 (ap (cube p) (moved r.0) ∙ c.1)))) in
      let l = length-map ys (λ (z : ℕ). z ⊕ A) in
      omega arith

  target_lt : target < 2 ^ m
  target_lt = xor_lt m hC (mul_lt m p F A (product p A A))

  pub one_when_odd : m % 2 ≡ 1 → length (roots_of m p cubic) ≡ 1
  one_when_odd odd = let r = odd_roots m p F odd target target_lt in cubic_count (r.0 ∷ []) r.1

  pub three_or_none_when_even : m % 2 ≡ 0 → target ≢ 0 → (length (roots_of m p cubic) ≡ 3) ⊎ (length (roots_of m p cubic) ≡ 0)
  three_or_none_when_even even n = go (roots_of m p cubic) refl
    where
      go : (xs : List ℕ) → roots_of m p cubic ≡ xs → (length (roots_of m p cubic) ≡ 3) ⊎ (length (roots_of m p cubic) ≡ 0)
      go [] e = inr (ap length e)
      go (x ∷ xs) e =
          let r = (roots_iff m p cubic x).0 (subst (λ (l : List ℕ). Member x l) (sym e) (inl refl)) in
          let c = even_roots m p F even target (x ⊕ A) n (xor_lt m r.0 hA) ((cube_form m p F A C x hA hC r.0).0 r.1) in
          inl (cubic_count c.0 c.2 ∙ c.1)
