-- Cube roots where m is even: an element that is not 0 and has one has three, and no more (`even_roots`). Assumes nothing.
use mathlib.Core.Path.{◌≡◌, refl, sym, ap, ◌∙◌, subst}
use mathlib.Core.Logic.{◌≢◌, ◌⊎◌, inl, inr}
use mathlib.Core.List.{List, [], ◌∷◌}
use Prim.Native.Nat.{ℕ, ◌%◌, ◌^◌, ◌<◌}
use native.Mathlib.Decide.{ℕ_discrete}
use native.Mathlib.Omega.{arith}
use lib.ListN.{length}
use Rattle.algebra.specs.Expression.{var, I, ◌⊕◌ as ◌∔◌, ◌⊗◌}
use Rattle.algebra.specs.Lists.{Member, Nodup}
use Rattle.algebra.proofs.Identity.{ring_on_given, alone, using_eq}
use Rattle.binary.specs.Xor.{◌⊕◌}
use Rattle.binary.proofs.Xor.{xor_self, ac}
use Rattle.binary.specs.Product.{product}
use Rattle.binary.proofs.Product.{product_comm, one_product}
use Rattle.binary.proofs.Inverse.{product_cancel}
use Rattle.galois.specs.Field.{Field}
use Rattle.galois.specs.Quadratic.{Quadratic}
use Rattle.galois.proofs.Field.{one_lt, ring}
use Rattle.galois.proofs.Power.{zero-product, mul_lt}
use Rattle.galois.proofs.Quadratic.{quadratic_root, quadratic_other, quadratic_only}
use Rattle.galois.proofs.CubeRoots.{cube, CubeRoots, part_of_one, ratio}

module _ (m p : ℕ) (F : Field m p) where
  -- beside a root y that is not 0 stand w·y and (w + 1)·y, with w² + w = 1
  unit_cube : (w y : ℕ) → Quadratic m p 1 w → y < 2 ^ m → cube p (product p w y) ≡ cube p y
  unit_cube w y q hy =
      ring_on_given (ring m p F) ((w, q.0) ∷ (y, hy) ∷ [])
      ((var 0 ⊗ var 1) ⊗ ((var 0 ⊗ var 1) ⊗ (var 0 ⊗ var 1))) (var 1 ⊗ (var 1 ⊗ var 1))
      (using_eq ((var 0 ∔ I) ⊗ (var 1 ⊗ (var 1 ⊗ var 1))) (var 0 ⊗ var 0 ∔ var 0) I q.1 alone)
      refl

  one_not : (w : ℕ) → Quadratic m p 1 w → 1 ≢ w
  one_not w q k =
      let z : ◌≡◌ {A = ℕ} 1 0 =
      sym q.1 ∙ ap (λ (x : ℕ). product p x x ⊕ x) (sym k) ∙ ap (λ (x : ℕ). x ⊕ 1) (one_product m p F.irr.degree 1 (one_lt m p F)) ∙ xor_self 1 in
      omega arith

  module _ (w y : ℕ) (q : Quadratic m p 1 w) (hy : y < 2 ^ m) (ny : y ≢ 0) where
    abbrev three : List ℕ
    three = y ∷ product p w y ∷ product p (w ⊕ 1) y ∷ []

    other : Quadratic m p 1 (w ⊕ 1)
    other = quadratic_other m p F 1 w q

    factor : (u v : ℕ) → u < 2 ^ m → v < 2 ^ m → product p u y ≡ product p v y → u ≡ v
    factor u v hu hv k = product_cancel m p F.irr y u v ny hy hu hv (product_comm p y u ∙ k ∙ product_comm p v y)

    second_not : (u : ℕ) → Quadratic m p 1 u → y ≢ product p u y
    second_not u k e = one_not u k (factor 1 u (one_lt m p F) k.0 (one_product m p F.irr.degree y hy ∙ e))

    third_not : product p w y ≢ product p (w ⊕ 1) y
    third_not k =
        let z : ◌≡◌ {A = ℕ} 0 1 = sym (xor_self w) ∙ ap (λ (x : ℕ). w ⊕ x) (factor w (w ⊕ 1) q.0 other.0 k) ∙ (simp ac) in
        omega arith

    three_once : Nodup three
    three_once = (first, (second, ((λ k. k), tt)))
      where
        first : Member y (product p w y ∷ product p (w ⊕ 1) y ∷ []) → ⊥
        first (inl k) = second_not w q k
        first (inr (inl k)) = second_not (w ⊕ 1) other k
        first (inr (inr k)) = absurd k

        second : Member (product p w y) (product p (w ⊕ 1) y ∷ []) → ⊥
        second (inl k) = third_not k
        second (inr k) = absurd k

    three_each : (z : ℕ) → Member z three → (z < 2 ^ m) × (cube p z ≡ cube p y)
    three_each z (inl k) = (subst (λ (x : ℕ). x < 2 ^ m) (sym k) hy, ap (cube p) k)
    three_each z (inr (inl k)) = (subst (λ (x : ℕ). x < 2 ^ m) (sym k) (mul_lt m p F w y), ap (cube p) k ∙ unit_cube w y q hy)
    three_each z (inr (inr (inl k))) =
        (subst (λ (x : ℕ). x < 2 ^ m) (sym k) (mul_lt m p F (w ⊕ 1) y), ap (cube p) k ∙ unit_cube (w ⊕ 1) y other hy)
    three_each z (inr (inr (inr k))) = absurd k

    three_every : (z : ℕ) → z < 2 ^ m → cube p z ≡ cube p y → Member z three
    three_every z hz e = go (ℕ_discrete z y)
      where
        by : (x : ℕ) → z ≡ product p x y → (x ≡ w) ⊎ (x ≡ w ⊕ 1) → Member z three
        by x h (inl l) = inr (inl (h ∙ ap (λ (u : ℕ). product p u y) l))
        by x h (inr l) = inr (inr (inl (h ∙ ap (λ (u : ℕ). product p u y) l)))

        go : Dec (z ≡ y) → Member z three
        go (yes k) = inl k
        go (no g) = let r = ratio m p F y z hy hz ny e g in by r.0 r.2 (quadratic_only m p F 1 w r.0 q r.1)

  pub even_roots : m % 2 ≡ 0 → (v y : ℕ) → v ≢ 0 → y < 2 ^ m → cube p y ≡ v → (ys : List ℕ) × (length ys ≡ 3) × CubeRoots m p v ys
  even_roots even v y n hy e =
      let r = quadratic_root m p F 1 (one_lt m p F) (part_of_one m p F m ∙ even) in
      let w = r.0 in
      let q = r.1 in
      let ny : y ≢ 0 = λ z. n (sym e ∙ ap (cube p) z ∙ zero-product p (product p 0 0)) in (
        three w y q hy ny,
        refl,
        record {
          once = three_once w y q hy ny;
          each = λ z k. let c = three_each w y q hy ny z k in (c.0, c.1 ∙ e);
          every = λ z hz k. three_every w y q hy ny z hz (k ∙ sym e);
        },
      )
