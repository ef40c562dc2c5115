-- E2: with t = c2/c3 the roots of a cubic are z + t for the roots z of c3·z⁴ + (c1 + c2·t)·z² + (c0 + c1·t)·z, all of them where c0 + c1·t is
-- 0, and all but the first, which is 0, where it is not (`kept_roots`, `all_roots_lem`). Assumes nothing.
use mathlib.Core.Path.{◌≡◌, refl, sym, ap, ap₂, ◌∙◌, subst}
use mathlib.Core.Logic.{◌≢◌, ◌↔◌, ◌⊎◌, inl, inr}
use mathlib.Core.List.{List, [], ◌∷◌, map}
use Prim.Native.Nat.{ℕ, ◌^◌, ◌<◌}
use native.Mathlib.Decide.{ℕ_discrete}
use native.Mathlib.Omega.{arith}
use lib.Bits.{bit_xor}
use lib.ListN.{length, drop}
use lib.Pow.{pow_pos}
use Rattle.algebra.specs.Expression.{var, O, ◌⊕◌ as ◌∔◌, ◌⊗◌}
use Rattle.algebra.specs.Lists.{Member, Nodup, Ascending}
use Rattle.algebra.proofs.Identity.{ring_on_given, alone, using_eq}
use Rattle.algebra.proofs.Ascending.{ascending_nodup}
use Rattle.algebra.proofs.Onto.{of_map, to_map, map_nodup}
use Rattle.binary.specs.Xor.{◌⊕◌}
use Rattle.binary.proofs.Xor.{ac, is_xor, zero_xor, xor_lt}
use Rattle.binary.specs.Product.{product}
use Rattle.binary.proofs.Product.{product-zero}
use Rattle.binary.proofs.Inverse.{no_zero_divisors}
use Rattle.galois.specs.Field.{Field}
use Rattle.galois.specs.Polynomial.{value, Root}
use Rattle.galois.specs.Roots.{roots_of}
use Rattle.galois.proofs.Field.{ring}
use Rattle.galois.proofs.Power.{zero-product, mul_lt}
use Rattle.galois.proofs.Polynomial.{value_lt}
use Rattle.galois.proofs.RootList.{roots_iff, roots_ascending}
use Rattle.arithmetic.specs.Quotient.{quotient_of}
use Rattle.arithmetic.proofs.Quotient.{quotient-product, quotient_lt}
use Rattle.roots.specs.Equation.{Ready, HoldsRoots, quartic_of}
use Rattle.roots.proofs.Completing.{positive}

-- 0 comes first in what ascends
zero-first : (xs : List ℕ) → Ascending xs → Member 0 xs → xs ≡ 0 ∷ drop 1 xs
zero-first [] a k = absurd k
zero-first (x ∷ xs) a (inl e) = ap (λ (v : ℕ). v ∷ xs) (sym e)
zero-first (x ∷ xs) a (inr k) = let l = a.0 0 k in absurd (omega arith)

module _ (m p c0 c1 c2 c3 : ℕ) (R : Ready m p (c0 ∷ c1 ∷ c2 ∷ c3 ∷ 0 ∷ [])) (n : c3 ≢ 0) where
  abbrev f : List ℕ
  f = c0 ∷ c1 ∷ c2 ∷ c3 ∷ 0 ∷ []

  F : Field m p
  F = R.field.field

  h0 : c0 < 2 ^ m
  h0 = R.small.0

  h1 : c1 < 2 ^ m
  h1 = R.small.1.0

  h2 : c2 < 2 ^ m
  h2 = R.small.1.1.0

  h3 : c3 < 2 ^ m
  h3 = R.small.1.1.1.0

  abbrev t : ℕ
  t = quotient_of m p c2 c3

  t_lt : t < 2 ^ m
  t_lt = quotient_lt m p F c2 c3 h2 (positive c3 n) h3

  t_product : product p t c3 ≡ c2
  t_product = quotient-product m p F c2 c3 h2 (positive c3 n) h3

  pub t_small : (q : ℕ) → q ≡ t → q < 2 ^ m
  t_small q e = rw e t_lt

  -- the value at t
  abbrev l0 : ℕ
  l0 = c0 ⊕ product p c1 t

  at_t : value p f t ≡ l0
  unfolding value
  at_t =
      ring_on_given (ring m p F) ((c0, h0) ∷ (c1, h1) ∷ (c2, h2) ∷ (c3, h3) ∷ (t, t_lt) ∷ [])
      (var 0 ∔ var 4 ⊗ (var 1 ∔ var 4 ⊗ (var 2 ∔ var 4 ⊗ (var 3 ∔ var 4 ⊗ (O ∔ var 4 ⊗ O)))))
      (var 0 ∔ var 1 ⊗ var 4)
      (using_eq (var 4 ⊗ var 4) (var 4 ⊗ var 3) (var 2) t_product alone)
      refl

  -- the equation for z
  abbrev g : List ℕ
  g = quartic_of 0 l0 (c1 ⊕ product p c2 t) c3

  cubic_product : (z : ℕ) → z < 2 ^ m → value p g z ≡ product p z (value p f (z ⊕ t))
  unfolding value
  cubic_product z hz =
      ring_on_given (ring m p F) ((c0, h0) ∷ (c1, h1) ∷ (c2, h2) ∷ (c3, h3) ∷ (t, t_lt) ∷ (z, hz) ∷ [])
      (O ∔ var 5 ⊗ (var 0 ∔ var 1 ⊗ var 4 ∔ var 5 ⊗ (var 1 ∔ var 2 ⊗ var 4 ∔ var 5 ⊗ (O ∔ var 5 ⊗ (var 3 ∔ var 5 ⊗ O)))))
      (var 5 ⊗ (var 0 ∔ (var 5 ∔ var 4) ⊗ (var 1 ∔ (var 5 ∔ var 4) ⊗ (var 2 ∔ (var 5 ∔ var 4) ⊗ (var 3 ∔ (var 5 ∔ var 4) ⊗ (O ∔ (var 5 ∔ var 4) ⊗ O))))))
      (using_eq (var 5 ⊗ (var 5 ⊗ var 5 ∔ var 5 ⊗ var 4 ∔ var 4 ⊗ var 4)) (var 4 ⊗ var 3) (var 2) t_product alone)
      refl

  cubic_ready : Ready m p g
  cubic_ready =
      record {
        field = R.field;
        largest = R.largest;
        small = (pow_pos m, (xor_lt m h0 (mul_lt m p F c1 t), (xor_lt m h1 (mul_lt m p F c2 t), (pow_pos m, (h3, tt)))));
        nonzero = λ z. n z.1.1.1.1.0;
      }

  twice : (z : ℕ) → (z ⊕ t) ⊕ t ≡ z
  twice z = simp ac

  -- z + t is a root of the cubic: then z is one of the equation for z
  to_z : (z : ℕ) → Root m p f (z ⊕ t) → Root m p g z
  to_z z k =
      let hz : z < 2 ^ m = subst (λ (v : ℕ). v < 2 ^ m) (twice z) (xor_lt m k.0 t_lt) in
      (hz, cubic_product z hz ∙ ap (product p z) k.1 ∙ product-zero p z)

  -- and where z is not 0, the other way about
  of_z : (z : ℕ) → z ≢ 0 → Root m p g z → Root m p f (z ⊕ t)
  of_z z h k =
      let hx = xor_lt m k.0 t_lt in
      (hx, no_zero_divisors m p F.irr z (value p f (z ⊕ t)) h k.0 (value_lt m p F f (z ⊕ t) R.small) (sym (cubic_product z k.0) ∙ k.1))

  at_zero : (z : ℕ) → z ≡ 0 → value p f (z ⊕ t) ≡ l0
  at_zero z e = ap (value p f) (ap (λ (v : ℕ). v ⊕ t) e ∙ zero_xor t) ∙ at_t

  -- the numbers z for which z + t is a root
  module _ (zs : List ℕ) (once : Nodup zs) (are : (z : ℕ) → Member z zs ↔ Root m p f (z ⊕ t)) where
    moved_roots : HoldsRoots m p f (map (λ z. z ⊕ t) zs)
    moved_roots =
        record {
          are = λ x. (
            λ k. let r = of_map (λ z. z ⊕ t) zs x k in subst (Root m p f) (sym r.2) ((are r.0).0 r.1),
            λ k. subst (λ (v : ℕ). Member v (map (λ z. z ⊕ t) zs)) (twice x)
                (to_map (λ z. z ⊕ t) zs (x ⊕ t) ((are (x ⊕ t)).1 (subst (Root m p f) (sym (twice x)) k))),
          );
          once = map_nodup (λ z. z ⊕ t) zs once (λ x y hx hy e. sym (twice x) ∙ ap (λ (v : ℕ). v ⊕ t) e ∙ twice y);
        }

  abbrev zs : List ℕ
  zs = roots_of m p g

  zs_once : Nodup zs
  zs_once = ascending_nodup zs (roots_ascending m p g)

  all_are : l0 ≡ 0 → (z : ℕ) → Member z zs ↔ Root m p f (z ⊕ t)
  all_are e z = (λ k. go (ℕ_discrete z 0) ((roots_iff m p g z).0 k), λ k. (roots_iff m p g z).1 (to_z z k))
    where
      go : Dec (z ≡ 0) → Root m p g z → Root m p f (z ⊕ t)
      go (yes q) k = (xor_lt m k.0 t_lt, at_zero z q ∙ e)
      go (no q) k = of_z z q k

  first_is : zs ≡ 0 ∷ drop 1 zs
  unfolding value
  first_is = zero-first zs (roots_ascending m p g) ((roots_iff m p g 0).1 (pow_pos m, ap (λ (v : ℕ). 0 ⊕ v) (zero-product p _) ∙ zero_xor 0))

  rest_once : (Member 0 (drop 1 zs) → ⊥) × Nodup (drop 1 zs)
  rest_once = subst Nodup first_is zs_once

  kept_are : l0 ≢ 0 → (z : ℕ) → Member z (drop 1 zs) ↔ Root m p f (z ⊕ t)
  kept_are h z = (
    λ k. of_z z (λ e. rest_once.0 (subst (λ (v : ℕ). Member v (drop 1 zs)) e k)) ((roots_iff m p g z).0 (subst (Member z) (sym first_is) (inr k))),
    λ k. go k (subst (Member z) first_is ((roots_iff m p g z).1 (to_z z k))),
  )
    where
      go : Root m p f (z ⊕ t) → (z ≡ 0) ⊎ Member z (drop 1 zs) → Member z (drop 1 zs)
      go k (inl e) = absurd (h (sym (at_zero z e) ∙ k.1))
      go k (inr j) = j

  -- by the numbers that the code makes
  module _ (q a b : ℕ) (eq : q ≡ t) (ea : a ≡ product p c1 q) (eb : b ≡ product p c2 q) where
    abbrev h : List ℕ
    h = quartic_of 0 (bit_xor c0 a) (bit_xor c1 b) c3

    l0_is : bit_xor c0 a ≡ l0
    l0_is = sym (is_xor c0 a) ∙ ap (λ (v : ℕ). c0 ⊕ v) (ea ∙ ap (product p c1) eq)

    made : h ≡ g
    made = ap₂ (λ (u v : ℕ). quartic_of 0 u v c3) l0_is (sym (is_xor c1 b) ∙ ap (λ (v : ℕ). c1 ⊕ v) (eb ∙ ap (product p c2) eq))

    pub made_ready : Ready m p h
    made_ready = subst (Ready m p) (sym made) cubic_ready

    module _ (u : List ℕ) (H : u ≡ roots_of m p h) where
      u_is : u ≡ zs
      u_is = H ∙ ap (roots_of m p) made

      pub made_first : 0 < length u
      made_first = let e = ap length (u_is ∙ first_is) in omega arith

      pub all_roots_lem : bit_xor c0 a ≡ 0 → (r : List ℕ) → r ≡ map (λ z. z ⊕ q) u → HoldsRoots m p f r
      all_roots_lem e r k =
          subst (HoldsRoots m p f) (sym (k ∙ ap₂ (λ (v : ℕ) (l : List ℕ). map (λ z. z ⊕ v) l) eq u_is)) (moved_roots zs zs_once (all_are (sym l0_is ∙ e)))

      pub kept_roots : bit_xor c0 a ≢ 0 → (k r : List ℕ) → k ≡ drop 1 u → r ≡ map (λ z. z ⊕ q) k → HoldsRoots m p f r
      kept_roots e k r g w =
          subst (HoldsRoots m p f) (sym (w ∙ ap₂ (λ (v : ℕ) (l : List ℕ). map (λ z. z ⊕ v) l) eq (g ∙ ap (drop 1) u_is)))
          (moved_roots (drop 1 zs) rest_once.1 (kept_are (λ z. e (l0_is ∙ z))))
