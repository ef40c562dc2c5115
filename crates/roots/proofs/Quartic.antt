-- E3: with s² = q = c1/c3 the roots of a quartic other than s are s + 1/y for the roots y of f(s)·y⁴ + (c2 + c3·s)·y² + c3·y + c4
-- (`quartic_others`, and `quartic_roots` with s), and no such y is 0 (`quartic_units`); f(s) is c4·q² + c2·q + c0 (`at_shift`). Assumes nothing.
use mathlib.Core.Path.{◌≡◌, refl, sym, ap, ◌∙◌, subst}
use mathlib.Core.Logic.{◌≢◌, ◌⊎◌, inl, inr}
use mathlib.Core.List.{List, [], ◌∷◌, ◌++◌, map}
use Prim.Native.Nat.{ℕ, ◌-◌, ◌^◌, ◌<◌}
use native.Mathlib.Decide.{ℕ_discrete}
use native.Mathlib.Omega.{arith}
use lib.ListN.{length, length-append}
use lib.Pow.{pow_pos}
use Rattle.algebra.specs.Expression.{var, O, I, ◌⊕◌ as ◌∔◌, ◌⊗◌, pow}
use Rattle.algebra.proofs.Identity.{ring_on_given, alone, using_eq}
use Rattle.algebra.specs.Lists.{Member, Nodup}
use Rattle.algebra.proofs.Ascending.{ascending_nodup}
use Rattle.algebra.proofs.Onto.{of_map, to_map, map_nodup}
use Rattle.algebra.proofs.Last.{to_first, to_last, of_last, last_nodup}
use Rattle.binary.specs.Xor.{◌⊕◌}
use Rattle.binary.proofs.Xor.{ac, xor-zero, xor_lt, equal_of_xor}
use Rattle.binary.specs.Product.{product}
use Rattle.binary.proofs.Product.{product-zero, product_comm}
use Rattle.binary.proofs.Inverse.{no_zero_divisors}
use Rattle.galois.specs.Field.{Field}
use Rattle.galois.specs.Polynomial.{value, Root}
use Rattle.galois.specs.Roots.{roots_of}
use Rattle.galois.proofs.Field.{one_lt, ring}
use Rattle.galois.proofs.Power.{zero-product, mul_lt, square_zero, power_lt, squares_is}
use Rattle.galois.proofs.Fermat.{root_square}
use Rattle.galois.proofs.Polynomial.{value_lt}
use Rattle.galois.proofs.Roots.{few_roots}
use Rattle.galois.proofs.RootList.{roots_iff, roots_ascending}
use Rattle.arithmetic.specs.Quotient.{quotient_of}
use Rattle.arithmetic.proofs.Quotient.{quotient_is, quotient-product, quotient_lt}
use Rattle.roots.specs.Limits.{most_roots}
use Rattle.roots.specs.Equation.{Ready, HoldsRoots, Units, quartic_of, shift, from_inverse}
use Rattle.roots.proofs.Completing.{positive}

module _ (m p c0 c1 c2 c3 c4 : ℕ) (R : Ready m p (c0 ∷ c1 ∷ c2 ∷ c3 ∷ c4 ∷ [])) (n3 : c3 ≢ 0) (n4 : c4 ≢ 0) where
  abbrev f : List ℕ
  f = c0 ∷ c1 ∷ c2 ∷ c3 ∷ c4 ∷ []

  abbrev s : ℕ
  s = shift m p c1 c3

  F : Field m p
  F = R.field.field

  h1 : c1 < 2 ^ m
  h1 = R.small.1.0

  h3 : c3 < 2 ^ m
  h3 = R.small.1.1.1.0

  shift_lt : s < 2 ^ m
  unfolding shift
  shift_lt = power_lt m p F (quotient_of m p c1 c3) (2 ^ (m - 1))

  -- c1/c3
  abbrev q : ℕ
  q = quotient_of m p c1 c3

  q_lt : q < 2 ^ m
  q_lt = quotient_lt m p F c1 c3 h1 (positive c3 n3) h3

  square_is : product p s s ≡ q
  unfolding shift
  square_is = ap (λ (v : ℕ). product p v v) (sym (squares_is m p F (m - 1) q q_lt)) ∙ root_square m p F q q_lt

  shift_square : product p c3 (product p s s) ≡ c1
  shift_square = ap (product p c3) square_is ∙ product_comm p c3 q ∙ quotient-product m p F c1 c3 h1 (positive c3 n3) h3

  -- the value at s
  pub at_shift : value p f s ≡ c0 ⊕ product p q (c2 ⊕ product p q c4)
  unfolding value
  at_shift =
      ring_on_given (ring m p F) ((s, shift_lt) ∷ (q, q_lt) ∷ (c0, R.small.0) ∷ (c1, h1) ∷ (c2, R.small.1.1.0) ∷ (c3, h3) ∷ (c4, R.small.1.1.1.1.0) ∷ [])
      (var 2 ∔ var 0 ⊗ (var 3 ∔ var 0 ⊗ (var 4 ∔ var 0 ⊗ (var 5 ∔ var 0 ⊗ (var 6 ∔ var 0 ⊗ O)))))
      (var 2 ∔ var 1 ⊗ (var 4 ∔ var 1 ⊗ var 6))
      (using_eq (var 0) (var 5 ⊗ (var 0 ⊗ var 0)) (var 3) shift_square
      (using_eq (var 4 ∔ var 6 ⊗ (var 0 ⊗ var 0 ∔ var 1)) (var 0 ⊗ var 0) (var 1) square_is alone))
      refl

  -- the equation for y
  abbrev g : List ℕ
  g = quartic_of c4 c3 (c2 ⊕ product p c3 s) (value p f s)

  quartic_product : (x y : ℕ) → x < 2 ^ m → y < 2 ^ m → product p (x ⊕ s) y ≡ 1
      → value p g y ≡ product p (product p (product p y y) (product p y y)) (value p f x)
  unfolding value
  quartic_product x y hx hy unit =
      ring_on_given (ring m p F) ((x, hx) ∷ (s, shift_lt) ∷ (y, hy) ∷ (c0, R.small.0) ∷ (c1, h1) ∷ (c2, R.small.1.1.0) ∷ (c3, h3) ∷ (c4, R.small.1.1.1.1.0) ∷ [])
      (var 7 ∔ var 2 ⊗ (var 6 ∔ var 2 ⊗ (var 5 ∔ var 6 ⊗ var 1 ∔ var 2 ⊗ (O ∔ var 2 ⊗
      (var 3 ∔ var 1 ⊗ (var 4 ∔ var 1 ⊗ (var 5 ∔ var 1 ⊗ (var 6 ∔ var 1 ⊗ (var 7 ∔ var 1 ⊗ O)))) ∔ var 2 ⊗ O)))))
      (var 2 ⊗ var 2 ⊗ (var 2 ⊗ var 2) ⊗ (var 3 ∔ var 0 ⊗ (var 4 ∔ var 0 ⊗ (var 5 ∔ var 0 ⊗ (var 6 ∔ var 0 ⊗ (var 7 ∔ var 0 ⊗ O))))))
      (using_eq
      ((var 5 ∔ var 6 ⊗ var 1) ⊗ (var 2 ⊗ var 2) ⊗ ((var 0 ∔ var 1) ⊗ var 2 ∔ I)
      ∔ var 6 ⊗ var 2 ⊗ ((var 0 ∔ var 1) ⊗ var 2 ⊗ ((var 0 ∔ var 1) ⊗ var 2) ∔ (var 0 ∔ var 1) ⊗ var 2 ∔ I) ∔ var 7 ⊗ pow ((var 0 ∔ var 1) ⊗ var 2 ∔ I) 3)
      ((var 0 ∔ var 1) ⊗ var 2) I unit
      (using_eq (var 2 ⊗ var 2 ⊗ (var 2 ⊗ var 2) ⊗ (var 0 ∔ var 1)) (var 6 ⊗ (var 1 ⊗ var 1)) (var 4) shift_square alone))
      refl

  pub quartic_ready : Ready m p g
  quartic_ready =
      record {
        field = R.field;
        largest = R.largest;
        small = (
          R.small.1.1.1.1.0,
          (h3, (xor_lt m R.small.1.1.0 (mul_lt m p F c3 s), (pow_pos m, (value_lt m p F f s R.small, tt)))),
        );
        nonzero = λ z. n4 z.0;
      }

  at_zero : value p g 0 ≡ c4
  unfolding value
  at_zero = ap (λ (v : ℕ). c4 ⊕ v) (zero-product p _) ∙ xor-zero c4

  -- a root y is not 0, since c4 is not
  unit_root : (y : ℕ) → Root m p g y → (0 < y) × (y < 2 ^ m)
  unit_root y k = (positive y (λ e. n4 (sym at_zero ∙ ap (value p g) (sym e) ∙ k.1)), k.0)

  pub quartic_units : Units m (roots_of m p g)
  quartic_units y k = unit_root y ((roots_iff m p g y).0 k)

  -- 1/y
  abbrev over : ℕ → ℕ
  over y = quotient_of m p 1 y

  over_lt : (y : ℕ) → 0 < y → y < 2 ^ m → over y < 2 ^ m
  over_lt y h l = quotient_lt m p F 1 y (one_lt m p F) h l

  over_product : (y : ℕ) → 0 < y → y < 2 ^ m → product p (over y) y ≡ 1
  over_product y h l = quotient-product m p F 1 y (one_lt m p F) h l

  over_is : (y z : ℕ) → 0 < y → y < 2 ^ m → z < 2 ^ m → product p z y ≡ 1 → z ≡ over y
  over_is y z h l hz e = quotient_is m p F 1 y z h l hz e

  one_not_zero : (v : ℕ) → v ≡ 1 → v ≢ 0
  one_not_zero v e z = omega arith

  over_nonzero : (y : ℕ) → 0 < y → y < 2 ^ m → over y ≢ 0
  over_nonzero y h l z =
      one_not_zero (product p (over y) y) (over_product y h l) (ap (λ (v : ℕ). product p v y) z ∙ zero-product p y)

  -- a root other than s
  abbrev others : List ℕ
  others = map (from_inverse m p s) (roots_of m p g)

  other_root : (x : ℕ) → Root m p f x → x ≢ s → Member x others
  unfolding from_inverse
  other_root x k n =
      let z = x ⊕ s in
      let hz = xor_lt m k.0 shift_lt in
      let pz = positive z (λ e. n (equal_of_xor x s e)) in
      let y = over z in
      let hy = over_lt z pz hz in
      let e = product_comm p z y ∙ over_product z pz hz in
      let r = (roots_iff m p g y).1 (hy, quartic_product x y k.0 hy e ∙ ap (product p (product p (product p y y) (product p y y))) k.1 ∙ product-zero p _) in
      let back = over_is y z (quartic_units y r).0 hy hz e in
      subst (λ (v : ℕ). Member v (map (λ w. s ⊕ over w) (roots_of m p g))) (ap (λ (v : ℕ). s ⊕ v) (sym back) ∙ (simp ac))
      (to_map (λ w. s ⊕ over w) (roots_of m p g) y r)

  -- s + 1/y is one
  back_root : (y : ℕ) → Root m p g y → Root m p f (from_inverse m p s y)
  unfolding from_inverse
  back_root y k =
      let u = unit_root y k in
      let x = s ⊕ over y in
      let hx = xor_lt m shift_lt (over_lt y u.0 u.1) in
      let n : y ≢ 0 = λ e. omega (arith, u.0) in
      let e : product p (x ⊕ s) y ≡ 1 = ap (λ (v : ℕ). product p v y) (simp ac) ∙ over_product y u.0 u.1 in
      let y² = product p y y in
      let n² : y² ≢ 0 = λ z. n (square_zero m p F y u.1 z) in
      let n⁴ : product p y² y² ≢ 0 = λ z. n² (square_zero m p F y² (mul_lt m p F y y) z) in
      (hx, no_zero_divisors m p F.irr (product p y² y²) (value p f x) n⁴ (mul_lt m p F y² y²) (value_lt m p F f x R.small) (sym (quartic_product x y hx u.1 e) ∙ k.1))

  others_are : (x : ℕ) → Member x others → Root m p f x
  others_are x k =
      let r = of_map (from_inverse m p s) (roots_of m p g) x k in
      subst (Root m p f) (sym r.2) (back_root r.0 ((roots_iff m p g r.0).0 r.1))

  cancel : (a b : ℕ) → s ⊕ a ≡ s ⊕ b → a ≡ b
  cancel a b e = sym (twice a) ∙ ap (λ (v : ℕ). s ⊕ v) e ∙ twice b
    where
      twice : (a : ℕ) → s ⊕ (s ⊕ a) ≡ a
      twice a = simp ac

  apart : (x y : ℕ) → Member x (roots_of m p g) → Member y (roots_of m p g) → from_inverse m p s x ≡ from_inverse m p s y → x ≡ y
  unfolding from_inverse
  apart x y hx hy e =
      let u = quartic_units x hx in
      let w = quartic_units y hy in
      let q = cancel (over x) (over y) e in
      let ox = over_lt x u.0 u.1 in
      let px = positive (over x) (over_nonzero x u.0 u.1) in
      over_is (over x) x px ox u.1 (product_comm p x (over x) ∙ over_product x u.0 u.1)
      ∙ sym (over_is (over x) y px ox w.1 (product_comm p y (over x) ∙ ap (λ (v : ℕ). product p v y) q ∙ over_product y w.0 w.1))

  not_s : Member s others → ⊥
  unfolding from_inverse
  not_s k =
      let r = of_map (from_inverse m p s) (roots_of m p g) s k in
      let u = quartic_units r.0 r.1 in
      over_nonzero r.0 u.0 u.1 (sym (cancel 0 (over r.0) (xor-zero s ∙ r.2)))

  others_once : Nodup others
  others_once = map_nodup (from_inverse m p s) (roots_of m p g) (ascending_nodup (roots_of m p g) (roots_ascending m p g)) apart

  -- where s is no root
  pub quartic_others : value p f s ≢ 0 → HoldsRoots m p f others
  quartic_others h =
      record { are = λ x. (others_are x, λ k. other_root x k (λ e. h (ap (value p f) (sym e) ∙ k.1))); once = others_once }

  -- and where it is one
  pub quartic_roots : value p f s ≡ 0 → HoldsRoots m p f (others ++ s ∷ [])
  quartic_roots z =
      record { are = λ x. (λ k. of x (of_last others s x k), λ k. to x k (ℕ_discrete x s)); once = last_nodup others s others_once not_s }
    where
      of : (x : ℕ) → (x ≡ s) ⊎ Member x others → Root m p f x
      of x (inl e) = subst (Root m p f) (sym e) (shift_lt, z)
      of x (inr k) = others_are x k

      to : (x : ℕ) → Root m p f x → Dec (x ≡ s) → Member x (others ++ s ∷ [])
      to x k (yes e) = to_last others s x e
      to x k (no n) = to_first others s x (other_root x k n)

  -- there is a place for s
  pub quartic_room : value p f s ≡ 0 → length others < most_roots
  quartic_room z =
      let H = quartic_roots z in
      let l = few_roots m p F (others ++ s ∷ []) f R.small R.nonzero H.once (λ x k. (H.are x).0 k) in
      let e = length-append others (s ∷ []) in
      omega arith
