-- The steps that the code takes for a quartic, one after the other: what each asks, and that the last one gives the roots, without s
-- (`shifted_others`) or with it (`shifted_roots`). Assumes nothing.
use mathlib.Core.Path.{◌≡◌, sym, ap, ap₂, ◌∙◌, subst}
use mathlib.Core.Logic.{◌≢◌}
use mathlib.Core.List.{List, [], ◌∷◌, ◌++◌, map}
use Prim.Native.Nat.{ℕ, ◌-◌, ◌^◌, ◌<◌}
use native.Mathlib.Omega.{arith}
use lib.Bits.{bit_xor}
use lib.ListN.{length, get_or}
use Rattle.binary.specs.Xor.{◌⊕◌}
use Rattle.binary.proofs.Xor.{is_xor, xor_lt}
use Rattle.binary.specs.Product.{product}
use Rattle.galois.specs.Power.{power}
use Rattle.galois.specs.Polynomial.{value}
use Rattle.galois.specs.Roots.{roots_of}
use Rattle.galois.proofs.Power.{mul_lt, power_lt}
use Rattle.arithmetic.specs.Quotient.{quotient_of}
use Rattle.arithmetic.proofs.Quotient.{quotient_lt}
use Rattle.roots.specs.Limits.{most_roots}
use Rattle.roots.specs.Equation.{Ready, HoldsRoots, Units, quartic_of, shift, from_inverse}
use Rattle.roots.specs.declared.inner.equation.Equation.{Equation}
use Rattle.roots.proofs.Entries.{five_entries}
use Rattle.roots.proofs.Equations.{ready}
use Rattle.roots.proofs.Completing.{positive}
use Rattle.roots.proofs.Quartic.{at_shift, quartic_ready, quartic_units, quartic_others, quartic_roots, quartic_room}

module _ (E : Equation) (five : length E.polynomial.coefficients ≡ 5) (n3 : get_or E.polynomial.coefficients 3 0 ≢ 0)
    (n4 : get_or E.polynomial.coefficients 4 0 ≢ 0) where
  abbrev m : ℕ
  m = E.polynomial.field.degree

  abbrev p : ℕ
  p = E.polynomial.field.polynomial

  abbrev f : List ℕ
  f = E.polynomial.coefficients

  R : Ready m p f
  R = ready E

  small : (i : ℕ) → get_or f i 0 < 2 ^ m
  small = E.polynomial.small

  module _ (q : ℕ) (eq : q ≡ quotient_of m p (get_or f 1 0) (get_or f 3 0)) where
    pub root_ready : q < 2 ^ m
    root_ready = rw eq (quotient_lt m p R.field.field (get_or f 1 0) (get_or f 3 0) (small 1) (positive (get_or f 3 0) n3) (small 3))

    pub first_ready : (q < 2 ^ m) × (get_or f 4 0 < 2 ^ m)
    first_ready = (root_ready, small 4)

    pub second_ready : (b : ℕ) → b ≡ product p q (get_or f 4 0) → (q < 2 ^ m) × (bit_xor (get_or f 2 0) b < 2 ^ m)
    second_ready b e = (
      root_ready,
      subst (λ (w : ℕ). w < 2 ^ m) (is_xor (get_or f 2 0) b) (xor_lt m (small 2) (rw e (mul_lt m p R.field.field q (get_or f 4 0)))),
    )

    module _ (s : ℕ) (es : s ≡ power p q (2 ^ (m - 1))) where
      s_lt : s < 2 ^ m
      s_lt = rw es (power_lt m p R.field.field q (2 ^ (m - 1)))

      s_is : s ≡ shift m p (get_or f 1 0) (get_or f 3 0)
      unfolding shift
      s_is = es ∙ ap (λ (v : ℕ). power p v (2 ^ (m - 1))) eq

      pub shift_ready : (get_or f 3 0 < 2 ^ m) × (s < 2 ^ m)
      shift_ready = (small 3, s_lt)

      module _ (a b v : ℕ) (ea : a ≡ product p (get_or f 3 0) s) (eb : b ≡ product p q (get_or f 4 0)) (ev : v ≡ product p q (bit_xor (get_or f 2 0) b)) where
        abbrev f5 : List ℕ
        f5 = get_or f 0 0 ∷ get_or f 1 0 ∷ get_or f 2 0 ∷ get_or f 3 0 ∷ get_or f 4 0 ∷ []

        R5 : Ready m p f5
        R5 = subst (Ready m p) (five_entries f five) R

        abbrev h : List ℕ
        h = quartic_of (get_or f 4 0) (get_or f 3 0) (bit_xor (get_or f 2 0) a) (bit_xor (get_or f 0 0) v)

        abbrev s5 : ℕ
        s5 = shift m p (get_or f 1 0) (get_or f 3 0)

        abbrev g5 : List ℕ
        g5 = quartic_of (get_or f 4 0) (get_or f 3 0) (get_or f 2 0 ⊕ product p (get_or f 3 0) s5) (value p f5 s5)

        -- the value at s
        at_s : bit_xor (get_or f 0 0) v ≡ value p f5 s5
        at_s =
            sym (is_xor (get_or f 0 0) v)
            ∙ ap (λ (w : ℕ). get_or f 0 0 ⊕ w)
            (ev ∙ ap₂ (product p) eq (sym (is_xor (get_or f 2 0) b) ∙ ap (λ (w : ℕ). get_or f 2 0 ⊕ w) (eb ∙ ap (λ (w : ℕ). product p w (get_or f 4 0)) eq)))
            ∙ sym (at_shift m p (get_or f 0 0) (get_or f 1 0) (get_or f 2 0) (get_or f 3 0) (get_or f 4 0) R5 n3 n4)

        made : h ≡ g5
        made =
            ap₂ (quartic_of (get_or f 4 0) (get_or f 3 0))
            (sym (is_xor (get_or f 2 0) a) ∙ ap (λ (w : ℕ). get_or f 2 0 ⊕ w) (ea ∙ ap (product p (get_or f 3 0)) s_is)) at_s

        pub shifted_ready : Ready m p h
        shifted_ready = subst (Ready m p) (sym made) (quartic_ready m p (get_or f 0 0) (get_or f 1 0) (get_or f 2 0) (get_or f 3 0) (get_or f 4 0) R5 n3 n4)

        module _ (ys : List ℕ) (H : ys ≡ roots_of m p h) where
          ys_are : ys ≡ roots_of m p g5
          ys_are = H ∙ ap (roots_of m p) made

          pub shifted_units : Units m ys
          shifted_units = subst (Units m) (sym ys_are) (quartic_units m p (get_or f 0 0) (get_or f 1 0) (get_or f 2 0) (get_or f 3 0) (get_or f 4 0) R5 n3 n4)

          module _ (os : List ℕ) (O : os ≡ map (from_inverse m p s) ys) where
            others_are : os ≡ map (from_inverse m p s5) (roots_of m p g5)
            others_are = O ∙ ap₂ (λ (w : ℕ) (l : List ℕ). map (from_inverse m p w) l) s_is ys_are

            -- where s is no root
            pub shifted_others : bit_xor (get_or f 0 0) v ≢ 0 → HoldsRoots m p f os
            shifted_others z =
                subst (λ (l : List ℕ). HoldsRoots m p l os) (sym (five_entries f five))
                (subst (HoldsRoots m p f5) (sym others_are) (quartic_others m p (get_or f 0 0) (get_or f 1 0) (get_or f 2 0) (get_or f 3 0) (get_or f 4 0) R5 n3 n4 (λ w. z (at_s ∙ w))))

            -- where it is one there is a place for it
            pub shifted_room : bit_xor (get_or f 0 0) v ≡ 0 → length os < most_roots
            shifted_room z =
                let l = quartic_room m p (get_or f 0 0) (get_or f 1 0) (get_or f 2 0) (get_or f 3 0) (get_or f 4 0) R5 n3 n4 (sym at_s ∙ z) in
                let e = ap length others_are in
                omega arith

            pub shifted_roots : bit_xor (get_or f 0 0) v ≡ 0 → (r : List ℕ) → r ≡ os ++ s ∷ [] → HoldsRoots m p f r
            shifted_roots z r w =
                subst (λ (l : List ℕ). HoldsRoots m p l r) (sym (five_entries f five))
                (subst (HoldsRoots m p f5) (sym (w ∙ ap₂ (λ (l : List ℕ) (x : ℕ). l ++ x ∷ []) others_are s_is))
                (quartic_roots m p (get_or f 0 0) (get_or f 1 0) (get_or f 2 0) (get_or f 3 0) (get_or f 4 0) R5 n3 n4 (sym at_s ∙ z)))
