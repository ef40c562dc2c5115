-- Where source 000 leads astray (01, "Where the papers lead astray"), over every field: D of a quadratic (`quadratic_form`, `printed_D_only`,
-- `printed_D_misses`), E2 of a quartic (`quartic_form`, `printed_E2_only`). (A cubic with B = A² is in galois/proofs/Cubes.) Assumes nothing.
use mathlib.Core.Path.{◌≡◌, refl, sym, ap, ◌∙◌}
use mathlib.Core.Logic.{◌≢◌, ◌↔◌}
use mathlib.Core.List.{List, [], ◌∷◌}
use Prim.Native.Nat.{ℕ, ◌^◌, ◌<◌}
use lib.Pow.{pow_pos}
use Rattle.algebra.specs.Expression.{Expr, var, O, I, ◌⊕◌ as ◌∔◌, ◌⊗◌}
use Rattle.algebra.specs.Search.{first_from, first}
use Rattle.algebra.proofs.Identity.{Elem, ring_on_given, alone, using_eq}
use Rattle.binary.specs.Xor.{◌⊕◌}
use Rattle.binary.proofs.Xor.{xor_self, xor_lt, equal_of_xor}
use Rattle.binary.specs.Fold.{fold, fold_f}
use Rattle.binary.specs.Times.{times, times_step}
use Rattle.binary.specs.Remainder.{top, top_step, reduce, remainder_step, remainder_by, remainder}
use Rattle.binary.specs.Product.{product}
use Rattle.binary.proofs.Product.{product-zero, product_one}
use Rattle.binary.proofs.Inverse.{no_zero_divisors, product_cancel}
use Rattle.galois.specs.Field.{Field}
use Rattle.galois.specs.Power.{squares}
use Rattle.galois.specs.Trace.{part_trace, trace}
use Rattle.galois.specs.Polynomial.{value}
use Rattle.galois.specs.Roots.{is_root, roots_of}
use Rattle.galois.proofs.Field.{one_lt, ring}
use Rattle.galois.proofs.Power.{mul_lt, square_zero, square_injective}
use Rattle.galois.proofs.Polynomial.{value_lt}
use Rattle.arithmetic.specs.Quotient.{quotient_of}
use Rattle.roots.specs.Equation.{quartic_of}

-- over 19, 2·x² + x + 1: D is 1·2/1 = 2, of trace 0, and there are two roots; the printed (1/2)/1 is 9, of trace 1, and would say none
pub printed_D_misses : (quotient_of 4 19 (product 19 1 2) (product 19 1 1) ≡ 2)
    × (trace 4 19 2 ≡ 0)
    × (roots_of 4 19 (1 ∷ 1 ∷ 2 ∷ []) ≡ 5 ∷ 12 ∷ [])
    × (quotient_of 4 19 (quotient_of 4 19 1 2) (product 19 1 1) ≡ 9)
    × (trace 4 19 9 ≡ 1)
unfolding quotient_of first first_from part_trace squares roots_of is_root value product times times_step remainder remainder_by remainder_step reduce top top_step fold fold_f ◌⊕◌
printed_D_misses = (refl, refl, refl, refl, refl)

module _ (m p : ℕ) (F : Field m p) where
  -- a·v = b²·w, with a and b not 0
  both_zero : (a b v w : ℕ) → a ≢ 0 → b ≢ 0 → a < 2 ^ m → b < 2 ^ m → v < 2 ^ m → w < 2 ^ m → product p a v ≡ product p b (product p b w)
      → (v ≡ 0) ↔ (w ≡ 0)
  both_zero a b v w na nb ha hb hv hw q = (
    λ e. no_zero_divisors m p F.irr b w nb hb hw
        (no_zero_divisors m p F.irr b (product p b w) nb hb (mul_lt m p F b w) (sym q ∙ ap (product p a) e ∙ product-zero p a)),
    λ e. no_zero_divisors m p F.irr a v na ha hv
        (q ∙ ap (λ (x : ℕ). product p b (product p b x)) e ∙ ap (product p b) (product-zero p b) ∙ product-zero p b),
  )

  -- a0 + a1·x + a2·x² by x = (a1/a2)·t: t² + t = D with D = a0·a2/a1². Here u is a1/a2.
  module _ (a0 a1 a2 : ℕ) (h0 : a0 < 2 ^ m) (h1 : a1 < 2 ^ m) (h2 : a2 < 2 ^ m) (D : ℕ) (hD : D < 2 ^ m)
      (is-D : product p D (product p a1 a1) ≡ product p a0 a2) where
    pub quadratic_form : a1 ≢ 0 → a2 ≢ 0 → (u t : ℕ) → u < 2 ^ m → t < 2 ^ m → product p a2 u ≡ a1
        → (value p (a0 ∷ a1 ∷ a2 ∷ []) (product p u t) ≡ 0) ↔ (product p t t ⊕ t ≡ D)
    unfolding value
    quadratic_form n1 n2 u t hu ht is-u =
        let w = (product p t t ⊕ t) ⊕ D in
        let both = both_zero a2 a1 (value p (a0 ∷ a1 ∷ a2 ∷ []) (product p u t)) w n2 n1 h2 h1
        (value_lt m p F (a0 ∷ a1 ∷ a2 ∷ []) (product p u t) (h0, (h1, (h2, tt)))) (xor_lt m (xor_lt m (mul_lt m p F t t) ht) hD)
        (ring_on_given (ring m p F) ((a0, h0) ∷ (a1, h1) ∷ (a2, h2) ∷ (u, hu) ∷ (t, ht) ∷ (D, hD) ∷ [])
        (var 2 ⊗ (var 0 ∔ (var 3 ⊗ var 4) ⊗ (var 1 ∔ (var 3 ⊗ var 4) ⊗ (var 2 ∔ (var 3 ⊗ var 4) ⊗ O))))
        (var 1 ⊗ (var 1 ⊗ ((var 4 ⊗ var 4 ∔ var 4) ∔ var 5)))
        (using_eq (var 1 ⊗ var 4 ∔ (var 4 ⊗ var 4) ⊗ (var 2 ⊗ var 3 ∔ var 1)) (var 2 ⊗ var 3) (var 1) is-u
        (using_eq I (var 5 ⊗ (var 1 ⊗ var 1)) (var 0 ⊗ var 2) is-D alone))
        refl) in
        (λ e. equal_of_xor (product p t t ⊕ t) D (both.0 e), λ e. both.1 (ap (λ (x : ℕ). x ⊕ D) e ∙ xor_self D))

    -- "with a0 not 0 the printed form is right only for a2 = 1"
    pub printed_D_only : a0 ≢ 0 → product p (product p D (product p a1 a1)) a2 ≡ a0 → a2 ≡ 1
    printed_D_only n0 printed =
        equal_of_xor a2 1 (square_zero m p F (a2 ⊕ 1) (xor_lt m h2 (one_lt m p F))
        (no_zero_divisors m p F.irr a0 (product p (a2 ⊕ 1) (a2 ⊕ 1)) n0 h0 (mul_lt m p F (a2 ⊕ 1) (a2 ⊕ 1))
        (ring_on_given (ring m p F) ((a0, h0) ∷ (a1, h1) ∷ (a2, h2) ∷ (D, hD) ∷ [])
        (var 0 ⊗ ((var 2 ∔ I) ⊗ (var 2 ∔ I))) O
        (using_eq (var 2) (var 3 ⊗ (var 1 ⊗ var 1)) (var 0 ⊗ var 2) is-D
        (using_eq I ((var 3 ⊗ (var 1 ⊗ var 1)) ⊗ var 2) (var 0) printed alone))
        refl)))

  -- a0 + a1·y + a2·y² + a3·y⁴ by y = √(a2/a3)·z: z⁴ + z² + E1·z + E2 with E1 = a1·√(a3/a2³) and E2 = a0·a3/a2². Here v is √(a2/a3).
  module _ (a0 a1 a2 a3 : ℕ) (h0 : a0 < 2 ^ m) (h1 : a1 < 2 ^ m) (h2 : a2 < 2 ^ m) (h3 : a3 < 2 ^ m)
      (n2 : a2 ≢ 0) (E2 : ℕ) (k2 : E2 < 2 ^ m) (is-E2 : product p E2 (product p a2 a2) ≡ product p a0 a3) where
    pub quartic_form : a3 ≢ 0 → (v z E1 : ℕ) → v < 2 ^ m → z < 2 ^ m → E1 < 2 ^ m → product p a3 (product p v v) ≡ a2
        → product p (product p E1 E1) (product p a2 (product p a2 a2)) ≡ product p (product p a1 a1) a3
        → (value p (quartic_of a0 a1 a2 a3) (product p v z) ≡ 0) ↔ (value p (quartic_of E2 E1 1 1) z ≡ 0)
    unfolding value
    quartic_form n3 v z E1 hv hz k1 is-v is-E1 =
        let xs : List (Elem (ring m p F)) = (a0, h0) ∷ (a1, h1) ∷ (a2, h2) ∷ (a3, h3) ∷ (v, hv) ∷ (z, hz) ∷ (E1, k1) ∷ (E2, k2) ∷ [] in
        let linear : product p E1 (product p a2 a2) ≡ product p (product p a1 v) a3 =
        square_injective m p F (product p E1 (product p a2 a2)) (product p (product p a1 v) a3) (mul_lt m p F E1 (product p a2 a2))
        (mul_lt m p F (product p a1 v) a3)
        (ring_on_given (ring m p F) xs
        ((var 6 ⊗ (var 2 ⊗ var 2)) ⊗ (var 6 ⊗ (var 2 ⊗ var 2))) (((var 1 ⊗ var 4) ⊗ var 3) ⊗ ((var 1 ⊗ var 4) ⊗ var 3))
        (using_eq (var 2) ((var 6 ⊗ var 6) ⊗ (var 2 ⊗ (var 2 ⊗ var 2))) ((var 1 ⊗ var 1) ⊗ var 3) is-E1
        (using_eq ((var 1 ⊗ var 1) ⊗ var 3) (var 3 ⊗ (var 4 ⊗ var 4)) (var 2) is-v alone))
        refl) in
        let one = one_lt m p F in
        let y : Expr = var 4 ⊗ var 5 in
        let z² : Expr = var 5 ⊗ var 5 in
        both_zero a3 a2 (value p (quartic_of a0 a1 a2 a3) (product p v z)) (value p (quartic_of E2 E1 1 1) z) n3 n2 h3 h2
        (value_lt m p F (quartic_of a0 a1 a2 a3) (product p v z) (h0, (h1, (h2, (pow_pos m, (h3, tt))))))
        (value_lt m p F (quartic_of E2 E1 1 1) z (k2, (k1, (one, (pow_pos m, (one, tt))))))
        (ring_on_given (ring m p F) xs
        (var 3 ⊗ (var 0 ∔ y ⊗ (var 1 ∔ y ⊗ (var 2 ∔ y ⊗ (O ∔ y ⊗ (var 3 ∔ y ⊗ O))))))
        (var 2 ⊗ (var 2 ⊗ (var 7 ∔ var 5 ⊗ (var 6 ∔ var 5 ⊗ (I ∔ var 5 ⊗ (O ∔ var 5 ⊗ (I ∔ var 5 ⊗ O)))))))
        (using_eq (z² ⊗ (var 2 ∔ z² ⊗ (var 3 ⊗ (var 4 ⊗ var 4) ∔ var 2))) (var 3 ⊗ (var 4 ⊗ var 4)) (var 2) is-v
        (using_eq (var 5) (var 6 ⊗ (var 2 ⊗ var 2)) ((var 1 ⊗ var 4) ⊗ var 3) linear
        (using_eq I (var 7 ⊗ (var 2 ⊗ var 2)) (var 0 ⊗ var 3) is-E2 alone)))
        refl)

    -- without the factor a3 it is right, with a0 not 0, only for a3 = 1
    pub printed_E2_only : a0 ≢ 0 → product p E2 (product p a2 a2) ≡ a0 → a3 ≡ 1
    printed_E2_only n0 printed =
        product_cancel m p F.irr a0 a3 1 n0 h0 h3 (one_lt m p F) (sym is-E2 ∙ printed ∙ sym (product_one m p F.irr.degree a0 h0))
