-- Euclid's algorithm on a field polynomial p and an element a, one digit a step. Assumes nothing.
use Rattle.std.proofs.Common.{◌≡◌, sym, ap, ap₂, ◌∙◌, ◌≢◌, ℕ, suc, ◌+◌, ◌-◌, ◌*◌, ◌%◌, ◌^◌, ◌≤◌, ◌<◌, zero-mul, arith, bit_xor, pow_pos, pow_mono, shl_exact}
use Rattle.std.proofs.Math.Decide.{ℕ_discrete}
use Rattle.binary.specs.Xor.{◌⊕◌, Degree}
use Rattle.binary.proofs.Xor.{is_xor, has_degree, exp_lt, xor-zero, xor_comm, xor_twice, ac, xor_lt}
use Rattle.binary.specs.Times.{times}
use Rattle.binary.proofs.Times.{zero-times, times_zero, one_times, times-xor, xor-times, times_comm, times_assoc, times_ge, factor_lt, times_lt_of_lt}
use Rattle.binary.specs.Remainder.{remainder}
use Rattle.binary.proofs.Remainder.{remainder_small, remainder_of_sum, remainder_of_product, remainder_of_multiple}
use Rattle.binary.specs.Product.{product, word_degree}
use Rattle.binary.proofs.Product.{product_comm, xor-product}
use Rattle.binary.proofs.Inverse.{no_zero_divisors}
use Rattle.galois.specs.Field.{Field}
use Rattle.galois.proofs.Field.{one_lt}
use Rattle.galois.proofs.Power.{zero-product}
use Rattle.binary.proofs.Shift.{shift_is, shift_exact, degree_le, lowered_lt}

-- u and v with their multipliers
pub record Pair (m p a u v g h : ℕ) : Type 0 where
  pub left : product p g a ≡ remainder u p
  pub right : product p h a ≡ remainder v p
  pub whole : times g v ⊕ times h u ≡ p
  pub bound_g : times g v < 2 ^ suc m
  pub bound_h : times h u < 2 ^ suc m

-- between two steps
pub record Head (m p a u v g h : ℕ) : Type 0 where
  pub pair : Pair m p a u v g h
  pub pos : 0 < u
  pub small : u < 2 ^ m
  pub two : 2 ≤ v
  pub most : v < 2 ^ suc m

-- in a step, with the larger one first
pub record Ordered (m p a u v g h : ℕ) : Type 0 where
  pub pair : Pair m p a u v g h
  pub two : 2 ≤ v
  pub small : v < 2 ^ m
  pub le : v ≤ u
  pub most : u < 2 ^ suc m

swapped : {m p a u v g h : ℕ} → Pair m p a u v g h → Pair m p a v u h g
swapped {m} {p} {a} {u} {v} {g} {h} P =
    record { left = P.right; right = P.left; whole = xor_comm (times h u) (times g v) ∙ P.whole; bound_g = P.bound_h; bound_h = P.bound_g }

-- the larger one first, with its multiplier
module _ {m p a u v g h : ℕ} (H : Head m p a u v g h) where
  pub order_swapped : u < v → u ≢ 1 → Ordered m p a v u h g
  order_swapped l n = record { pair = swapped H.pair; two = omega (arith, H.pos, n); small = H.small; le = omega arith; most = H.most }

  pub order_kept : v ≤ u → Ordered m p a u v g h
  order_kept l = record { pair = H.pair; two = H.two; small = omega (arith, H.small); le = l; most = omega (arith, H.small) }

module _ (m p a : ℕ) (F : Field m p) where
  self_mod : remainder p p ≡ 0
  self_mod = ap (λ (x : ℕ). remainder x p) (sym (one_times p)) ∙ remainder_of_multiple m p F.irr.degree 1

  pub steps_start : 0 < a → a < 2 ^ m → Head m p a a p 1 0
  unfolding product
  steps_start n l =
      let d = F.irr.degree in
      let w = one_lt m p F in
      record {
        pair = record {
          left = ap (λ (x : ℕ). remainder x p) (one_times a);
          right = zero-product p a ∙ sym self_mod;
          whole = simp (zero-times, one_times, xor-zero);
          bound_g = rw one_times d.1;
          bound_h = rw zero-times (pow_pos (suc m));
        };
        pos = n;
        small = l;
        two = omega (arith, d.0);
        most = d.1;
      }

  pub steps_end : (u v g h : ℕ) → Head m p a u v g h → u ≡ 1 → (product p a g ≡ 1) × (g < 2 ^ m)
  steps_end u v g h H e = (
    product_comm p a g ∙ H.pair.left ∙ ap (λ (x : ℕ). remainder x p) e ∙ remainder_small m p F.irr.degree 1 (one_lt m p F),
    factor_lt m g v H.two H.pair.bound_g,
  )

  module _ (u v g h i d : ℕ) (O : Ordered m p a u v g h) (du : Degree i u) (dv : Degree d v) where
    pub step_le : d ≤ i
    step_le = degree_le d i u v dv du (omega (arith, dv.0, O.le))

    below : u ⊕ v * 2 ^ (i - d) < 2 ^ i
    below = lowered_lt d i u v dv du step_le

    i_le : i ≤ m
    i_le = let w = exp_lt i (suc m) u du.0 O.most in omega arith

    multiplier : product p (g ⊕ h * 2 ^ (i - d)) a ≡ remainder (u ⊕ v * 2 ^ (i - d)) p
    unfolding product
    multiplier =
        let q = 2 ^ (i - d) in
        let f = F.irr.degree in
        xor-product m p f g (h * q) a
        ∙ ap₂ ◌⊕◌ O.pair.left
        (ap (λ (x : ℕ). remainder (times x a) p) (sym (shift_is (i - d) h)) ∙ ap (λ (x : ℕ). remainder x p) (times_assoc q h a ∙ times_comm q (times h a))
        ∙ sym (remainder_of_product m p f (times h a) q) ∙ ap (λ (x : ℕ). remainder (times x q) p) O.pair.right ∙ remainder_of_product m p f v q
        ∙ ap (λ (x : ℕ). remainder x p) (times_comm v q ∙ shift_is (i - d) v))
        ∙ sym (remainder_of_sum m p f u (v * q))

    whole_next : times (g ⊕ h * 2 ^ (i - d)) v ⊕ times h (u ⊕ v * 2 ^ (i - d)) ≡ p
    whole_next =
        let q = 2 ^ (i - d) in
        let e : times (h * q) v ≡ times h (v * q) =
        ap (λ (x : ℕ). times x v) (sym (shift_is (i - d) h) ∙ times_comm q h) ∙ times_assoc h q v ∙ ap (times h) (shift_is (i - d) v) in
        ap₂ ◌⊕◌ (xor-times g (h * q) v ∙ ap (λ (x : ℕ). times g v ⊕ x) e) (times-xor h u (v * q)) ∙ (simp ac) ∙ O.pair.whole

    bound_next : times h (u ⊕ v * 2 ^ (i - d)) < 2 ^ suc m
    bound_next = times_lt_of_lt m h u (u ⊕ v * 2 ^ (i - d)) i du below O.pair.bound_h

    bound_left : times (g ⊕ h * 2 ^ (i - d)) v < 2 ^ suc m
    bound_left =
        let y = times h (u ⊕ v * 2 ^ (i - d)) in
        let x = times (g ⊕ h * 2 ^ (i - d)) v in
        let e : x ≡ y ⊕ p = sym (xor_twice y x) ∙ ap (λ (z : ℕ). y ⊕ z) (xor_comm y x ∙ whole_next) in
        rw e (xor_lt (suc m) bound_next F.irr.degree.1)

    next_pos : u ⊕ v * 2 ^ (i - d) ≢ 0
    unfolding product
    next_pos z =
        let f = g ⊕ h * 2 ^ (i - d) in
        let e : times f v ≡ p =
        sym (xor-zero (times f v)) ∙ ap (λ (x : ℕ). times f v ⊕ x) (sym (ap (times h) z ∙ times_zero h)) ∙ whole_next in
        let l = factor_lt m f v O.two bound_left in
        let k = no_zero_divisors m p F.irr v f (λ y. omega (arith, O.two)) O.small l (ap (λ (x : ℕ). remainder x p) (times_comm v f ∙ e) ∙ self_mod) in
        let y : 0 ≡ p = sym (zero-times v) ∙ ap (λ (x : ℕ). times x v) (sym k) ∙ e in
        omega (arith, F.irr.degree.0, pow_pos m)

    lowered : Head m p a (u ⊕ v * 2 ^ (i - d)) v (g ⊕ h * 2 ^ (i - d)) h
    lowered =
        record {
          pair = record { left = multiplier; right = O.pair.right; whole = whole_next; bound_g = bound_left; bound_h = bound_next };
          pos = omega (arith, next_pos);
          small = let w = pow_mono i_le in omega (arith, below);
          two = O.two;
          most = omega (arith, O.small);
        }

    -- what the machine's shifts give
    high_exact : m ≤ word_degree → bit_xor u ((v * 2 ^ (i - d)) % 2 ^ 32) ≡ u ⊕ v * 2 ^ (i - d)
    high_exact s = ap (bit_xor u) (shift_exact d i v dv step_le (let w = i_le in omega arith)) ∙ sym (is_xor u (v * 2 ^ (i - d)))

    multiplier_fits : m ≤ word_degree → (h * 2 ^ (i - d)) % 2 ^ 32 ≡ h * 2 ^ (i - d)
    multiplier_fits s = go (ℕ_discrete h 0)
      where
        go : Dec (h ≡ 0) → (h * 2 ^ (i - d)) % 2 ^ 32 ≡ h * 2 ^ (i - d)
        go (yes e) = ap (λ (x : ℕ). (x * 2 ^ (i - d)) % 2 ^ 32) e ∙ (rw zero-mul) ∙ ap (λ (x : ℕ). x * 2 ^ (i - d)) (sym e)
        go (no n) =
            let k = (has_degree h n).0 in
            let dh = (has_degree h n).1 in
            let w = exp_lt (k + i) (suc m) (times h u) (times_ge k i h u dh du) O.pair.bound_h in
            shl_exact (suc k) (i - d) 32 dh.1 (omega arith)

    pub steps_turn : m ≤ word_degree → Head m p a (bit_xor u ((v * 2 ^ (i - d)) % 2 ^ 32)) v (bit_xor g ((h * 2 ^ (i - d)) % 2 ^ 32)) h
    steps_turn s =
        let e : bit_xor g ((h * 2 ^ (i - d)) % 2 ^ 32) ≡ g ⊕ h * 2 ^ (i - d) = ap (bit_xor g) (multiplier_fits s) ∙ sym (is_xor g (h * 2 ^ (i - d))) in
        rw (high_exact s, e) lowered

    pub steps_less : m ≤ word_degree → bit_xor u ((v * 2 ^ (i - d)) % 2 ^ 32) < u
    steps_less s = rw (high_exact s) (omega (arith, below, du.0))
