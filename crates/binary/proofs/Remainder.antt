-- Division of polynomials over GF(2) (A3): `division` and `division_unique` say what quotient and remainder are; the remainder of a
-- sum is the sum of the remainders, and that of a product may be taken in between. Assumes nothing.
use Rattle.std.proofs.Common.{◌≡◌, ℕ, zero, suc, ◌+◌, ◌*◌, ◌/◌, ◌%◌, ◌^◌, ◌<◌, ◌≤◌, max, sym, refl, ap, ◌∙◌, ap₂, mod-lt, div-lt_iff_lt-mul, one-mul, zero-mul, le-add_left, arith, pow_pos, pow_mono}
use Rattle.std.proofs.Math.Nat.{div-eq_of_lt, zero-div}
use Rattle.std.proofs.Math.Decide.{ℕ_discrete, dec_lt}
use Rattle.std.proofs.Math.Arith.{bin_ind}
use Rattle.binary.specs.Xor.{◌⊕◌, Degree}
use Rattle.binary.proofs.Xor.{two_pos, zero_xor, xor-zero, xor_assoc, xor_left_comm, xor_twice, equal_of_xor, xor_part, xor_double, digits-xor, digits_of, top_one, same-top, has_degree, xor_lt}
use Rattle.binary.specs.Fold.{fold_f, fold}
use Rattle.binary.proofs.Fold.{fold_step}
use Rattle.binary.specs.Times.{times}
use Rattle.binary.proofs.Times.{zero-times, xor-times, times_comm, times_assoc, digits-times, times_ge}
use Rattle.binary.specs.Remainder.{top_step, top, reduce, remainder_step, remainder_by, remainder, quotient_step, quotient}

pub top-step : (a : ℕ) → top a ≡ max (a % 2) (top (a / 2) * 2)
unfolding top top_step
top-step a = fold_step top_step refl a

pub top_of : (m a : ℕ) → Degree m a → top a ≡ 2 ^ m
unfolding top top_step fold fold_f
top_of zero a h = let e : a ≡ 1 = omega arith in ap top e
top_of (suc m) a h =
    let e = top_of m (a / 2) (omega arith, omega arith) in
    let q = top-step a in
    let k = pow_pos m in
    omega arith

remainder_by-step : (H p a : ℕ) → remainder_by H p a ≡ reduce H p (remainder_by H p (a / 2) * 2 + a % 2)
unfolding remainder_by remainder_step reduce
remainder_by-step H p a = fold_step (remainder_step H p) (simp (zero-div, zero-mul, zero_xor)) a

quotient_base : (H p : ℕ) → quotient_step H p 0 0 ≡ 0
unfolding quotient_step remainder_by fold fold_f
quotient_base H p = rw zero-div

quotient-step : (a p : ℕ) → quotient a p ≡ quotient (a / 2) p * 2 + (remainder (a / 2) p * 2 + a % 2) / top p
unfolding quotient quotient_step remainder
quotient-step a p = fold_step (quotient_step (top p) p) (quotient_base (top p) p) a

remainder-step : (a p : ℕ) → remainder a p ≡ reduce (top p) p (remainder (a / 2) p * 2 + a % 2)
unfolding remainder
remainder-step a p = remainder_by-step (top p) p a

pub zero-remainder : (p : ℕ) → remainder 0 p ≡ 0
unfolding remainder remainder_by fold fold_f
zero-remainder p = refl

pub zero-quotient : (p : ℕ) → quotient 0 p ≡ 0
unfolding quotient fold fold_f
zero-quotient p = refl

module _ (m p : ℕ) (dp : Degree m p) where
  reduce_lt : (s : ℕ) → s < 2 ^ suc m → reduce (2 ^ m) p s < 2 ^ m
  unfolding reduce
  reduce_lt s h = pick (dec_lt s (2 ^ m))
    where
      pick : Dec (s < 2 ^ m) → s / 2 ^ m * p ⊕ s < 2 ^ m
      pick (yes l) = rw (div-eq_of_lt l, zero-mul, zero_xor) l
      pick (no l) =
          let g : 2 ^ m ≤ s = omega arith in
          rw (top_one m s (g, h), one-mul) (same-top m p s dp (g, h))

  pub remainder_lt : (a : ℕ) → remainder a p < 2 ^ m
  remainder_lt =
      bin_ind (λ (a : ℕ). remainder a p < 2 ^ m) (rw zero-remainder (pow_pos m))
      (λ a ih. rw (remainder-step, top_of m p dp) (reduce_lt (remainder (a / 2) p * 2 + a % 2) (omega arith)))

  carry_lt : (s : ℕ) → s < 2 ^ suc m → s / 2 ^ m < 2
  carry_lt s h = (div-lt_iff_lt-mul {k = 2 ^ m} {x = s} {y = 2} (pow_pos m)).1 (omega arith)

  pub division : (a : ℕ) → times (quotient a p) p ⊕ remainder a p ≡ a
  unfolding reduce
  division =
      bin_ind (λ (a : ℕ). times (quotient a p) p ⊕ remainder a p ≡ a) (rw (zero-quotient, zero-remainder, zero-times) (zero_xor 0))
      (λ a ih.
      let r = remainder (a / 2) p in
      let q = quotient (a / 2) p in
      let s = r * 2 + a % 2 in
      let b = s / 2 ^ m in
      let l = remainder_lt (a / 2) in
      ap₂ (λ (x y : ℕ). times x p ⊕ y)
      (quotient-step a p ∙ ap (λ (x : ℕ). q * 2 + s / x) (top_of m p dp))
      (remainder-step a p ∙ ap (λ (x : ℕ). reduce x p s) (top_of m p dp))
      ∙ ap (λ (x : ℕ). x ⊕ (b * p ⊕ s)) (digits-times q b p (carry_lt s (omega arith)))
      ∙ (simp (xor_assoc, xor_twice))
      ∙ ap (λ (x : ℕ). times q p * 2 ⊕ x) (sym (digits-xor r (a % 2) (mod-lt a two_pos)))
      ∙ sym (xor_assoc (times q p * 2) (r * 2) (a % 2))
      ∙ ap (λ (x : ℕ). x ⊕ a % 2) (xor_double (times q p) r ∙ ap (λ (x : ℕ). x * 2) ih)
      ∙ digits_of a)

  pub division_unique : (q r q' r' : ℕ) → r < 2 ^ m → r' < 2 ^ m → times q p ⊕ r ≡ times q' p ⊕ r' → (q ≡ q') × (r ≡ r')
  division_unique q r q' r' h h' e = pick (ℕ_discrete (q ⊕ q') 0)
    where
      e' : times (q ⊕ q') p ≡ r ⊕ r'
      e' = xor-times q q' p ∙ xor_part _ _ _ _ e

      pick : Dec (q ⊕ q' ≡ 0) → (q ≡ q') × (r ≡ r')
      pick (yes z) = (equal_of_xor q q' z, equal_of_xor r r' (sym e' ∙ ap (λ (x : ℕ). times x p) z ∙ zero-times p))
      pick (no n) =
          let d = has_degree (q ⊕ q') n in
          let g = times_ge d.0 m (q ⊕ q') p d.1 dp in
          let k = pow_mono (le-add_left m d.0) in
          let l = xor_lt m h h' in
          absurd (omega (arith, e'))

  pub remainder_of : (q r : ℕ) → r < 2 ^ m → remainder (times q p ⊕ r) p ≡ r
  remainder_of q r h = let x = times q p ⊕ r in (division_unique (quotient x p) (remainder x p) q r (remainder_lt x) h (division x)).1

  pub remainder_small : (r : ℕ) → r < 2 ^ m → remainder r p ≡ r
  remainder_small r h = rw (zero-times, zero_xor) at (remainder_of 0 r h)

  pub remainder_of_multiple : (q : ℕ) → remainder (times q p) p ≡ 0
  remainder_of_multiple q = rw xor-zero at (remainder_of q 0 (pow_pos m))

  pub remainder_of_sum : (a b : ℕ) → remainder (a ⊕ b) p ≡ remainder a p ⊕ remainder b p
  remainder_of_sum a b =
      ap (λ (x : ℕ). remainder x p)
      (sym (ap₂ ◌⊕◌ (division a) (division b)) ∙ (simp (xor-times, xor_assoc, xor_left_comm)))
      ∙ remainder_of (quotient a p ⊕ quotient b p) (remainder a p ⊕ remainder b p) (xor_lt m (remainder_lt a) (remainder_lt b))

  pub remainder_of_product : (a b : ℕ) → remainder (times (remainder a p) b) p ≡ remainder (times a b) p
  remainder_of_product a b =
      sym (ap (λ (x : ℕ). remainder (times x b) p) (sym (division a))
      ∙ ap (λ (x : ℕ). remainder x p) (xor-times (times (quotient a p) p) (remainder a p) b)
      ∙ remainder_of_sum (times (times (quotient a p) p) b) (times (remainder a p) b)
      ∙ ap (λ (x : ℕ). remainder x p ⊕ remainder (times (remainder a p) b) p)
      (times_assoc (quotient a p) p b ∙ ap (times (quotient a p)) (times_comm p b) ∙ sym (times_assoc (quotient a p) b p))
      ∙ ap (λ (x : ℕ). x ⊕ remainder (times (remainder a p) b) p) (remainder_of_multiple (times (quotient a p) b))
      ∙ zero_xor _)
