-- Sums of chosen entries (`choose`): additive in the number that chooses (`choose-xor`); a power of two chooses one entry (`choose_pow`);
-- the bits past the last entry do not count (`choose_low`); what holds of every entry and of sums holds of every choice (`choose_all`).
-- A loop over the entries: `choose_next`, `choose_done`; zeros after them: `choose_zeros`; the first four choices: `choose_one`,
-- `choose_two`, `choose_three`. Assumes nothing.
use mathlib.Core.Path.{◌≡◌, refl, sym, ap, ap₂, ◌∙◌}
use mathlib.Core.List.{List, [], ◌∷◌, ◌++◌}
use Prim.Native.Nat.{ℕ, zero, suc, ◌+◌, ◌*◌, ◌/◌, ◌%◌, ◌^◌, ◌≤◌, ◌<◌}
use native.Mathlib.Nat.{mod-lt, zero-mul, one-mul, mul-zero}
use native.Mathlib.Omega.{arith}
use lib.Bits.{bit_xor}
use lib.ListN.{length, get_or, drop, replicate, drop_of_length-le}
use lib.Pow.{mod-mod-pow, field}
use lib.Seq.{drop-cons}
use Rattle.binary.specs.Xor.{◌⊕◌}
use Rattle.binary.specs.Bit.{bit}
use Rattle.binary.proofs.Xor.{ac, is_xor, xor_assoc, two_pos, by_digit, zero_xor, xor-zero, xor_half, xor_odd}
use Rattle.binary.proofs.Bit.{bit-zero, bit-xor, digit-times-xor}
use Rattle.linear.specs.Directions.{choose}

pub choose-zero : (ds : List ℕ) → choose ds 0 ≡ 0
unfolding choose
choose-zero [] = refl
choose-zero (d ∷ ds) = simp (zero-mul, zero_xor) (choose-zero ds)

swap_middle : (a b c e : ℕ) → (a ⊕ b) ⊕ (c ⊕ e) ≡ (a ⊕ c) ⊕ (b ⊕ e)
swap_middle a b c e = simp ac

pub choose-xor : (ds : List ℕ) (k n : ℕ) → choose ds (k ⊕ n) ≡ choose ds k ⊕ choose ds n
unfolding choose
choose-xor [] k n = sym (zero_xor 0)
choose-xor (d ∷ ds) k n =
    ap₂ ◌⊕◌ (ap (λ (x : ℕ). x * d) (xor_odd k n) ∙ digit-times-xor (k % 2) (n % 2) d (mod-lt k two_pos) (mod-lt n two_pos))
    (ap (choose ds) (xor_half k n) ∙ choose-xor ds (k / 2) (n / 2))
    ∙ swap_middle (k % 2 * d) (n % 2 * d) (choose ds (k / 2)) (choose ds (n / 2))

-- the bit i alone chooses the entry at place i
pub choose_pow : (ds : List ℕ) (i : ℕ) → i < length ds → choose ds (2 ^ i) ≡ get_or ds i 0
unfolding choose
choose_pow [] i h = absurd (omega arith)
choose_pow (d ∷ ds) zero h = ap₂ ◌⊕◌ (one-mul d) (choose-zero ds) ∙ xor-zero d
choose_pow (d ∷ ds) (suc i) h =
    let z : 2 ^ suc i % 2 ≡ 0 = omega arith in
    let q : 2 ^ suc i / 2 ≡ 2 ^ i = omega arith in
    rw (z, q, zero-mul, zero_xor) (choose_pow ds i (omega arith))

-- only as many bits choose as there are entries
pub choose_low : (ds : List ℕ) (k : ℕ) → choose ds (k % 2 ^ length ds) ≡ choose ds k
unfolding choose
choose_low [] k = refl
choose_low (d ∷ ds) k =
    ap₂ (λ (x y : ℕ). x * d ⊕ choose ds y) odd half ∙ ap (λ (x : ℕ). k % 2 * d ⊕ x) (choose_low ds (k / 2))
  where
    one_more : length ds + 1 ≡ suc (length ds)
    one_more = omega arith

    odd : k % 2 ^ suc (length ds) % 2 ≡ k % 2
    odd = rw one_more at (mod-mod-pow k (length ds) 1)

    half : k % 2 ^ suc (length ds) / 2 ≡ k / 2 % 2 ^ length ds
    half = rw one_more at (field k (length ds) 1)

module _ (P : ℕ → Type 0) (z : P 0) (s : (a b : ℕ) → P a → P b → P (a ⊕ b)) where
  pub choose_all : (ds : List ℕ) → ((i : ℕ) → i < length ds → P (get_or ds i 0)) → (k : ℕ) → P (choose ds k)
  unfolding choose
  choose_all [] h k = z
  choose_all (d ∷ ds) h k =
      s (k % 2 * d) (choose ds (k / 2))
      (by_digit (λ (c : ℕ). P (c * d)) (rw zero-mul z) (rw one-mul (h 0 (omega arith))) (k % 2) (mod-lt k two_pos))
      (choose_all ds (λ i l. h (suc i) (omega arith)) (k / 2))

-- a bit that is 0 in every entry
pub choose-clear : (u : ℕ) (ds : List ℕ) → ((i : ℕ) → i < length ds → bit u (get_or ds i 0) ≡ 0) → (k : ℕ) → bit u (choose ds k) ≡ 0
choose-clear u = choose_all (λ (x : ℕ). bit u x ≡ 0) (bit-zero u) (λ a b p q. bit-xor u a b ∙ rw (p, q) (zero_xor 0))

-- one direction taken off the front: what is added, and what the rest still chooses, make the same
pub choose_next : (ds : List ℕ) (i v d q w : ℕ) → i < length ds → d ≡ q % 2 * get_or ds i 0 → v ⊕ choose (drop i ds) q ≡ w
    → bit_xor v d ⊕ choose (drop (i + 1) ds) (q / 2) ≡ w
unfolding choose
choose_next ds i v d q w l e h =
    let f : i + 1 ≡ suc i = omega arith in
    rw f
    (ap (λ (x : ℕ). x ⊕ choose (drop (suc i) ds) (q / 2)) (ap (bit_xor v) e ∙ sym (is_xor v (q % 2 * get_or ds i 0)))
    ∙ xor_assoc v (q % 2 * get_or ds i 0) (choose (drop (suc i) ds) (q / 2))
    ∙ ap (λ (x : List ℕ). v ⊕ choose x q) (sym (drop-cons ds i 0 l)) ∙ h)

pub choose_done : (ds : List ℕ) (i v q w : ℕ) → length ds ≤ i → v ⊕ choose (drop i ds) q ≡ w → v ≡ w
unfolding choose
choose_done ds i v q w l h = sym (xor-zero v) ∙ ap (λ (x : List ℕ). v ⊕ choose x q) (sym (drop_of_length-le ds l)) ∙ h

-- zeros after the directions choose nothing
pub choose_zeros : (ds : List ℕ) (j n : ℕ) → choose (ds ++ replicate j 0) n ≡ choose ds n
unfolding choose
choose_zeros [] zero n = refl
choose_zeros [] (suc j) n = ap₂ ◌⊕◌ (mul-zero (n % 2)) (choose_zeros [] j (n / 2)) ∙ zero_xor 0
choose_zeros (d ∷ ds) j n = ap (λ (x : ℕ). n % 2 * d ⊕ x) (choose_zeros ds j (n / 2))

-- what the numbers below four choose: at most the first two entries
pub choose_one : (ds : List ℕ) → choose ds 1 ≡ get_or ds 0 0
unfolding choose
choose_one [] = refl
choose_one (d ∷ ds) = ap₂ ◌⊕◌ (one-mul d) (choose-zero ds) ∙ xor-zero d

pub choose_two : (ds : List ℕ) → choose ds 2 ≡ get_or ds 1 0
unfolding choose
choose_two [] = refl
choose_two (d ∷ ds) = ap₂ ◌⊕◌ (zero-mul d) (choose_one ds) ∙ zero_xor (get_or ds 0 0)

pub choose_three : (ds : List ℕ) → choose ds 3 ≡ get_or ds 0 0 ⊕ get_or ds 1 0
unfolding choose
choose_three [] = sym (zero_xor 0)
choose_three (d ∷ ds) = ap₂ ◌⊕◌ (one-mul d) (choose_one ds)
