-- Every second digit of a number: few (`even_lt`); a number is the square of its even digits and x times the square of its odd ones, as
-- polynomials (`squares_of_halves`); masks and shifts find them (`gathered_is`), for both ways are additive and agree at the powers of
-- two. Assumes nothing.
use Rattle.std.proofs.Common.{◌≡◌, refl, sym, ap, ap₂, ◌∙◌, true, ℕ, zero, suc, ◌+◌, ◌*◌, ◌/◌, ◌%◌, ◌^◌, ◌<◌, mod-lt, zero-mul, one-mul, arith, bit_and, bit_xor, eqb, pow_pos, eqb-true}
use Rattle.std.proofs.Math.Arith.{bin_ind}
use lib.Bits.{and_shr, and_mod}
use Rattle.algebra.specs.Search.{every_below}
use Rattle.algebra.proofs.Search.{every_at}
use Rattle.binary.specs.Xor.{◌⊕◌}
use Rattle.binary.proofs.Xor.{two_pos, by_digit, same_digits, is_xor, zero_xor, xor-zero, xor_half, xor_odd, xor_shr, xor_double, digits-xor, digits_of, ac}
use Rattle.binary.proofs.Additive.{Additive, additive_same}
use Rattle.binary.specs.Times.{times}
use Rattle.binary.proofs.Times.{zero-times, times_comm, digits-times}
use Rattle.arithmetic.specs.EvenDigits.{even_digits}

-- half as many digits
pub even_lt : (n k a : ℕ) → a < 2 ^ (k + k) → even_digits n a < 2 ^ k
unfolding even_digits
even_lt zero k a h = pow_pos k
even_lt (suc n) zero a h =
    let w = even_lt n zero (a / 2 / 2) (omega arith) in
    omega arith
even_lt (suc n) (suc k) a h =
    let e : suc k + suc k ≡ suc (suc (k + k)) = omega arith in
    let l : a < 2 ^ suc (suc (k + k)) = rw e at h in
    let w = even_lt n k (a / 2 / 2) (omega arith) in
    omega arith

-- the square of a number by its last digit
square_digits : (e d : ℕ) → d < 2 → times (e * 2 + d) (e * 2 + d) ≡ times e e * 2 * 2 ⊕ d
square_digits e d h =
    digits-times e d (e * 2 + d) h
    ∙ ap (λ (x : ℕ). x * 2 ⊕ d * (e * 2 + d)) (times_comm e (e * 2 + d) ∙ digits-times e d e h)
    ∙ by_digit (λ (d : ℕ). (times e e * 2 ⊕ d * e) * 2 ⊕ d * (e * 2 + d) ≡ times e e * 2 * 2 ⊕ d) (simp (zero-mul, xor-zero))
    (ap₂ (λ (x y : ℕ). (times e e * 2 ⊕ x) * 2 ⊕ y) (one-mul e) (one-mul (e * 2 + 1) ∙ sym (digits-xor e 1 (omega arith)))
    ∙ ap (λ (x : ℕ). x ⊕ (e * 2 ⊕ 1)) (sym (xor_double (times e e * 2) e))
    ∙ (simp ac)) d h

-- E² + x·O² is the number: squaring moves each digit to twice its place
pub squares_of_halves : (n a : ℕ) → a < 2 ^ (n + n)
    → times (even_digits n a) (even_digits n a) ⊕ times (even_digits n (a / 2)) (even_digits n (a / 2)) * 2 ≡ a
unfolding even_digits
squares_of_halves zero a h =
    let e : a ≡ 0 = omega arith in
    simp (zero-times, zero-mul, zero_xor) (sym e)
squares_of_halves (suc n) a h =
    let f : suc n + suc n ≡ suc (suc (n + n)) = omega arith in
    let l : a < 2 ^ suc (suc (n + n)) = rw f at h in
    let q = a / 2 / 2 in
    let e = even_digits n q in
    let o = even_digits n (q / 2) in
    ap₂ (λ (x y : ℕ). x ⊕ y * 2) (square_digits e (a % 2) (mod-lt a two_pos)) (square_digits o (a / 2 % 2) (mod-lt (a / 2) two_pos))
    ∙ regroup (times e e) (times o o) (a / 2 % 2) (a % 2)
    ∙ ap (λ (x : ℕ). (x * 2 ⊕ a / 2 % 2) * 2 ⊕ a % 2) (squares_of_halves n q (omega arith))
    ∙ ap (λ (x : ℕ). x * 2 ⊕ a % 2) (digits_of (a / 2)) ∙ digits_of a
  where
    regroup : (u v c d : ℕ) → (u * 2 * 2 ⊕ d) ⊕ (v * 2 * 2 ⊕ c) * 2 ≡ ((u ⊕ v * 2) * 2 ⊕ c) * 2 ⊕ d
    regroup u v c d = simp (← xor_double, ac)

-- ---- masks and shifts

-- a mask is additive
and_digits : (a b c : ℕ) → a < 2 → b < 2 → c < 2 → bit_and (a ⊕ b) c ≡ bit_and a c ⊕ bit_and b c
unfolding ◌⊕◌
and_digits a b c ha hb hc =
    by_digit (λ (a : ℕ). bit_and (a ⊕ b) c ≡ bit_and a c ⊕ bit_and b c) refl
    (by_digit (λ (b : ℕ). bit_and (1 ⊕ b) c ≡ bit_and 1 c ⊕ bit_and b c)
    (by_digit (λ (c : ℕ). bit_and (1 ⊕ 0) c ≡ bit_and 1 c ⊕ bit_and 0 c) refl refl c hc)
    (by_digit (λ (c : ℕ). bit_and (1 ⊕ 1) c ≡ bit_and 1 c ⊕ bit_and 1 c) refl refl c hc) b hb) a ha

and_xor : (a b c : ℕ) → bit_and (a ⊕ b) c ≡ bit_and a c ⊕ bit_and b c
and_xor =
    bin_ind (λ (a : ℕ). (b c : ℕ) → bit_and (a ⊕ b) c ≡ bit_and a c ⊕ bit_and b c)
    (λ b c. ap (λ (x : ℕ). bit_and x c) (zero_xor b) ∙ sym (zero_xor (bit_and b c)))
    (λ a ih b c. same_digits _ _
    (and_shr (a ⊕ b) c 1 ∙ ap (λ (x : ℕ). bit_and x (c / 2)) (xor_half a b) ∙ ih (b / 2) (c / 2)
    ∙ sym (xor_half (bit_and a c) (bit_and b c) ∙ ap₂ ◌⊕◌ (and_shr a c 1) (and_shr b c 1)))
    (and_mod (a ⊕ b) c 1 ∙ ap (λ (x : ℕ). bit_and x (c % 2)) (xor_odd a b)
    ∙ and_digits (a % 2) (b % 2) (c % 2) (mod-lt a two_pos) (mod-lt b two_pos) (mod-lt c two_pos)
    ∙ sym (xor_odd (bit_and a c) (bit_and b c) ∙ ap₂ ◌⊕◌ (and_mod a c 1) (and_mod b c 1))))

-- each digit added to the one k places below, and what the mask leaves of that
abbrev moved : ℕ → ℕ → ℕ → ℕ
moved k mask x = bit_and (bit_xor x (x / 2 ^ k)) mask

-- every second digit, then in pairs, fours, eights and sixteen
abbrev pub gathered : ℕ → ℕ
gathered x = moved 8 0x0000ffff (moved 4 0x00ff00ff (moved 2 0x0f0f0f0f (moved 1 0x33333333 (bit_and x 0x55555555))))

moved_xor : (k mask : ℕ) → Additive (moved k mask)
moved_xor k mask x y =
    ap (λ (v : ℕ). bit_and v mask)
    (sym (is_xor (x ⊕ y) ((x ⊕ y) / 2 ^ k)) ∙ ap (λ (v : ℕ). (x ⊕ y) ⊕ v) (xor_shr x y k) ∙ (simp ac)
    ∙ ap₂ ◌⊕◌ (is_xor x (x / 2 ^ k)) (is_xor y (y / 2 ^ k)))
    ∙ and_xor (bit_xor x (x / 2 ^ k)) (bit_xor y (y / 2 ^ k)) mask

after : (f g : ℕ → ℕ) → Additive f → Additive g → Additive (λ x. f (g x))
after f g a b x y = ap f (b x y) ∙ a (g x) (g y)

gathered_xor : Additive gathered
gathered_xor =
    after (moved 8 0x0000ffff) _ (moved_xor 8 0x0000ffff)
    (after (moved 4 0x00ff00ff) _ (moved_xor 4 0x00ff00ff)
    (after (moved 2 0x0f0f0f0f) _ (moved_xor 2 0x0f0f0f0f)
    (after (moved 1 0x33333333) _ (moved_xor 1 0x33333333) (λ x y. and_xor x y 0x55555555))))

even_xor : (n : ℕ) → Additive (even_digits n)
unfolding even_digits
even_xor zero x y = sym (zero_xor 0)
even_xor (suc n) x y =
    sym (digits-xor (even_digits n ((x ⊕ y) / 2 / 2)) ((x ⊕ y) % 2) (mod-lt (x ⊕ y) two_pos))
    ∙ ap₂ (λ (u v : ℕ). u * 2 ⊕ v)
    (ap (even_digits n) (ap (λ (v : ℕ). v / 2) (xor_half x y) ∙ xor_half (x / 2) (y / 2)) ∙ even_xor n (x / 2 / 2) (y / 2 / 2))
    (xor_odd x y)
    ∙ regroup (even_digits n (x / 2 / 2)) (even_digits n (y / 2 / 2)) (x % 2) (y % 2)
    ∙ ap₂ ◌⊕◌ (digits-xor (even_digits n (x / 2 / 2)) (x % 2) (mod-lt x two_pos)) (digits-xor (even_digits n (y / 2 / 2)) (y % 2) (mod-lt y two_pos))
  where
    regroup : (u v c d : ℕ) → (u ⊕ v) * 2 ⊕ (c ⊕ d) ≡ (u * 2 ⊕ c) ⊕ (v * 2 ⊕ d)
    regroup u v c d = simp (← xor_double, ac)

-- computed
agree : every_below (λ j. eqb (gathered (2 ^ j)) (even_digits 16 (2 ^ j))) 32 ≡ true
unfolding every_below even_digits
agree = refl

pub gathered_is : (x : ℕ) → x < 2 ^ 32 → gathered x ≡ even_digits 16 x
gathered_is =
    additive_same gathered (even_digits 16) gathered_xor (even_xor 16) 32
    (λ j l. eqb-true (gathered (2 ^ j)) (even_digits 16 (2 ^ j)) (every_at (λ j. eqb (gathered (2 ^ j)) (even_digits 16 (2 ^ j))) 32 agree j l))
