-- `dot`, the parity of the bits that a row and a number share: it is 0 or 1, additive on both sides, and a row's bit at a power of two.
-- Assumes nothing.
use mathlib.Core.Path.{◌≡◌, sym, ap, ap₂, ◌∙◌}
use Prim.Native.Nat.{ℕ, zero, suc, ◌*◌, ◌/◌, ◌%◌, ◌^◌, ◌<◌, min}
use native.Mathlib.Nat.{mod-lt, one-mul, zero-mul, mul-one, mul-zero}
use native.Mathlib.Omega.{arith}
use lib.Arith.{bin_ind}
use lib.Bits.{bit_and, and_step, and_zero_r, and_comm}
use Rattle.binary.specs.Xor.{◌⊕◌, Degree}
use Rattle.binary.specs.Bit.{bit}
use Rattle.binary.specs.Fold.{fold, fold_f}
use Rattle.binary.proofs.Xor.{two_pos, by_digit, zero_xor, xor-zero, xor_assoc, xor_left_comm, xor_half, xor_odd, xor_lt, xor_twice, same-top}
use Rattle.binary.proofs.Bit.{bit_low, bit_half, degree_pow}
use Rattle.binary.proofs.Fold.{fold_step}
use Rattle.linear.specs.System.{parity_step, parity, dot}

parity-step : (a : ℕ) → parity a ≡ a % 2 ⊕ parity (a / 2)
unfolding parity parity_step
parity-step a = fold_step parity_step (zero_xor 0) a

min_digits : (x y : ℕ) → x < 2 → y < 2 → min x y ≡ x * y
min_digits x y h l = by_digit (λ (x : ℕ). min x y ≡ x * y) (omega arith) (omega arith) x h

pub dot-step : (r v : ℕ) → dot r v ≡ r % 2 * (v % 2) ⊕ dot (r / 2) (v / 2)
unfolding dot
dot-step r v =
    let e = and_step r v in
    parity-step (bit_and r v)
    ∙ ap₂ (λ (x y : ℕ). x ⊕ parity y)
    (omega (arith, min_digits (r % 2) (v % 2) (mod-lt r two_pos) (mod-lt v two_pos)))
    (omega arith)

pub dot_comm : (r v : ℕ) → dot r v ≡ dot v r
unfolding dot
dot_comm r v = ap parity (and_comm r v)

pub dot-zero : (r : ℕ) → dot r 0 ≡ 0
unfolding dot parity fold fold_f
dot-zero r = ap parity (and_zero_r r)

pub zero-dot : (v : ℕ) → dot 0 v ≡ 0
zero-dot v = dot_comm 0 v ∙ dot-zero v

pub dot_lt : (r v : ℕ) → dot r v < 2
dot_lt =
    bin_ind (λ (r : ℕ). (v : ℕ) → dot r v < 2) (λ v. rw zero-dot two_pos)
    (λ r ih v. rw dot-step (xor_lt 1
    (by_digit (λ (x : ℕ). x * (v % 2) < 2) (omega arith) (omega arith) (r % 2) (mod-lt r two_pos)) (ih (v / 2))))

digit-xor : (d b c : ℕ) → d < 2 → d * (b ⊕ c) ≡ d * b ⊕ d * c
digit-xor d b c = by_digit (λ (d : ℕ). d * (b ⊕ c) ≡ d * b ⊕ d * c) (simp (zero-mul, zero_xor)) (simp one-mul) d

pub dot-xor : (r v w : ℕ) → dot r (v ⊕ w) ≡ dot r v ⊕ dot r w
dot-xor =
    bin_ind (λ (r : ℕ). (v w : ℕ) → dot r (v ⊕ w) ≡ dot r v ⊕ dot r w) (λ v w. simp (zero-dot, zero_xor))
    (λ r ih v w. dot-step r (v ⊕ w)
    ∙ (simp (xor_odd, xor_half, ih, digit-xor (r % 2) (v % 2) (w % 2) (mod-lt r two_pos), xor_assoc, xor_left_comm))
    ∙ sym (ap₂ ◌⊕◌ (dot-step r v) (dot-step r w)))

pub xor-dot : (r s v : ℕ) → dot (r ⊕ s) v ≡ dot r v ⊕ dot s v
xor-dot r s v = dot_comm (r ⊕ s) v ∙ dot-xor v r s ∙ ap₂ ◌⊕◌ (dot_comm v r) (dot_comm v s)

-- a row's dot with one column is its bit there
pub dot_pow : (k r : ℕ) → dot r (2 ^ k) ≡ bit k r
dot_pow zero r =
    dot-step r 1 ∙ simp (dot-zero, xor-zero, mul-one) (sym (bit_low r))
dot_pow (suc k) r =
    let p : 2 ^ suc k % 2 ≡ 0 = omega arith in
    let q : 2 ^ suc k / 2 ≡ 2 ^ k = omega arith in
    dot-step r (2 ^ suc k) ∙ rw (p, q, mul-zero, zero_xor) (dot_pow k (r / 2) ∙ bit_half k r)

-- a row with no bit below m meets no number below 2 ^ m
pub dot_low : (m r v : ℕ) → ((b : ℕ) → b < m → bit b r ≡ 0) → v < 2 ^ m → dot r v ≡ 0
dot_low zero r v h l = let e : v ≡ 0 = omega arith in rw e (dot-zero r)
dot_low (suc m) r v h l =
    let e : r % 2 ≡ 0 = sym (bit_low r) ∙ h 0 (omega arith) in
    dot-step r v
    ∙ rw (e, zero-mul, zero_xor)
    (dot_low m (r / 2) (v / 2) (λ b k. bit_half b r ∙ h (suc b) (omega arith)) (omega arith))

-- a row whose lowest bit is t, and a number whose top bit is t, meet there alone
pub dot_meet : (t r v : ℕ) → ((b : ℕ) → b < t → bit b r ≡ 0) → bit t r ≡ 1 → Degree t v → dot r v ≡ 1
dot_meet t r v h o d =
    ap (dot r) (sym (xor_twice (2 ^ t) v)) ∙ dot-xor r (2 ^ t) (2 ^ t ⊕ v)
    ∙ rw (dot_pow, o, dot_low t r (2 ^ t ⊕ v) h (same-top t (2 ^ t) v (degree_pow t) d)) (xor-zero 1)

pub dot-digit : (r d v : ℕ) → d < 2 → dot r (d * v) ≡ d * dot r v
dot-digit r d v = by_digit (λ (d : ℕ). dot r (d * v) ≡ d * dot r v) (simp (zero-mul, dot-zero)) (simp one-mul) d

pub digit-dot : (r d v : ℕ) → d < 2 → dot (d * r) v ≡ d * dot r v
digit-dot r d v = by_digit (λ (d : ℕ). dot (d * r) v ≡ d * dot r v) (simp (zero-mul, zero-dot)) (simp one-mul) d
