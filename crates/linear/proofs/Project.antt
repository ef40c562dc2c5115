-- Once every column is done, `project` sends a number to the kernel along the pivot columns (`project_kernel`), and what it adds (`fill`)
-- keeps the bits at the free columns (`fill_free`) and stays below a free top (`fill_below`). D3 rests on it. Assumes nothing.
use mathlib.Core.Path.{◌≡◌, sym, ◌∙◌, subst}
use mathlib.Core.Logic.{◌≢◌}
use Prim.Native.Nat.{ℕ, zero, suc, ◌*◌, ◌-◌, ◌^◌, ◌≤◌, ◌<◌, min}
use native.Mathlib.Nat.{mul-zero, zero-mul, mul-one, one-mul}
use native.Mathlib.Omega.{arith}
use native.Mathlib.Decide.{ℕ_discrete, dec_lt}
use lib.ListN.{get_or-eq_default}
use lib.Pow.{pow_pos}
use Rattle.binary.specs.Xor.{◌⊕◌, Degree}
use Rattle.binary.specs.Bit.{bit}
use Rattle.binary.proofs.Xor.{zero_xor, xor-zero, xor_self, xor_lt}
use Rattle.binary.proofs.Bit.{bit-zero, bit-xor, bit_pow_other, bit-digit, digit-times_lt}
use Rattle.linear.specs.System.{dot, Kernel}
use Rattle.linear.specs.Elimination.{State, row, mark}
use Rattle.linear.proofs.Dot.{dot-zero, zero-dot, dot_lt, dot-xor, dot_pow, dot_low, dot_meet, dot-digit}
use Rattle.linear.proofs.Pivots.{Pivots}

-- 1 where j is below i
unfoldable under : ℕ → ℕ → ℕ
under j i = min 1 (i - j)

under_step : (j i : ℕ) → j ≢ i → under j (suc i) ≡ under j i
unfolding under
under_step j i h = omega arith

under_self : (i : ℕ) → under i i ≡ 0
unfolding under
under_self i = omega arith

under_yes : (j i : ℕ) → j < i → under j i ≡ 1
unfolding under
under_yes j i h = omega arith

under_zero : (j : ℕ) → under j 0 ≡ 0
unfolding under
under_zero j = omega arith

unfoldable pub term : State → ℕ → ℕ → ℕ
term s w i = dot (row s i) w * 2 ^ mark s i

-- the pivot columns of the rows below n that do not send w to 0
unfoldable pub fill : State → ℕ → ℕ → ℕ
fill s w zero = 0
fill s w (suc n) = fill s w n ⊕ term s w n

unfoldable pub project : ℕ → State → ℕ → ℕ
project n s w = w ⊕ fill s w n

-- no row has the mark t
abbrev pub Free : ℕ → State → ℕ → Type 0
Free n s t = (i : ℕ) → i < n → mark s i ≢ t

-- what holds of each term, of 0 and of sums, holds of the whole
pub fill_all : (P : ℕ → Type 0) (s : State) (w n : ℕ) → P 0 → ((a b : ℕ) → P a → P b → P (a ⊕ b)) → ((i : ℕ) → i < n → P (term s w i)) → P (fill s w n)
unfolding fill
fill_all P s w zero z x h = z
fill_all P s w (suc n) z x h =
    x _ _ (fill_all P s w n z x (λ i l. h i (omega arith))) (h n (omega arith))

module _ (m n : ℕ) (s : State) (c : Pivots m n m s) where
  -- a row sends a pivot column to 0, unless it is its own
  dot-mark : (i j : ℕ) → j < n → i ≢ j → mark s j < m → dot (row s i) (2 ^ mark s j) ≡ 0
  dot-mark i j l h q = dot_pow (mark s j) (row s i) ∙ c.alone j i l h q

  dot_own : (i : ℕ) → i < n → mark s i < m → dot (row s i) (2 ^ mark s i) ≡ 1
  dot_own i l q = dot_pow (mark s i) (row s i) ∙ c.holds i l q

  -- a row with no bit at or below t
  dot_above : (i t w : ℕ) → i < n → t ≤ mark s i → w < 2 ^ t → dot (row s i) w ≡ 0
  dot_above i t w l h k = dot_low t (row s i) w (λ b q. c.low i b l (omega arith) (omega (arith, c.mark_le i l))) k

  pub unused_dot : (i w : ℕ) → i < n → mark s i ≡ m → w < 2 ^ m → dot (row s i) w ≡ 0
  unused_dot i w l e k = dot_above i m w l (omega arith) k

  module _ (w : ℕ) (fits : (i : ℕ) → i < n → mark s i ≡ m → dot (row s i) w ≡ 0) where
    dot_term_other : (i j : ℕ) → j < n → i ≢ j → dot (row s i) (term s w j) ≡ 0
    unfolding term
    dot_term_other i j l h = dot-digit (row s i) (dot (row s j) w) (2 ^ mark s j) (dot_lt _ _) ∙ pick (dec_lt (mark s j) m)
      where
        pick : Dec (mark s j < m) → dot (row s j) w * dot (row s i) (2 ^ mark s j) ≡ 0
        pick (yes q) = rw (dot-mark i j l h q, mul-zero)
        pick (no q) = rw (fits j l (omega (arith, c.mark_le j l)), zero-mul)

    dot_term_own : (i : ℕ) → i < n → dot (row s i) (term s w i) ≡ dot (row s i) w
    unfolding term
    dot_term_own i l = dot-digit (row s i) (dot (row s i) w) (2 ^ mark s i) (dot_lt _ _) ∙ pick (dec_lt (mark s i) m)
      where
        pick : Dec (mark s i < m) → dot (row s i) w * dot (row s i) (2 ^ mark s i) ≡ dot (row s i) w
        pick (yes q) = rw (dot_own i l q, mul-one)
        pick (no q) = rw (fits i l (omega (arith, c.mark_le i l)), zero-mul)

    dot_fill : (i j : ℕ) → i < n → j ≤ n → dot (row s i) (fill s w j) ≡ under i j * dot (row s i) w
    unfolding fill
    dot_fill i zero l h = dot-zero (row s i) ∙ sym (rw (under_zero i, zero-mul))
    dot_fill i (suc j) l h = dot-xor (row s i) (fill s w j) (term s w j) ∙ rw (dot_fill i j l (omega arith)) (pick (ℕ_discrete i j))
      where
        pick : Dec (i ≡ j) → under i j * dot (row s i) w ⊕ dot (row s i) (term s w j) ≡ under i (suc j) * dot (row s i) w
        pick (yes e) =
            rw (← e, under_self i, zero-mul, zero_xor, under_yes i (suc i) (omega arith), one-mul) (dot_term_own i l)
        pick (no d) = rw (dot_term_other i j (omega arith) d, xor-zero, under_step i j d)

    pub project_kernel : Kernel s.rows (project n s w)
    unfolding project
    project_kernel i = pick (dec_lt i n)
      where
        pick : Dec (i < n) → dot (row s i) (w ⊕ fill s w n) ≡ 0
        pick (yes l) =
            dot-xor (row s i) w (fill s w n) ∙ rw (dot_fill i n l (omega arith), under_yes i n l, one-mul) (xor_self _)
        pick (no l) =
            rw (get_or-eq_default s.rows 0 {n = i} (omega (arith, c.rows_len))) (zero-dot _)

  -- what is added stands below the top, if that is no pivot column of w
  pub fill_below : (t w : ℕ) → t ≤ m → w < 2 ^ suc t → ((i : ℕ) → i < n → mark s i ≡ t → dot (row s i) w ≡ 0) → fill s w n < 2 ^ t
  unfolding term
  fill_below t w lt-m lw h =
      fill_all (λ (x : ℕ). x < 2 ^ t) s w n (pow_pos t) (λ a b p q. xor_lt t p q) (λ i l. at i l (dec_lt (mark s i) t) (ℕ_discrete (mark s i) t))
    where
      at : (i : ℕ) → i < n → Dec (mark s i < t) → Dec (mark s i ≡ t) → term s w i < 2 ^ t
      at i l (yes q) d = digit-times_lt (dot (row s i) w) (mark s i) t (dot_lt _ _) q
      at i l (no q) (yes d) = rw (h i l d, zero-mul) (pow_pos t)
      at i l (no q) (no d) = rw (dot_above i (suc t) w l (omega arith) lw, zero-mul) (pow_pos t)

  -- a free column's bit is not changed
  pub fill_free : (t w : ℕ) → Free n s t → bit t (fill s w n) ≡ 0
  unfolding term
  fill_free t w f =
      fill_all (λ (x : ℕ). bit t x ≡ 0) s w n (bit-zero t) (λ a b p q. bit-xor t a b ∙ rw (p, q) (zero_xor 0))
      (λ i l. bit-digit t (dot (row s i) w) (2 ^ mark s i) (dot_lt _ _) ∙ rw (bit_pow_other t (mark s i) (λ e. f i l (sym e)), mul-zero))

  -- the top bit of a kernel element is a free column
  pub kernel_top : (t w : ℕ) → t < m → Kernel s.rows w → Degree t w → Free n s t
  kernel_top t w l k d i li e =
      absurd (omega (
        arith,
        k i,
        dot_meet t (row s i) w (λ b q. c.low i b li (omega arith) (omega arith))
            (subst (λ (x : ℕ). bit x (row s i) ≡ 1) e (c.holds i li (omega arith))) d,
      ))
