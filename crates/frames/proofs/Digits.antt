-- The characters of a line that are digits (`digits_join`, `all_digits`), or one that is none (`no_digit_at`). Assumes nothing.
use mathlib.Core.Path.{◌≡◌, sym}
use mathlib.Core.Bool.{true, false}
use mathlib.Core.List.{List}
use Prim.Native.Nat.{ℕ, ◌≤◌, ◌<◌}
use native.Mathlib.Decide.{dec_lt}
use native.Mathlib.Omega.{arith}
use borrow.Author.Tests.{eq-eqb, ne_eqb}
use lib.Dec.{eqb}
use lib.ListN.{length, get_or}
use Rattle.algebra.proofs.Search.{some_one, some_none}
use Rattle.frames.specs.Frame.{digit_value, another_character}
use Rattle.frames.specs.Digits.{AreDigits}

pub no_digit_at : (l : List ℕ) (i : ℕ) → i < length l → 16 ≡ digit_value (get_or l i 0) → another_character l ≡ true
unfolding another_character
no_digit_at l i h e = some_one (λ i. eqb (digit_value (get_or l i 0)) 16) (length l) i h (eq-eqb (digit_value (get_or l i 0)) 16 (sym e))

pub digits_join : (l : List ℕ) (a b c d e : ℕ) → AreDigits l a b → AreDigits l c d → c ≤ b → e ≤ d → AreDigits l a e
digits_join l a b c d e h k m n = record { each = λ j v w. go j v w (dec_lt j b) }
  where
    go : (j : ℕ) → a ≤ j → j < e → Dec (j < b) → digit_value (get_or l j 0) < 16
    go j v w (yes i) = h.each j v i
    go j v w (no i) = k.each j (omega arith) (omega arith)

pub all_digits : (l : List ℕ) → AreDigits l 0 (length l) → another_character l ≡ false
unfolding another_character
all_digits l h =
    some_none (λ i. eqb (digit_value (get_or l i 0)) 16) (length l)
    (λ j k. ne_eqb (digit_value (get_or l j 0)) 16 (λ e. absurd (omega (arith, h.each j (omega arith) k))))
