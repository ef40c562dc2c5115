-- The text of an answer, read by the rule by which lines are read, gives its bytes back (`answer_reads_back`), so no two answers have the
-- same text (`same_text`), and every character of it is a digit (`answer_digits`). On the way: the value of a digit's character is the digit
-- (`capital-value`), and the same three for the text of any bytes (`text_reads_back`, `text_apart`, `text-digit`). Assumes nothing.
use mathlib.Core.Path.{◌≡◌, sym, ap, ap₂, ◌∙◌}
use mathlib.Core.Bool.{false}
use mathlib.Core.List.{List, [], ◌∷◌, ◌++◌}
use Prim.Native.Nat.{ℕ, zero, suc, ◌+◌, ◌*◌, ◌/◌, ◌%◌, ◌<◌}
use native.Mathlib.Decide.{dec_lt}
use native.Mathlib.Omega.{arith}
use borrow.Author.Tests.{ne_eqb}
use lib.Dec.{eqb}
use lib.ListN.{length, get_or}
use lib.Seq.{ext_get_or}
use Rattle.algebra.proofs.Search.{some_none}
use Rattle.frames.specs.Frame.{digit_value, byte_at, another_character}
use Rattle.frames.specs.Text.{capital, digits, text}
use Rattle.frames.specs.Answer.{answer_bytes, answer_text}
use Rattle.frames.proofs.Characters.{decimal, upper, inside, above, as_decimal, as_letter}
use Rattle.frames.proofs.Writing.{text-length}
use Rattle.frames.proofs.Bytes.{AllBytes}
use Rattle.frames.proofs.ByteValues.{answer_all}

-- ---- characters

pub capital-value : (d : ℕ) → d < 16 → digit_value (capital d) ≡ d
capital-value d h = go (dec_lt d 10)
  where
    go : Dec (d < 10) → digit_value (capital d) ≡ d
    go (yes l) = ap digit_value (sym (as_decimal d l)) ∙ sym (decimal (48 + d) (inside 48 57 (48 + d) (omega arith) (omega arith))) ∙ omega arith
    go (no l) =
        ap digit_value (sym (as_letter d (omega arith)))
        ∙ sym (upper (55 + d) (above 48 57 (55 + d) (omega arith) (omega arith)) (inside 65 70 (55 + d) (omega arith) (omega arith)))
        ∙ omega arith

-- ---- text

-- a byte's digits before a text leave its bytes where they were, one further on
byte_after : (a b : ℕ) (l : List ℕ) (i : ℕ) → byte_at (a ∷ b ∷ l) (suc i) ≡ byte_at l i
unfolding byte_at
byte_after a b l i =
    let high : 2 * suc i ≡ suc (suc (2 * i)) = omega arith in
    let low : 2 * suc i + 1 ≡ suc (suc (2 * i + 1)) = omega arith in
    ap₂ (λ (j k : ℕ). digit_value (get_or (a ∷ b ∷ l) j 0) * 16 + digit_value (get_or (a ∷ b ∷ l) k 0)) high low

byte_first : (v : ℕ) (l : List ℕ) → v < 256 → byte_at (digits v ++ l) 0 ≡ v
unfolding byte_at
byte_first v l h = omega (arith, capital-value (v / 16 % 16) (omega arith), capital-value (v % 16) (omega arith))

pub text_reads_back : (vs : List ℕ) (i : ℕ) → AllBytes vs → i < length vs → byte_at (text vs) i ≡ get_or vs i 0
text_reads_back [] i h l = absurd (omega arith)
text_reads_back (v ∷ vs) zero h l = byte_first v (text vs) h.0
text_reads_back (v ∷ vs) (suc i) h l =
    byte_after (capital (v / 16 % 16)) (capital (v % 16)) (text vs) i ∙ text_reads_back vs i h.1 (omega arith)

-- texts that are the same are of the same bytes
pub text_apart : (vs ws : List ℕ) → AllBytes vs → AllBytes ws → text vs ≡ text ws → vs ≡ ws
text_apart vs ws h k e = ext_get_or 0 vs ws long at
  where
    long : length vs ≡ length ws
    long = omega (arith, text-length vs, text-length ws, ap length e)

    at : (i : ℕ) → i < length vs → get_or vs i 0 ≡ get_or ws i 0
    at i l = sym (text_reads_back vs i h l) ∙ ap (λ (t : List ℕ). byte_at t i) e ∙ text_reads_back ws i k (omega (arith, long))

pub text-digit : (vs : List ℕ) (i : ℕ) → i < length (text vs) → digit_value (get_or (text vs) i 0) < 16
text-digit [] i l = absurd (omega arith)
text-digit (v ∷ vs) zero l = omega (arith, capital-value (v / 16 % 16) (omega arith))
text-digit (v ∷ vs) (suc zero) l = omega (arith, capital-value (v % 16) (omega arith))
text-digit (v ∷ vs) (suc (suc i)) l = text-digit vs i (omega arith)

-- ---- answers

pub answer_reads_back : (l : List ℕ) (i : ℕ) → i < length (answer_bytes l) → byte_at (answer_text l) i ≡ get_or (answer_bytes l) i 0
unfolding answer_text
answer_reads_back l i h = text_reads_back (answer_bytes l) i (answer_all l) h

pub same_text : (l k : List ℕ) → answer_text l ≡ answer_text k → answer_bytes l ≡ answer_bytes k
unfolding answer_text
same_text l k e = text_apart (answer_bytes l) (answer_bytes k) (answer_all l) (answer_all k) e

pub answer_digits : (l : List ℕ) → another_character (answer_text l) ≡ false
unfolding answer_text another_character
answer_digits l =
    let t = text (answer_bytes l) in
    some_none (λ i. eqb (digit_value (get_or t i 0)) 16) (length t)
    (λ i h. ne_eqb (digit_value (get_or t i 0)) 16 (λ e. absurd (omega (arith, text-digit (answer_bytes l) i h))))
