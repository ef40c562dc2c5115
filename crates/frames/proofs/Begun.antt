-- What a call knows of the line that has begun (`Holds`): at the start (`holds_none`), after more bytes of it (`holds_more`), and that it is
-- enough to answer the line, whatever follows (`begun_answer`), and at the end of the input (`begun_last`). Assumes nothing.
use mathlib.Core.Path.{◌≡◌, refl, sym, ap, ◌∙◌}
use mathlib.Core.List.{List, [], ◌∷◌, ◌++◌, append-nil}
use Prim.Native.Nat.{ℕ, zero, suc, ◌+◌, ◌≤◌, min}
use native.Mathlib.Decide.{dec_le}
use native.Mathlib.Omega.{arith}
use lib.ListN.{length, length-append}
use Rattle.frames.specs.Limits.{most_digits}
use Rattle.frames.specs.Text.{text}
use Rattle.frames.specs.Answer.{answer_bytes, answer_text}
use Rattle.frames.specs.Stream.{line_feed, last_line, answer_line, answers_of, held, lengthened, kept_after, last_written}
use Rattle.frames.proofs.Held.{held_front, held_more, long_answer, kept_length, kept_all}

-- n and the list that keeps the line hold the bytes cur of a line: how many, up to one too many, and which, as long as they are not too many
pub record Holds (n : ℕ) (line cur : List ℕ) : Type 0 where
  pub full : length line ≡ most_digits
  pub count : n ≡ min (length cur) (most_digits + 1)
  pub same : length cur ≤ most_digits → held n line ≡ cur

pub holds_none : (line : List ℕ) → length line ≡ most_digits → Holds 0 line []
holds_none line e = record { full = e; count = omega arith; same = λ h. held_front 0 line (omega arith) }

module _ (n : ℕ) (line cur : List ℕ) (w : Holds n line cur) where
  pub holds_more : (bytes : List ℕ) → Holds (lengthened n (length bytes)) (kept_after n line bytes) (cur ++ bytes)
  holds_more bytes =
      record {
        full = kept_length n line bytes ∙ w.full;
        count = omega (arith, w.count, length-append cur bytes);
        same = λ h. fits (omega (arith, length-append cur bytes));
      }
    where
      fits : length cur + length bytes ≤ most_digits → held (lengthened n (length bytes)) (kept_after n line bytes) ≡ cur ++ bytes
      fits h =
          kept_all n line bytes w.full (omega (arith, w.count))
          ∙ ap (λ (l : List ℕ). l ++ bytes) (w.same (omega arith))

  begun_bytes : (bytes : List ℕ) → answer_bytes (held n line ++ bytes) ≡ answer_bytes (cur ++ bytes)
  begun_bytes bytes = go (dec_le (length cur) most_digits)
    where
      go : Dec (length cur ≤ most_digits) → answer_bytes (held n line ++ bytes) ≡ answer_bytes (cur ++ bytes)
      go (yes h) = ap (λ (l : List ℕ). answer_bytes (l ++ bytes)) (w.same h)
      go (no h) =
          long_answer (held n line ++ bytes) (omega (arith, w.count, held_more n line bytes))
          ∙ sym (long_answer (cur ++ bytes) (omega (arith, length-append cur bytes)))

  pub begun_answer : (bytes : List ℕ) → answer_line (held n line ++ bytes) ≡ answer_line (cur ++ bytes)
  unfolding answer_line answer_text
  begun_answer bytes = ap (λ (bs : List ℕ). text bs ++ line_feed ∷ []) (begun_bytes bytes)

  begun_whole : answer_line (held n line) ≡ answer_line cur
  begun_whole = ap answer_line (sym (append-nil (held n line))) ∙ begun_answer [] ∙ ap answer_line (append-nil cur)

-- a line of which no byte has been read is none
pub begun_last : (n : ℕ) (line cur : List ℕ) → Holds n line cur → last_written n line ≡ answers_of (last_line cur)
begun_last zero line [] w = refl
begun_last zero line (b ∷ bs) w = absurd (omega (arith, w.count))
begun_last (suc n) line [] w = absurd (omega (arith, w.count))
begun_last (suc n) line (b ∷ bs) w = begun_whole (suc n) line (b ∷ bs) w ∙ sym (append-nil (answer_line (b ∷ bs)))
