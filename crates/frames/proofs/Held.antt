-- What a call knows of a line that has begun. `held_kept`: the answer to the line that is kept is the answer to the line that was held with
-- the bytes after it. On the way: `held-length` and `held_front` for what is held, `kept_length` and `kept_front` for what is kept, and
-- `long_answer`, a line that is too long is malformed whatever it holds. Assumes nothing.
use mathlib.Core.Path.{◌≡◌, sym, ap, ◌∙◌}
use mathlib.Core.List.{List, [], ◌∷◌, ◌++◌}
use Prim.Native.Nat.{ℕ, ◌+◌, ◌-◌, ◌≤◌, ◌<◌}
use native.Mathlib.Decide.{dec_le}
use native.Mathlib.Omega.{arith}
use lib.Dec.{eqb}
use lib.ListN.{length, take, drop, replicate, length-append, length-replicate}
use lib.Seq.{sets, sets-eq, length-sets, length-take-le, take-append-le, take_all, take_at}
use Rattle.algebra.specs.Lists.{padded}
use Rattle.field.proofs.Tests.{refused_by}
use Rattle.frames.specs.Limits.{most_digits}
use Rattle.frames.specs.Frame.{kind_of, polynomial_of, coefficients_of, line_tests}
use Rattle.frames.specs.Answer.{called_bytes, answer_bytes}
use Rattle.frames.specs.Stream.{held, lengthened, kept_after}
use Rattle.frames.proofs.Malformed.{too_long}

-- ---- what is held

padded_room : (n : ℕ) (line : List ℕ) → n ≤ length (padded n line)
padded_room n line =
    omega (arith, length-append line (replicate (n - length line) 0), length-replicate {A = ℕ} (n - length line) 0)

pub held-length : (n : ℕ) (line : List ℕ) → length (held n line) ≡ n
unfolding held
held-length n line = length-take-le n (padded n line) (padded_room n line)

pub held_front : (n : ℕ) (line : List ℕ) → n ≤ length line → held n line ≡ take n line
unfolding held
held_front n line h = take-append-le n line (replicate (n - length line) 0) h

-- how much it comes to with the bytes after it
pub held_more : (n : ℕ) (line bytes : List ℕ) → length (held n line ++ bytes) ≡ n + length bytes
held_more n line bytes = length-append (held n line) bytes ∙ ap (λ (k : ℕ). k + length bytes) (held-length n line)

-- ---- a line that is too long

pub long_answer : (l : List ℕ) → most_digits < length l → answer_bytes l ≡ 255 ∷ 8 ∷ []
unfolding answer_bytes
long_answer l h =
    let said = called_bytes (eqb (kind_of l) 1) (polynomial_of l) (coefficients_of l) in
    sym (refused_by (λ (k : ℕ). 255 ∷ k ∷ []) said 8 (line_tests l) (too_long l h) (λ e. absurd (omega arith)))

-- ---- bytes that are kept

pub kept_length : (n : ℕ) (line bytes : List ℕ) → length (kept_after n line bytes) ≡ length line
unfolding kept_after
kept_length n line bytes = length-sets line n (take (most_digits - n) bytes)

module _ (n : ℕ) (line bytes : List ℕ) (e : length line ≡ most_digits) (h : n + length bytes ≤ most_digits) where
  -- there is room: they stand after the first n, and then what stood there before
  pub kept_room : kept_after n line bytes ≡ take n line ++ bytes ++ drop (n + length bytes) line
  unfolding kept_after
  kept_room = ap (sets line n) (take_all (most_digits - n) bytes (omega arith)) ∙ sets-eq bytes line n (omega arith)

  pub kept_front : take (n + length bytes) (kept_after n line bytes) ≡ take n line ++ bytes
  kept_front =
      let long : length (take n line ++ bytes) ≡ n + length bytes = omega (arith, length-append (take n line) bytes, length-take-le n line (omega arith)) in
      ap (take (n + length bytes)) kept_room ∙ take_at (take n line ++ bytes) (drop (n + length bytes) line) (n + length bytes) long

  pub kept_all : held (lengthened n (length bytes)) (kept_after n line bytes) ≡ held n line ++ bytes
  kept_all =
      let same : lengthened n (length bytes) ≡ n + length bytes = omega arith in
      ap (λ (k : ℕ). held k (kept_after n line bytes)) same
      ∙ held_front (n + length bytes) (kept_after n line bytes) (omega (arith, kept_length n line bytes))
      ∙ kept_front ∙ ap (λ (l : List ℕ). l ++ bytes) (sym (held_front n line (omega arith)))

pub held_kept : (n : ℕ) (line bytes : List ℕ) → length line ≡ most_digits
    → answer_bytes (held (lengthened n (length bytes)) (kept_after n line bytes)) ≡ answer_bytes (held n line ++ bytes)
held_kept n line bytes e = go (dec_le (n + length bytes) most_digits)
  where
    more : ℕ
    more = lengthened n (length bytes)

    go : Dec (n + length bytes ≤ most_digits) → answer_bytes (held more (kept_after n line bytes)) ≡ answer_bytes (held n line ++ bytes)
    go (yes h) = ap answer_bytes (kept_all n line bytes e h)
    go (no h) =
        long_answer (held more (kept_after n line bytes)) (omega (arith, held-length more (kept_after n line bytes)))
        ∙ sym (long_answer (held n line ++ bytes) (omega (arith, held_more n line bytes)))
