-- The main statement about input in chunks. `any_cuts`: whatever the cuts between the chunks, what is written is the answers of the lines of
-- the joined input, in order. So `cuts_do_not_matter`, nothing is written where there are no bytes (`no_bytes`), and an input may be cut at
-- line ends and worked through piece by piece (`line_by_line`). On the way, what has been written and what is still to be written make up the
-- output (`Reads`): at the start, after a call, after the calls of a chunk and after all chunks (`reads_start`, `reads_call`, `reads_calls`,
-- `reads_chunks`), and so at the end (`reads_end`). Assumes nothing.
use mathlib.Core.Path.{◌≡◌, refl, sym, ap, ◌∙◌}
use mathlib.Core.Bool.{Bool, true, false}
use mathlib.Core.List.{List, [], ◌∷◌, ◌++◌, append_assoc}
use Prim.Native.Nat.{ℕ, zero, suc, ◌+◌, ◌≤◌}
use native.Mathlib.Nat.{le_refl}
use native.Mathlib.Omega.{arith}
use lib.ListN.{length, drop}
use lib.Seq.{drop-length}
use Rattle.frames.specs.Limits.{most_digits}
use Rattle.frames.specs.Stream.{line_feed, lines_after, answer_line, answers_of, output, held, before_feed, ends, taken_of, lengthened}
use Rattle.frames.specs.Stream.{length_after, line_after, written_of, last_written, Stream, after_call, after_calls, after_chunks, written, joined}
use Rattle.frames.proofs.Held.{kept_length}
use Rattle.frames.proofs.Lines.{lines_ended, all_before, lines_open, left_over, answers_then}
use Rattle.frames.proofs.Begun.{Holds, holds_none, holds_more, begun_answer, begun_last}

-- the calls have written the output but for the lines of the rest, the first of which has begun
pub record Reads (input : List ℕ) (s : Stream) (rest : List ℕ) : Type 0 where
  pub begun : List ℕ
  pub holds : Holds s.length s.line begun
  pub tells : output input ≡ s.written ++ answers_of (lines_after begun rest)

-- ---- one call

-- the bytes of the line that has begun, after it
abbrev begun_after : List ℕ → List ℕ → List ℕ
begun_after cur chunk = elim (ends chunk) [ true ↦ [] | false ↦ cur ++ chunk ]

module _ (n : ℕ) (line cur chunk : List ℕ) (w : Holds n line cur) where
  call_holds : Holds (length_after n chunk) (line_after n line chunk) (begun_after cur chunk)
  call_holds = go (ends chunk) refl
    where
      go : (t : Bool) → ends chunk ≡ t
          → Holds (elim t [ true ↦ 0 | false ↦ lengthened n (length chunk) ]) (line_after n line chunk) (elim t [ true ↦ [] | false ↦ cur ++ chunk ])
      go true e = holds_none (line_after n line chunk) (kept_length n line (before_feed chunk) ∙ w.full)
      go false e = rw (all_before chunk e) (holds_more n line cur w chunk)

  call_writes : (rest : List ℕ)
      → answers_of (lines_after cur (chunk ++ rest))
      ≡ written_of n line chunk ++ answers_of (lines_after (begun_after cur chunk) (drop (taken_of chunk) chunk ++ rest))
  call_writes rest = go (ends chunk) refl
    where
      left : ℕ → List ℕ
      left k = drop k chunk ++ rest

      go : (t : Bool) → ends chunk ≡ t
          → answers_of (lines_after cur (chunk ++ rest))
          ≡ elim t as (λ t. List ℕ) [ true ↦ answer_line (held n line ++ before_feed chunk) | false ↦ [] ]
          ++ answers_of (lines_after (elim t [ true ↦ [] | false ↦ cur ++ chunk ]) (left (elim t [ true ↦ length (before_feed chunk) + 1 | false ↦ length chunk ])))
      go true e =
          ap answers_of (lines_ended cur chunk rest e)
          ∙ ap (λ (l : List ℕ). l ++ answers_of (lines_after [] (left (length (before_feed chunk) + 1)))) (sym (begun_answer n line cur w (before_feed chunk)))
      go false e =
          ap answers_of (lines_open cur chunk rest e)
          ∙ ap (λ (l : List ℕ). answers_of (lines_after (cur ++ chunk) (l ++ rest))) (sym (drop-length chunk))

-- ---- all calls

-- before any call
abbrev pub started : List ℕ → Stream
started line = record { length = 0; line = line; written = [] }

module _ (input : List ℕ) where
  pub reads_start : (line : List ℕ) → length line ≡ most_digits → Reads input (started line) input
  reads_start line e = record { begun = []; holds = holds_none line e; tells = refl }

  pub reads_call : (s : Stream) (chunk rest : List ℕ) → Reads input s (chunk ++ rest)
      → Reads input (after_call chunk s) (drop (taken_of chunk) chunk ++ rest)
  reads_call s chunk rest r =
      let done = written_of s.length s.line chunk in
      let todo = answers_of (lines_after (begun_after r.begun chunk) (drop (taken_of chunk) chunk ++ rest)) in
      record {
        begun = begun_after r.begun chunk;
        holds = call_holds s.length s.line r.begun chunk r.holds;
        tells = r.tells
            ∙ ap (λ (l : List ℕ). s.written ++ l) (call_writes s.length s.line r.begun chunk r.holds rest)
            ∙ sym (append_assoc s.written done todo);
      }

  -- as many calls as there are bytes are enough
  pub reads_calls : (k : ℕ) (chunk rest : List ℕ) (s : Stream) → length chunk ≤ k → Reads input s (chunk ++ rest)
      → Reads input (after_calls k chunk s) rest
  reads_calls zero [] rest s h r = r
  reads_calls zero (b ∷ bs) rest s h r = absurd (omega arith)
  reads_calls (suc k) chunk rest s h r =
      reads_calls k (drop (taken_of chunk) chunk) rest (after_call chunk s) (left_over k chunk h) (reads_call s chunk rest r)

  pub reads_chunks : (chunks : List (List ℕ)) (s : Stream) → Reads input s (joined chunks) → Reads input (after_chunks chunks s) []
  reads_chunks [] s r = r
  reads_chunks (chunk ∷ chunks) s r =
      reads_chunks chunks (after_calls (length chunk) chunk s) (reads_calls (length chunk) chunk (joined chunks) s (le_refl (length chunk)) r)

  pub reads_end : (s : Stream) → Reads input s [] → s.written ++ last_written s.length s.line ≡ output input
  reads_end s r = ap (λ (l : List ℕ). s.written ++ l) (begun_last s.length s.line r.begun r.holds) ∙ sym r.tells

-- ---- the statements

pub any_cuts : (line : List ℕ) (chunks : List (List ℕ)) → length line ≡ most_digits → written line chunks ≡ output (joined chunks)
any_cuts line chunks e =
    let s = started line in
    reads_end (joined chunks) (after_chunks chunks s) (reads_chunks (joined chunks) chunks s (reads_start (joined chunks) line e))

pub cuts_do_not_matter : (line line' : List ℕ) (chunks chunks' : List (List ℕ)) → length line ≡ most_digits → length line' ≡ most_digits
    → joined chunks ≡ joined chunks' → written line chunks ≡ written line' chunks'
cuts_do_not_matter line line' chunks chunks' e e' q = any_cuts line chunks e ∙ ap output q ∙ sym (any_cuts line' chunks' e')

pub no_bytes : (line : List ℕ) → written line [] ≡ []
no_bytes line = refl

pub line_by_line : (xs ys : List ℕ) → output (xs ++ line_feed ∷ ys) ≡ output (xs ++ line_feed ∷ []) ++ output ys
line_by_line xs ys = answers_then [] xs ys
