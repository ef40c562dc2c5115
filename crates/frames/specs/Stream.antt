-- The lines of an input that comes in chunks, and what is written for them. Assumes nothing.
use Rattle.std.specs.Prelude.{Bool, true, false, List, [], ◌∷◌, ◌++◌, ℕ, zero, suc, ◌+◌, ◌-◌, min, eqb, ltb, length, take, drop}
use Rattle.std.proofs.lemmas.List.Edits.{sets}
use Rattle.algebra.specs.Lists.{padded}
use Rattle.frames.specs.Limits.{most_digits}
use Rattle.frames.specs.Answer.{answer_text}

abbrev pub line_feed : ℕ
line_feed = 10

-- "a last line without line end counts"; after a line feed, or where there are no bytes, there is none
abbrev pub last_line : List ℕ → List (List ℕ)
last_line [] = []
last_line (b ∷ bs) = (b ∷ bs) ∷ []

-- "one line feed ends a line and is no part of it": the lines of what follows, after the bytes of a line so far
abbrev pub lines_after : List ℕ → List ℕ → List (List ℕ)
lines_after line [] = last_line line
lines_after line (b ∷ bs) = elim (eqb b line_feed) [ true ↦ line ∷ lines_after [] bs | false ↦ lines_after (line ++ b ∷ []) bs ]

-- "one line each": an answer and its line feed
unfoldable pub answer_line : List ℕ → List ℕ
answer_line l = answer_text l ++ line_feed ∷ []

abbrev pub answers_of : List (List ℕ) → List ℕ
answers_of [] = []
answers_of (l ∷ ls) = answer_line l ++ answers_of ls

-- what the program writes for all that it reads
abbrev pub output : List ℕ → List ℕ
output input = answers_of (lines_after [] input)

-- What a call knows of a line that has begun: how many bytes it has so far, n, and a list of the first of them. A line of more than 1,030
-- digits is malformed whatever they are, so no more are kept, and n need not go past 1,031: those that are not kept are taken to be 0.
unfoldable pub held : ℕ → List ℕ → List ℕ
held n line = take n (padded n line)

-- the bytes of a chunk up to its first line feed
abbrev pub before_feed : List ℕ → List ℕ
before_feed [] = []
before_feed (b ∷ bs) = elim (eqb b line_feed) [ true ↦ [] | false ↦ b ∷ before_feed bs ]

-- and whether there is one
abbrev pub ends : List ℕ → Bool
ends chunk = ltb (length (before_feed chunk)) (length chunk)

-- how many bytes a call takes: those of one line, with its line feed
abbrev pub taken_of : List ℕ → ℕ
taken_of chunk = elim (ends chunk) [ true ↦ length (before_feed chunk) + 1 | false ↦ length chunk ]

-- so many bytes more
abbrev pub lengthened : ℕ → ℕ → ℕ
lengthened n k = min (n + k) (most_digits + 1)

-- the length of the line that has begun, after a call
abbrev pub length_after : ℕ → List ℕ → ℕ
length_after n chunk = elim (ends chunk) [ true ↦ 0 | false ↦ lengthened n (length chunk) ]

-- the bytes put after the n that are kept, as far as there is room
unfoldable pub kept_after : ℕ → List ℕ → List ℕ → List ℕ
kept_after n line bytes = sets line n (take (most_digits - n) bytes)

-- the list that keeps the line's bytes, after a call
abbrev pub line_after : ℕ → List ℕ → List ℕ → List ℕ
line_after n line chunk = kept_after n line (before_feed chunk)

-- what a call writes: nothing while the line goes on
abbrev pub written_of : ℕ → List ℕ → List ℕ → List ℕ
written_of n line chunk = elim (ends chunk) [ true ↦ answer_line (held n line ++ before_feed chunk) | false ↦ [] ]

-- at the end of the input: the answer to a last line without a line feed
abbrev pub last_written : ℕ → List ℕ → List ℕ
last_written zero line = []
last_written (suc n) line = answer_line (held (suc n) line)

-- What the calls have come to: the line that has begun, and all that has been written.
pub record Stream : Type 0 where
  pub length : ℕ
  pub line : List ℕ
  pub written : List ℕ

-- one call more
abbrev pub after_call : List ℕ → Stream → Stream
after_call chunk s =
    record {
      length = length_after s.length chunk;
      line = line_after s.length s.line chunk;
      written = s.written ++ written_of s.length s.line chunk;
    }

-- so many calls, each with what the one before has left of the chunk
abbrev pub after_calls : ℕ → List ℕ → Stream → Stream
after_calls zero chunk s = s
after_calls (suc k) chunk s = after_calls k (drop (taken_of chunk) chunk) (after_call chunk s)

-- chunk after chunk; a chunk takes no more calls than it has bytes
abbrev pub after_chunks : List (List ℕ) → Stream → Stream
after_chunks [] s = s
after_chunks (chunk ∷ chunks) s = after_chunks chunks (after_calls (length chunk) chunk s)

-- all that is written for an input in chunks, from the start, whatever stands in the list that keeps the line
abbrev pub written : List ℕ → List (List ℕ) → List ℕ
written line chunks =
    let s = after_chunks chunks (record { length = 0; line = line; written = [] }) in
    s.written ++ last_written s.length s.line

abbrev pub joined : List (List ℕ) → List ℕ
joined [] = []
joined (chunk ∷ chunks) = chunk ++ joined chunks
