-- Document 01's example of frame lines ("Frame lines"): its input and its whole output, byte for byte. A line stands here as the bytes that
-- its digits say; `text` writes them in capitals, as the document has them. Assumes nothing.
use Rattle.std.specs.Prelude.{List, [], ◌∷◌, ◌++◌, ℕ}
use Rattle.frames.specs.Text.{text}
use Rattle.frames.specs.Stream.{line_feed}

-- lines, each with its line feed
abbrev pub lines_of : List (List ℕ) → List ℕ
lines_of [] = []
lines_of (l ∷ ls) = text l ++ line_feed ∷ lines_of ls

unfoldable pub example_input : List ℕ
example_input =
    lines_of
    ((1 ∷ 0 ∷ 0 ∷ 19 ∷ 3 ∷ 0 ∷ 14 ∷ 0 ∷ 8 ∷ 0 ∷ 1 ∷ [])
    ∷ (2 ∷ 0 ∷ 0 ∷ 37 ∷ 3 ∷ 0 ∷ 23 ∷ 0 ∷ 1 ∷ 0 ∷ 1 ∷ [])
    ∷ (2 ∷ 0 ∷ 0 ∷ 37 ∷ 3 ∷ 0 ∷ 31 ∷ 0 ∷ 1 ∷ 0 ∷ 1 ∷ [])
    ∷ (1 ∷ 0 ∷ 0 ∷ 21 ∷ 1 ∷ 0 ∷ 1 ∷ [])
    ∷ [])

unfoldable pub example_output : List ℕ
example_output =
    lines_of
    ((1 ∷ 0 ∷ 2 ∷ 0 ∷ 3 ∷ 1 ∷ 0 ∷ 11 ∷ 1 ∷ [])
    ∷ (2 ∷ 0 ∷ 0 ∷ 0 ∷ 0 ∷ 0 ∷ [])
    ∷ (2 ∷ 0 ∷ 1 ∷ 1 ∷ 0 ∷ 24 ∷ 0 ∷ 1 ∷ [])
    ∷ (1 ∷ 2 ∷ [])
    ∷ [])
