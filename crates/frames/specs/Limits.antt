-- How long lines and answers get. Assumes nothing.
use Rattle.std.specs.Prelude.{ℕ}

-- "more than 1,030 digits: malformed"
abbrev pub most_digits : ℕ
most_digits = 1030

-- the most coefficients that one byte can count
abbrev pub most_counted : ℕ
most_counted = 255

-- the longest answer, of kind 02 with sixteen directions: two digits for each of 6 + 2·16 bytes, and its line feed
abbrev pub answer_room : ℕ
answer_room = 77

-- its bytes, without their text
abbrev pub most_bytes : ℕ
most_bytes = 38
