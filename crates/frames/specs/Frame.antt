-- What a frame line says, and when it is malformed. A line is the list of its bytes as they were read, so its characters.
-- Assumes nothing.
use Rattle.std.specs.Prelude.{◌≡◌, Bool, true, false, not, ◌||◌, ◌&&◌, List, [], ◌∷◌, map, ℕ, ◌+◌, ◌-◌, ◌*◌, ◌/◌, ◌%◌, ◌≤◌, eqb, leb, ltb, length, get_or}
use Rattle.algebra.specs.Lists.{count_up}
use Rattle.algebra.specs.Search.{some_below}
use Rattle.field.specs.Refusal.{Test, ◌⇒◌}
use Rattle.frames.specs.Limits.{most_digits}

-- from the character a up to z
abbrev pub between : ℕ → ℕ → ℕ → Bool
between a z c = leb a c && leb c z

-- "hexadecimal, either letter case": 0 to 9, A to F, a to f; 16 for "another character"
unfoldable pub digit_value : ℕ → ℕ
digit_value c =
    elim (between 48 57 c) [
      | true ↦ c - 48
      | false ↦ elim (between 65 70 c) [ true ↦ c - 55 | false ↦ elim (between 97 102 c) [ true ↦ c - 87 | false ↦ 16 ] ]
    ]

-- byte number i of the line: two digits
unfoldable pub byte_at : List ℕ → ℕ → ℕ
byte_at l i = digit_value (get_or l (2 * i) 0) * 16 + digit_value (get_or l (2 * i + 1) 0)

-- "bytes: kind"
abbrev pub kind_of : List ℕ → ℕ
kind_of l = byte_at l 0

-- "field polynomial, 3 bytes, high byte first"
abbrev pub polynomial_of : List ℕ → ℕ
polynomial_of l = byte_at l 1 * 65536 + byte_at l 2 * 256 + byte_at l 3

-- "coefficient count"
abbrev pub count_of : List ℕ → ℕ
count_of l = byte_at l 4

-- "then that many coefficients of 2 bytes, high first"
abbrev pub coefficient_at : List ℕ → ℕ → ℕ
coefficient_at l i = byte_at l (5 + 2 * i) * 256 + byte_at l (6 + 2 * i)

unfoldable pub coefficients_of : List ℕ → List ℕ
coefficients_of l = map (coefficient_at l) (count_up 0 (count_of l))

-- "another character"
unfoldable pub another_character : List ℕ → Bool
another_character l = some_below (λ i. eqb (digit_value (get_or l i 0)) 16) (length l)

-- "kind (01 degree up to 4, 02 affine)"
unfoldable pub another_kind : List ℕ → Bool
another_kind l = not (eqb (kind_of l) 1 || eqb (kind_of l) 2)

-- "a length that disagrees with the count"
unfoldable pub disagrees : List ℕ → Bool
disagrees l = not (eqb (length l / 2) (5 + 2 * count_of l))

-- "odd digits, fewer than 5 bytes, another character, another kind, a length that disagrees with the count, an empty line or more than
-- 1,030 digits: malformed"
abbrev pub line_tests : List ℕ → List Test
line_tests l =
    eqb (length l % 2) 1 ⇒ 8
    ∷ ltb (length l / 2) 5 ⇒ 8
    ∷ another_character l ⇒ 8
    ∷ another_kind l ⇒ 8
    ∷ disagrees l ⇒ 8
    ∷ eqb (length l) 0 ⇒ 8
    ∷ ltb most_digits (length l) ⇒ 8
    ∷ []

-- a line that is not too long, and as long as its count says
pub record WellFormed (l : List ℕ) : Type 0 where
  pub short : length l ≤ most_digits
  pub agrees : length l ≡ 10 + 4 * count_of l
