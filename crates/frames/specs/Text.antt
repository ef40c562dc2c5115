-- Bytes as hexadecimal in capitals, and text stored into a lent list. Assumes nothing.
use Rattle.std.specs.Prelude.{◌≡◌, true, false, List, [], ◌∷◌, ◌++◌, ℕ, zero, suc, ◌+◌, ◌*◌, ◌/◌, ◌%◌, ◌≤◌, ltb, length, take}
use Rattle.std.proofs.lemmas.List.Edits.{sets}

-- "capitals": the character of a digit, 0 to 9 and then A to F
unfoldable pub capital : ℕ → ℕ
capital d = elim (ltb d 10) [ true ↦ 48 + d | false ↦ 55 + d ]

-- a byte, high digit first
abbrev pub digits : ℕ → List ℕ
digits v = capital (v / 16 % 16) ∷ capital (v % 16) ∷ []

abbrev pub text : List ℕ → List ℕ
text [] = []
text (v ∷ vs) = digits v ++ text vs

-- an element in "2 bytes", high first
abbrev pub element_bytes : ℕ → List ℕ
element_bytes x = x / 256 ∷ x % 256 ∷ []

-- f 0, then f 1, up to f (k - 1)
abbrev pub up_to : (ℕ → List ℕ) → ℕ → List ℕ
up_to f zero = []
up_to f (suc k) = up_to f k ++ f k

-- n counts characters at the front of a list. The second part follows from the first; both stand here so that a caller who lends `&out[..n]`
-- has nothing to prove.
abbrev pub Counts : ℕ → List ℕ → Type 0
Counts n out = (n ≤ length out) × (n ≡ length (take n out))

-- the lent list with the text of these bytes from byte number j on
unfoldable pub put_bytes : List ℕ → ℕ → List ℕ → List ℕ
put_bytes out j bs = sets out (2 * j) (text bs)
