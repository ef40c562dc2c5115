-- Every second digit of a number, by which the square root is found. Assumes nothing.
use Rattle.std.specs.Prelude.{ℕ, zero, suc, ◌+◌, ◌*◌, ◌/◌, ◌%◌}

-- n digits of a, those at the places 0, 2, 4, .., side by side: in a = E² + x·O² they are E, and O are those of a / 2
-- (`squares_of_halves` of proofs/EvenDigits)
unfoldable pub even_digits : ℕ → ℕ → ℕ
even_digits zero a = 0
even_digits (suc n) a = even_digits n (a / 2 / 2) * 2 + a % 2
