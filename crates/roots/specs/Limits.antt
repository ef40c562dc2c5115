-- How far an equation goes (01, "Equations of degree up to 4"). Assumes nothing.
use Rattle.std.specs.Prelude.{ℕ}

-- "one to five coefficients"
abbrev pub most_coefficients : ℕ
most_coefficients = 5

-- "four places for roots and four for multiplicities"
abbrev pub most_roots : ℕ
most_roots = 4
