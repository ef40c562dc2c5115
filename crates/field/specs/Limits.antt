-- How far the library goes (01, "What the library covers"): the one place that says so. Assumes nothing.
use Rattle.std.specs.Prelude.{ℕ, suc, ◌^◌}

abbrev pub smallest_degree : ℕ
smallest_degree = 2

abbrev pub largest_degree : ℕ
largest_degree = 16

-- a field polynomial is not below this number,
abbrev pub polynomial_floor : ℕ
polynomial_floor = 2 ^ smallest_degree

-- and below this one
abbrev pub polynomial_ceiling : ℕ
polynomial_ceiling = 2 ^ suc largest_degree
