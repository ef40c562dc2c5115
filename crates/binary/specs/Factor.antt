-- The degree of a polynomial, and the test for a proper factor. Assumes nothing.
use Rattle.std.specs.Prelude.{ℕ, suc, ◌-◌, ◌/◌, ◌^◌, ◌<◌, ◌≤◌, Bool, not, ◌≢◌, nat_lt}
use Rattle.algebra.specs.Search.{first, every_below}
use Rattle.binary.specs.Xor.{Degree}
use Rattle.binary.specs.Remainder.{remainder, divides}
use Rattle.binary.specs.Product.{word_degree}

-- "its degree m is its highest bit": the first k with a < 2^(k + 1)
unfoldable pub degree_of : ℕ → ℕ
degree_of a = first (λ k. nat_lt a (2 ^ suc k)) a

-- "no polynomial of degree 1 to m/2 divides it": none of 2, 3, .., below 2^(m/2 + 1)
unfoldable pub factor_free : ℕ → ℕ → Bool
factor_free m p = every_below (λ i. not (divides (suc (suc i)) p)) (2 ^ suc (m / 2) - 2)

-- what the code asks of a division of a by d: a of degree m, room in a word, and d of degree at least 1 and no larger than a
pub record Division (m a d : ℕ) : Type 0 where
  pub degree : Degree m a
  pub fits : m ≤ word_degree
  pub two : 2 ≤ d
  pub most : d ≤ a

-- what the test shows of p
pub record Irreducible (m p : ℕ) : Type 0 where
  pub degree : Degree m p
  pub prime : (d : ℕ) → 2 ≤ d → d < 2 ^ suc (m / 2) → remainder p d ≢ 0
