-- Arithmetic modulo a polynomial p: "product is the product over GF(2), reduced by the field polynomial". Assumes nothing.
use Rattle.std.specs.Prelude.{ℕ, ◌*◌, ◌≤◌}
use Rattle.binary.specs.Xor.{Degree}
use Rattle.binary.specs.Times.{times}
use Rattle.binary.specs.Remainder.{remainder}

unfoldable pub product : ℕ → ℕ → ℕ → ℕ
product p a b = remainder (times a b) p

-- the product with the polynomial x, which is the number 2
unfoldable pub times_x : ℕ → ℕ → ℕ
times_x p a = remainder (a * 2) p

-- the highest degree for which a double still fits the machine's 32 bits
abbrev pub word_degree : ℕ
word_degree = 30

-- what the code asks of a polynomial: its degree m, from 2 on, and room in a word
pub record Modulus (m p : ℕ) : Type 0 where
  pub degree : Degree m p
  pub two : 2 ≤ m
  pub fits : m ≤ word_degree
