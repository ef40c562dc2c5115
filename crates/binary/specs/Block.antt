-- Divisions in words of 32 digits, by a block of divisors at once: one turn (`raise`, `turn`), and what a block is (`IsBlock`).
-- Assumes nothing.
use Rattle.std.specs.Prelude.{ℕ, ◌+◌, ◌-◌, ◌*◌, ◌/◌, ◌%◌, ◌^◌, ◌≡◌, ◌<◌, ◌≤◌, List, slice_index}
use Rattle.binary.specs.Xor.{◌⊕◌, Degree}
use Rattle.binary.specs.Product.{word_degree}

-- how many divisors are tried at once
abbrev pub block : ℕ
block = 8

-- a divisor of degree k, its top digit in the word's top place
abbrev pub raise : ℕ → ℕ → ℕ
raise k d = (d * 2 ^ (31 - k)) % 2 ^ 32

-- a raised divisor is taken off where the rest's top digit is 1, and the rest moves up
unfoldable pub turn : ℕ → ℕ → ℕ
turn divisor rest = ((rest ⊕ rest / 2 ^ 31 * divisor) * 2) % 2 ^ 32

-- divisors from `first` on, a multiple of 8: they differ in their last three digits only
pub record IsBlock (first : ℕ) (divisors : List ℕ) : Type 0 where
  pub low : block ≤ first
  pub whole : first % block ≡ 0
  pub are : (i : ℕ) → i < block → slice_index divisors i ≡ first + i

-- what the code asks of divisions of a by a block: a of degree m, room in a word, and divisors of one degree k, so that all take as many turns
pub record Divisions (m k a : ℕ) (divisors : List ℕ) : Type 0 where
  pub degree : Degree m a
  pub fits : m ≤ word_degree
  pub most : k ≤ m
  pub alike : (i : ℕ) → i < block → Degree k (slice_index divisors i)
