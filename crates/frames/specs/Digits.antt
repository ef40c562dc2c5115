-- Which characters of a line are digits, and what they decode to. Assumes nothing.
use Rattle.std.specs.Prelude.{◌≡◌, true, List, ℕ, ◌≤◌, ◌<◌, Option, MatchOption, get_or}
use Rattle.frames.specs.Frame.{digit_value, another_character}

-- the characters from number a up to number b, without b
pub record AreDigits (l : List ℕ) (a b : ℕ) : Type 0 where
  pub each : (j : ℕ) → a ≤ j → j < b → digit_value (get_or l j 0) < 16

-- x is the value v, and what v is decoded from are digits
abbrev pub Decoded : {A : Type 0} → List ℕ → ℕ → ℕ → A → A → Type 0
Decoded l a b v x = (x ≡ v) × AreDigits l a b

-- the value v is decoded from these characters, where all of them are digits
abbrev pub Decodes : {A : Type 0} → List ℕ → ℕ → ℕ → A → Option A → Type 0
Decodes l a b v o = MatchOption o (another_character l ≡ true) (λ x. Decoded l a b v x)
