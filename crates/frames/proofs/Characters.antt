-- The value of a character: `decimal`, `upper`, `lower`, `no_digit` for each case, and whether it is one of a row: `inside`, `below`,
-- `above`. Assumes nothing.
use mathlib.Core.Path.{◌≡◌, refl}
use mathlib.Core.Bool.{true, false}
use Prim.Native.Nat.{ℕ, ◌+◌, ◌-◌, ◌≤◌, ◌<◌}
use borrow.Author.Tests.{le-leb, lt-leb, lt-ltb, le-ltb}
use Rattle.frames.specs.Frame.{between, digit_value}
use Rattle.frames.specs.Text.{capital}

pub decimal : (c : ℕ) → between 48 57 c ≡ true → c - 48 ≡ digit_value c
unfolding digit_value
decimal c e = rw (digit_value, e) refl

pub upper : (c : ℕ) → between 48 57 c ≡ false → between 65 70 c ≡ true → c - 55 ≡ digit_value c
unfolding digit_value
upper c e f = rw (digit_value, e, f) refl

pub lower : (c : ℕ) → between 48 57 c ≡ false → between 65 70 c ≡ false → between 97 102 c ≡ true → c - 87 ≡ digit_value c
unfolding digit_value
lower c e f g = rw (digit_value, e, f, g) refl

pub no_digit : (c : ℕ) → between 48 57 c ≡ false → between 65 70 c ≡ false → between 97 102 c ≡ false → 16 ≡ digit_value c
unfolding digit_value
no_digit c e f g = rw (digit_value, e, f, g) refl

pub inside : (a z c : ℕ) → a ≤ c → c ≤ z → between a z c ≡ true
inside a z c h l = rw (le-leb a c h, le-leb c z l) refl

pub below : (a z c : ℕ) → c < a → between a z c ≡ false
below a z c h = rw (lt-leb a c h) refl

pub above : (a z c : ℕ) → a ≤ c → z < c → between a z c ≡ false
above a z c h l = rw (le-leb a c h, lt-leb c z l) refl

pub as_decimal : (d : ℕ) → d < 10 → 48 + d ≡ capital d
unfolding capital
as_decimal d h = rw (capital, lt-ltb d 10 h) refl

pub as_letter : (d : ℕ) → 10 ≤ d → 55 + d ≡ capital d
unfolding capital
as_letter d h = rw (capital, le-ltb d 10 h) refl
