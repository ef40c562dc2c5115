-- The bytes before the first line feed, as a loop finds them: `feed_turn`, `feed_found`, `feed_end`; they stand at the front
-- (`feed_front`, `feed_within`). Assumes nothing.
use mathlib.Core.Path.{◌≡◌, refl, ap, ◌∙◌}
use mathlib.Core.Logic.{◌≢◌}
use mathlib.Core.Bool.{Bool, true, false}
use mathlib.Core.List.{List, [], ◌∷◌}
use Prim.Native.Nat.{ℕ, suc, ◌+◌, ◌≤◌, ◌<◌}
use native.Mathlib.Omega.{arith}
use borrow.Author.Tests.{eq-eqb, ne_eqb}
use lib.Dec.{eqb}
use lib.ListN.{length, get_or, take, drop, drop_of_length-le}
use lib.Seq.{drop-cons}
use Rattle.frames.specs.Stream.{line_feed, before_feed}

pub feed_here : (b : ℕ) (bs : List ℕ) → b ≡ line_feed → before_feed (b ∷ bs) ≡ []
feed_here b bs e = rw (before_feed, eq-eqb b line_feed e) refl

pub feed_not_here : (b : ℕ) (bs : List ℕ) → b ≢ line_feed → before_feed (b ∷ bs) ≡ b ∷ before_feed bs
feed_not_here b bs e = rw (before_feed, ne_eqb b line_feed e) refl

-- how many bytes stand before it
pub feed_counted : (b : ℕ) (bs : List ℕ) → b ≡ line_feed → length (before_feed (b ∷ bs)) ≡ 0
feed_counted b bs e = ap length (feed_here b bs e)

pub feed_missed : (b : ℕ) (bs : List ℕ) → b ≢ line_feed → length (before_feed (b ∷ bs)) ≡ length (before_feed bs) + 1
feed_missed b bs e = ap length (feed_not_here b bs e) ∙ omega arith

-- the first i bytes are none
abbrev pub FeedFrom : List ℕ → ℕ → Type 0
FeedFrom chunk i = length (before_feed chunk) ≡ i + length (before_feed (drop i chunk))

module _ (chunk : List ℕ) (i : ℕ) where
  pub feed_turn : i < length chunk → get_or chunk i 0 ≢ line_feed → FeedFrom chunk i → FeedFrom chunk (i + 1)
  feed_turn h f e =
      let next = ap (λ (bs : List ℕ). length (before_feed bs)) (drop-cons chunk i 0 h) ∙ ap length (feed_not_here (get_or chunk i 0) (drop (suc i) chunk) f) in
      let more : suc i ≡ i + 1 = omega arith in
      let there = ap (λ (k : ℕ). length (before_feed (drop k chunk))) more in
      omega (arith, e, next, there)

  pub feed_found : i < length chunk → get_or chunk i 0 ≡ line_feed → FeedFrom chunk i → i ≡ length (before_feed chunk)
  feed_found h f e =
      let none = ap (λ (bs : List ℕ). length (before_feed bs)) (drop-cons chunk i 0 h) ∙ ap length (feed_here (get_or chunk i 0) (drop (suc i) chunk) f) in
      omega (arith, e, none)

  pub feed_end : length chunk ≤ i → i ≤ length chunk → FeedFrom chunk i → length chunk ≡ length (before_feed chunk)
  feed_end h g e =
      let none = ap (λ (bs : List ℕ). length (before_feed bs)) (drop_of_length-le chunk h) in
      omega (arith, e, none)

pub feed_front : (chunk : List ℕ) → take (length (before_feed chunk)) chunk ≡ before_feed chunk
feed_front [] = refl
feed_front (b ∷ bs) = go (eqb b line_feed) (feed_front bs)
  where
    cut : Bool → List ℕ
    cut t = elim t [ true ↦ [] | false ↦ b ∷ before_feed bs ]

    go : (t : Bool) → take (length (before_feed bs)) bs ≡ before_feed bs → take (length (cut t)) (b ∷ bs) ≡ cut t
    go true h = refl
    go false h = ap (λ (l : List ℕ). b ∷ l) h

pub feed_within : (chunk : List ℕ) → length (before_feed chunk) ≤ length chunk
feed_within [] = omega arith
feed_within (b ∷ bs) = go (eqb b line_feed) (feed_within bs)
  where
    cut : Bool → List ℕ
    cut t = elim t [ true ↦ [] | false ↦ b ∷ before_feed bs ]

    go : (t : Bool) → length (before_feed bs) ≤ length bs → length (cut t) ≤ suc (length bs)
    go true h = omega arith
    go false h = omega arith
