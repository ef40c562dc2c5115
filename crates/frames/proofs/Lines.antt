-- The lines of an input. A chunk with a line feed ends the line that has begun (`lines_ended`), and one without goes on with it (`lines_open`,
-- `all_before`); a call leaves less of a chunk (`left_over`); the answers of an input are those up to any of its line feeds, and then those of
-- what follows (`answers_then`). Assumes nothing.
use mathlib.Core.Path.{◌≡◌, refl, sym, ap, subst, ◌∙◌}
use mathlib.Core.Logic.{◌≢◌}
use mathlib.Core.Bool.{true, false}
use mathlib.Core.List.{List, [], ◌∷◌, ◌++◌, append_assoc, append-nil}
use Prim.Native.Nat.{ℕ, suc, ◌+◌, ◌≤◌, ◌<◌}
use native.Mathlib.Decide.{ℕ_discrete}
use native.Mathlib.Omega.{arith}
use borrow.Author.Tests.{eq-eqb, ne_eqb, ltb-true, ltb-false}
use lib.ListN.{length, drop, length-drop}
use lib.Seq.{append_snoc}
use Rattle.frames.specs.Stream.{line_feed, lines_after, answer_line, answers_of, output, before_feed, ends, taken_of}
use Rattle.frames.proofs.Feeds.{feed_here, feed_not_here}
use Rattle.frames.proofs.OneCall.{taken_some}

-- ---- one byte

lines_here : (cur : List ℕ) (b : ℕ) (bs : List ℕ) → b ≡ line_feed → lines_after cur (b ∷ bs) ≡ cur ∷ lines_after [] bs
lines_here cur b bs e = rw (lines_after, eq-eqb b line_feed e) refl

lines_not_here : (cur : List ℕ) (b : ℕ) (bs : List ℕ) → b ≢ line_feed → lines_after cur (b ∷ bs) ≡ lines_after (cur ++ b ∷ []) bs
lines_not_here cur b bs e = rw (lines_after, ne_eqb b line_feed e) refl

-- ---- the bytes before the first line feed

-- they are bytes of the line that has begun
lines_before : (cur chunk more : List ℕ) → lines_after cur (before_feed chunk ++ more) ≡ lines_after (cur ++ before_feed chunk) more
lines_before cur [] more = ap (λ (l : List ℕ). lines_after l more) (sym (append-nil cur))
lines_before cur (b ∷ bs) more = go (ℕ_discrete b line_feed) (lines_before (cur ++ b ∷ []) bs more)
  where
    go : Dec (b ≡ line_feed) → lines_after (cur ++ b ∷ []) (before_feed bs ++ more) ≡ lines_after (cur ++ b ∷ [] ++ before_feed bs) more
        → lines_after cur (before_feed (b ∷ bs) ++ more) ≡ lines_after (cur ++ before_feed (b ∷ bs)) more
    go (yes e) h = rw (feed_here b bs e) (ap (λ (l : List ℕ). lines_after l more) (sym (append-nil cur)))
    go (no e) h =
        rw (feed_not_here b bs e)
        (lines_not_here cur b (before_feed bs ++ more) e ∙ h ∙ ap (λ (l : List ℕ). lines_after l more) (append_snoc cur b (before_feed bs)))

-- a chunk with a line feed: the bytes before it, the line feed, and the rest
abbrev Cut : List ℕ → Type 0
Cut chunk = chunk ≡ before_feed chunk ++ line_feed ∷ drop (length (before_feed chunk) + 1) chunk

cut_feed : (chunk : List ℕ) → length (before_feed chunk) < length chunk → Cut chunk
cut_feed [] h = absurd (omega arith)
cut_feed (b ∷ bs) h = go (ℕ_discrete b line_feed) (cut_feed bs)
  where
    go : Dec (b ≡ line_feed) → (length (before_feed bs) < length bs → Cut bs) → Cut (b ∷ bs)
    go (yes e) r = rw (feed_here b bs e) (ap (λ (c : ℕ). c ∷ bs) e)
    go (no e) r =
        let long = ap length (feed_not_here b bs e) in
        let next : suc (length (before_feed bs)) + 1 ≡ suc (length (before_feed bs) + 1) = omega arith in
        rw (feed_not_here b bs e, next) (ap (λ (l : List ℕ). b ∷ l) (r (omega (arith, long))))

-- a chunk with none: all of it
cut_none : (chunk : List ℕ) → length chunk ≤ length (before_feed chunk) → before_feed chunk ≡ chunk
cut_none [] h = refl
cut_none (b ∷ bs) h = go (ℕ_discrete b line_feed) (cut_none bs)
  where
    go : Dec (b ≡ line_feed) → (length bs ≤ length (before_feed bs) → before_feed bs ≡ bs) → before_feed (b ∷ bs) ≡ b ∷ bs
    go (yes e) r = absurd (omega (arith, ap length (feed_here b bs e)))
    go (no e) r = feed_not_here b bs e ∙ ap (λ (l : List ℕ). b ∷ l) (r (omega (arith, ap length (feed_not_here b bs e))))

-- ---- a chunk

-- it ends the line that has begun
pub lines_ended : (cur chunk rest : List ℕ) → ends chunk ≡ true
    → lines_after cur (chunk ++ rest) ≡ (cur ++ before_feed chunk) ∷ lines_after [] (drop (length (before_feed chunk) + 1) chunk ++ rest)
lines_ended cur chunk rest e =
    let left = drop (length (before_feed chunk) + 1) chunk in
    ap (λ (l : List ℕ). lines_after cur (l ++ rest)) (cut_feed chunk (ltb-true (length (before_feed chunk)) (length chunk) e))
    ∙ ap (lines_after cur) (append_assoc (before_feed chunk) (line_feed ∷ left) rest)
    ∙ lines_before cur chunk (line_feed ∷ (left ++ rest))

-- all of it is of that line
pub all_before : (chunk : List ℕ) → ends chunk ≡ false → before_feed chunk ≡ chunk
all_before chunk e = cut_none chunk (ltb-false (length (before_feed chunk)) (length chunk) e)

pub lines_open : (cur chunk rest : List ℕ) → ends chunk ≡ false → lines_after cur (chunk ++ rest) ≡ lines_after (cur ++ chunk) rest
lines_open cur chunk rest e =
    subst (λ (l : List ℕ). lines_after cur (l ++ rest) ≡ lines_after (cur ++ l) rest) (all_before chunk e) (lines_before cur chunk rest)

-- one call takes a byte at the least, where there is one
pub left_over : (k : ℕ) (chunk : List ℕ) → length chunk ≤ suc k → length (drop (taken_of chunk) chunk) ≤ k
left_over k [] h = omega arith
left_over k (b ∷ bs) h = omega (arith, length-drop (taken_of (b ∷ bs)) (b ∷ bs), taken_some (b ∷ bs) (omega arith))

-- ---- line by line

pub answers_then : (cur xs ys : List ℕ)
    → answers_of (lines_after cur (xs ++ line_feed ∷ ys)) ≡ answers_of (lines_after cur (xs ++ line_feed ∷ [])) ++ output ys
answers_then cur [] ys = ap (λ (l : List ℕ). l ++ output ys) (sym (append-nil (answer_line cur)))
answers_then cur (x ∷ xs) ys = go (ℕ_discrete x line_feed) (answers_then [] xs ys) (answers_then (cur ++ x ∷ []) xs ys)
  where
    Both : List ℕ → List ℕ → Type 0
    Both l zs = answers_of (lines_after l (zs ++ line_feed ∷ ys)) ≡ answers_of (lines_after l (zs ++ line_feed ∷ [])) ++ output ys

    go : Dec (x ≡ line_feed) → Both [] xs → Both (cur ++ x ∷ []) xs → Both cur (x ∷ xs)
    go (yes e) h g =
        rw (lines_here cur x (xs ++ line_feed ∷ ys) e, lines_here cur x (xs ++ line_feed ∷ []) e)
        (ap (λ (l : List ℕ). answer_line cur ++ l) h ∙ sym (append_assoc (answer_line cur) (answers_of (lines_after [] (xs ++ line_feed ∷ []))) (output ys)))
    go (no e) h g = rw (lines_not_here cur x (xs ++ line_feed ∷ ys) e, lines_not_here cur x (xs ++ line_feed ∷ []) e) g
