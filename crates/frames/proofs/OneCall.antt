-- What one call does: the line goes on (`goes_on`) or ends (`line_ends`), or the input ends, in a line (`input_ends`) or after one
-- (`no_line`). Assumes nothing.
use mathlib.Core.Path.{◌≡◌, refl, sym, ap, ap₂, ◌∙◌}
use mathlib.Core.Logic.{◌≢◌}
use mathlib.Core.Bool.{Bool, true, false}
use mathlib.Core.List.{List, [], ◌∷◌, ◌++◌}
use Prim.Native.Nat.{ℕ, zero, suc, ◌+◌, ◌≤◌, ◌<◌}
use native.Mathlib.Omega.{arith}
use borrow.Author.Tests.{ltb-true, lt-ltb, le-ltb}
use lib.ListN.{length, take}
use lib.Seq.{sets}
use Rattle.frames.specs.Limits.{most_digits, answer_room}
use Rattle.frames.specs.Text.{text, Counts}
use Rattle.frames.specs.Answer.{answer_bytes, answer_text}
use Rattle.frames.specs.Stream.{line_feed, answer_line, held, before_feed, ends, taken_of, lengthened, length_after, kept_after, line_after, written_of, last_written}
use Rattle.frames.proofs.Fitting.{line_short}
use Rattle.frames.proofs.Feeds.{feed_front, feed_within}
use Rattle.frames.proofs.Held.{held_kept}

same_line : (l k : List ℕ) → answer_bytes l ≡ answer_bytes k → answer_line l ≡ answer_line k
unfolding answer_text answer_line
same_line l k e = ap (λ (bs : List ℕ). text bs ++ line_feed ∷ []) e

-- ---- what the definitions say in each of the two cases

module _ (n : ℕ) (line chunk : List ℕ) where
  pub taken_all : ends chunk ≡ false → taken_of chunk ≡ length chunk
  taken_all e = rw (taken_of, e) refl

  pub taken_line : ends chunk ≡ true → taken_of chunk ≡ length (before_feed chunk) + 1
  taken_line e = rw (taken_of, e) refl

  pub length_on : ends chunk ≡ false → length_after n chunk ≡ lengthened n (length chunk)
  length_on e = rw (length_after, e) refl

  pub length_new : ends chunk ≡ true → length_after n chunk ≡ 0
  length_new e = rw (length_after, e) refl

  pub written_none : ends chunk ≡ false → written_of n line chunk ≡ []
  written_none e = rw (written_of, e) refl

  pub written_line : ends chunk ≡ true → written_of n line chunk ≡ answer_line (held n line ++ before_feed chunk)
  written_line e = rw (written_of, e) refl

-- a call takes no more than there is, and something where there is something
taken_bounds : (chunk : List ℕ) → (taken_of chunk ≤ length chunk) × (0 < length chunk → 0 < taken_of chunk)
taken_bounds chunk = go (ends chunk) refl
  where
    go : (t : Bool) → ends chunk ≡ t → (taken_of chunk ≤ length chunk) × (0 < length chunk → 0 < taken_of chunk)
    go true e =
        let n = taken_line 0 [] chunk e in
        let l = ltb-true (length (before_feed chunk)) (length chunk) e in
        (omega (arith, n, l), λ h. omega (arith, n))
    go false e = let n = taken_all 0 [] chunk e in (omega (arith, n), λ h. omega (arith, n, h))

pub taken_within : (chunk : List ℕ) → taken_of chunk ≤ length chunk
taken_within chunk = (taken_bounds chunk).0

pub taken_some : (chunk : List ℕ) → 0 < length chunk → 0 < taken_of chunk
taken_some chunk = (taken_bounds chunk).1

last_some : (n : ℕ) (line : List ℕ) → n ≢ 0 → answer_line (held n line) ≡ last_written n line
last_some zero line h = absurd (h refl)
last_some (suc n) line h = refl

-- ---- what the code does in each

module _ (n : ℕ) (line chunk out : List ℕ) (end length-now : ℕ) {line-now : List ℕ} (e : end ≡ length (before_feed chunk))
    (k : length-now ≡ lengthened n (length (take end chunk))) (q : line-now ≡ kept_after n line (take end chunk))
  where
    front : take end chunk ≡ before_feed chunk
    front = ap (λ (d : ℕ). take d chunk) e ∙ feed_front chunk

    kept_is : line-now ≡ line_after n line chunk
    kept_is = q ∙ ap (kept_after n line) front

    length_is : length-now ≡ lengthened n (length (before_feed chunk))
    length_is = k ∙ ap (λ (l : List ℕ). lengthened n (length l)) front

    abbrev Done : ℕ → ℕ → ℕ → List ℕ → Type 0
    Done taken longer r now =
        (taken ≡ taken_of chunk)
        × ((longer ≡ length_after n chunk)
        × ((r ≡ length (written_of n line chunk))
        × ((line-now ≡ line_after n line chunk)
        × ((now ≡ sets out 0 (written_of n line chunk)) × (((taken ≤ length chunk) × (r ≤ answer_room)) × Counts r now)))))

    pub goes_on : end ≡ length chunk → Done end length-now 0 out
    goes_on h =
        let none : ends chunk ≡ false = le-ltb (length (before_feed chunk)) (length chunk) (omega (arith, e, h)) in
        let w = written_none n line chunk none in
        let taken = h ∙ sym (taken_all n line chunk none) in
        let longer = length_is ∙ ap (λ (d : ℕ). lengthened n d) (sym e ∙ h) ∙ sym (length_on n line chunk none) in
        (taken, (longer, (ap length (sym w), (kept_is, (ap (sets out 0) (sym w), ((omega (arith, h), omega arith), (omega arith, refl)))))))

    module _ (long : length line ≡ most_digits) where
      answer : answer_line (held length-now line-now) ≡ answer_line (held n line ++ before_feed chunk)
      answer =
          ap₂ (λ (d : ℕ) (l : List ℕ). answer_line (held d l)) length_is kept_is
          ∙ same_line (held (lengthened n (length (before_feed chunk))) (line_after n line chunk)) (held n line ++ before_feed chunk) (held_kept n line (before_feed chunk) long)

      pub line_ends : (r : ℕ) {now : List ℕ} → end ≢ length chunk → r ≡ length (answer_line (held length-now line-now))
          → now ≡ sets out 0 (answer_line (held length-now line-now)) → Counts r now → Done (end + 1) 0 r now
      line_ends r h f g c =
          let within = feed_within chunk in
          let one : ends chunk ≡ true = lt-ltb (length (before_feed chunk)) (length chunk) (omega (arith, within, e, h)) in
          let w = answer ∙ sym (written_line n line chunk one) in
          let taken = ap (λ (d : ℕ). d + 1) e ∙ sym (taken_line n line chunk one) in
          let short = line_short (held length-now line-now) in
          (taken, (sym (length_new n line chunk one), (f ∙ ap length w, (kept_is, (g ∙ ap (sets out 0) w, ((omega (arith, within, e, h), omega (arith, f, short)), c))))))

module _ (n : ℕ) (line out : List ℕ) where
  abbrev Last : ℕ → List ℕ → Type 0
  Last r now = (r ≡ length (last_written n line)) × ((now ≡ sets out 0 (last_written n line)) × ((r ≤ answer_room) × Counts r now))

  pub no_line : n ≡ 0 → Last 0 out
  no_line e =
      let none : last_written n line ≡ [] = ap (λ (k : ℕ). last_written k line) e in
      (ap length (sym none), (ap (sets out 0) (sym none), (omega arith, (omega arith, refl))))

  pub input_ends : (r : ℕ) {now : List ℕ} → n ≢ 0 → r ≡ length (answer_line (held n line)) → now ≡ sets out 0 (answer_line (held n line)) → Counts r now → Last r now
  input_ends r h e f c =
      let some = last_some n line h in
      (e ∙ ap length some, (f ∙ ap (sets out 0) some, (omega (arith, e, line_short (held n line)), c)))
