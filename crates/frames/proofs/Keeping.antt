-- Bytes kept one after the other: `kept_turn`, `kept_all`; or all at once: `set_between`,
-- `kept_between`. Assumes nothing.
use mathlib.Core.Path.{◌≡◌, sym, ap, ap₂, ◌∙◌}
use mathlib.Core.List.{List, [], ◌∷◌, ◌++◌, append_assoc}
use Prim.Native.Nat.{ℕ, suc, ◌+◌, ◌-◌, ◌≤◌, ◌<◌, min}
use native.Mathlib.Decide.{dec_le}
use native.Mathlib.Nat.{min-eq_left, min-eq_right}
use native.Mathlib.Omega.{arith}
use lib.ListN.{length, get_or, set, take, drop}
use lib.Seq.{sets, sets-eq, take-suc, take_all, length-take-le}
use borrow.Rule.Slice.PartMut.{put_mid, Post-is}
use Rattle.frames.specs.Limits.{most_digits}
use Rattle.frames.specs.Stream.{kept_after}
use Rattle.frames.proofs.Writing.{sets_then}

-- all that there are, or all that there is room for
take_min : (k : ℕ) (bytes : List ℕ) → take (min k (length bytes)) bytes ≡ take k bytes
take_min k bytes = go (dec_le k (length bytes))
  where
    go : Dec (k ≤ length bytes) → take (min k (length bytes)) bytes ≡ take k bytes
    go (yes h) = ap (λ (d : ℕ). take d bytes) (min-eq_left h)
    go (no h) =
        let g : length bytes ≤ k = omega arith in
        ap (λ (d : ℕ). take d bytes) (min-eq_right g) ∙ take_all (length bytes) bytes (omega arith) ∙ sym (take_all k bytes g)

-- what stands between two places of a list, stored there
pub set_between : (l ys : List ℕ) (a e : ℕ) → e ≡ a + length ys → e ≤ length l → put_mid a (e - a) l ys ≡ sets l a ys
set_between l ys a e q h =
    ap (λ (t : List ℕ). take a l ++ (ys ++ t)) (Post-is a e l (omega arith))
    ∙ sym (append_assoc (take a l) ys (drop e l))
    ∙ ap (λ (d : ℕ). take a l ++ ys ++ drop d l) q
    ∙ sym (sets-eq ys l a (omega arith))

module _ (line : List ℕ) (n : ℕ) (bytes : List ℕ) where
  -- the next of them
  pub kept_turn : (i : ℕ) {now : List ℕ} → i < length bytes → now ≡ sets line n (take i bytes)
      → set now (n + i) (get_or bytes i 0) ≡ sets line n (take (i + 1) bytes)
  kept_turn i h e =
      let next : suc i ≡ i + 1 = omega arith in
      let long : n + i ≡ n + length (take i bytes) = ap (λ (k : ℕ). n + k) (sym (length-take-le i bytes (omega arith))) in
      ap (λ (l : List ℕ). set l (n + i) (get_or bytes i 0)) e
      ∙ sets_then line (take i bytes) (get_or bytes i 0 ∷ []) n (n + i) long
      ∙ ap (sets line n) (sym (take-suc bytes i 0 h))
      ∙ ap (λ (k : ℕ). sets line n (take k bytes)) next

  -- as many as there is room for
  pub kept_all : (fit i : ℕ) {now : List ℕ} → fit ≡ min (most_digits - n) (length bytes) → fit ≤ i → i ≤ fit → now ≡ sets line n (take i bytes)
      → now ≡ kept_after n line bytes
  unfolding kept_after
  kept_all fit i e g h q =
      let same : i ≡ fit = omega arith in
      q ∙ ap (sets line n) (ap (λ (d : ℕ). take d bytes) (same ∙ e) ∙ take_min (most_digits - n) bytes)

  -- or all at once
  pub kept_between : (from fit : ℕ) {now : List ℕ} → length line ≡ most_digits → from ≡ min n most_digits → fit ≡ min (length bytes) (most_digits - from)
      → now ≡ take fit bytes → put_mid from (from + fit - from) line now ≡ kept_after n line bytes
  unfolding kept_after
  kept_between from fit {now} long e g q =
      let size : length now ≡ fit = ap length q ∙ length-take-le fit bytes (omega arith) in
      set_between line now from (from + fit) (omega arith) (omega arith) ∙ ap (sets line from) q ∙ go (dec_le n most_digits)
    where
      go : Dec (n ≤ most_digits) → sets line from (take fit bytes) ≡ sets line n (take (most_digits - n) bytes)
      go (yes h) =
          let here : from ≡ n = omega arith in
          let fits : fit ≡ min (most_digits - n) (length bytes) = omega arith in
          ap₂ (λ (k : ℕ) (l : List ℕ). sets line k l) here (ap (λ (d : ℕ). take d bytes) fits ∙ take_min (most_digits - n) bytes)
      go (no h) =
          let none : fit ≡ 0 = omega arith in
          let room : most_digits - n ≡ 0 = omega arith in
          ap (λ (d : ℕ). sets line from (take d bytes)) none ∙ ap (λ (d : ℕ). sets line n (take d bytes)) (sym room)
