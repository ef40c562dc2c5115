-- The answer's text, written into a list of the call's own and copied from there (`text_copied`). Assumes nothing.
use mathlib.Core.Path.{◌≡◌, refl, sym, ap, ap₂, ◌∙◌}
use mathlib.Core.List.{List, ◌++◌}
use Prim.Native.Nat.{ℕ, ◌+◌, ◌≤◌}
use native.Mathlib.Omega.{arith}
use lib.ListN.{length, take, drop}
use lib.Seq.{sets, sets-eq, length-sets, length-take-le, take_at, take_all}

module _ (n : ℕ) (text out₀ out : List ℕ) (k : n ≡ length text) (e : out ≡ sets out₀ 0 text) (w : n ≤ length out) where
  room : 0 + length text ≤ length out₀
  room = let l = length-sets out₀ 0 text in let q = ap length e in omega arith

  written : take n out ≡ text
  written =
      ap₂ (λ (i : ℕ) (l : List ℕ). take i l) k (e ∙ sets-eq text out₀ 0 room)
      ∙ take_at text (drop (0 + length text) out₀) (length text) refl

  pub text_copied : (list₀ list : List ℕ) → list ≡ take (length (take n out)) (take n out) ++ drop (length (take n out)) list₀
      → list ≡ text ++ drop (length text) list₀
  text_copied list₀ list h =
      h ∙ ap (λ (l : List ℕ). take (length l) l ++ drop (length l) list₀) written
      ∙ ap (λ (l : List ℕ). l ++ drop (length text) list₀) (take_all (length text) text (omega arith))

  -- what a copy over the first n entries of a list leaves there
  pub front_copied : (list₀ front : List ℕ) → front ≡ take n out
      → front ++ drop n list₀ ≡ take (length (take n out)) (take n out) ++ drop (length (take n out)) list₀
  front_copied list₀ front h =
      ap₂ (λ (l : List ℕ) (i : ℕ). l ++ drop i list₀) (h ∙ sym (take_all (length (take n out)) (take n out) (omega arith)))
      (sym (length-take-le n out w))
