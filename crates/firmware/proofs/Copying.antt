-- Values put into a list one after the other, from its front: `copied_start`, `copied_turn`, `copied_end`. Assumes nothing.
use mathlib.Core.Path.{◌≡◌, refl, sym, ap, ◌∙◌}
use mathlib.Core.List.{List, ◌++◌}
use Prim.Native.Nat.{ℕ, suc, ◌+◌, ◌≤◌, ◌<◌}
use native.Mathlib.Omega.{arith}
use lib.ListN.{length, get_or, set, take, drop, length-set}
use lib.Seq.{paste, paste-zero, paste-suc, take_all}

pub record Copied (values list₀ list : List ℕ) (i : ℕ) : Type 0 where
  pub within : i ≤ length values
  pub room : length values ≤ length list₀
  pub long : length list ≡ length list₀
  pub are : list ≡ paste list₀ 0 values i

pub copied_start : (values list : List ℕ) → length values ≤ length list → Copied values list list 0
copied_start values list l = record { within = omega arith; room = l; long = refl; are = paste-zero list 0 values }

module _ (values list₀ list : List ℕ) (i : ℕ) (C : Copied values list₀ list i) where
  pub copied_turn : i < length values → Copied values list₀ (set list i (get_or values i 0)) (i + 1)
  copied_turn l =
      let next : suc i ≡ i + 1 = omega arith in
      let place : 0 + i ≡ i = omega arith in
      record {
        within = omega arith;
        room = C.room;
        long = length-set list i (get_or values i 0) ∙ C.long;
        are =
            ap (λ (l : List ℕ). set l i (get_or values i 0)) C.are
            ∙ ap (λ (k : ℕ). set (paste list₀ 0 values i) k (get_or values i 0)) (sym place)
            ∙ paste-suc list₀ 0 values i 0 (let r = C.room in omega arith) l
            ∙ ap (paste list₀ 0 values) next;
      }

  pub copied_end : length values ≤ i → list ≡ values ++ drop (length values) list₀
  copied_end l =
      let w = C.within in
      let all : i ≡ length values = omega arith in
      let front : 0 + length values ≡ length values = omega arith in
      C.are
      ∙ ap (paste list₀ 0 values) all
      ∙ ap (λ (k : ℕ). take (length values) values ++ drop k list₀) front
      ∙ ap (λ (v : List ℕ). v ++ drop (length values) list₀) (take_all (length values) values (omega arith))
