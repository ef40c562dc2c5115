-- What one column's additions leave: row j gets `wants k p l j` times the pivot row p (`clear-row`). Assumes nothing.
use mathlib.Core.Path.{◌≡◌, sym, ap, ◌∙◌}
use mathlib.Core.Logic.{◌≢◌}
use mathlib.Core.List.{List, map}
use Prim.Native.Nat.{ℕ, ◌+◌, ◌-◌, ◌*◌, ◌≤◌, ◌<◌, min}
use native.Mathlib.Nat.{zero-mul, one-mul}
use native.Mathlib.Omega.{arith}
use native.Mathlib.Decide.{ℕ_discrete}
use lib.ListN.{length, get_or, set, length-set, length-map, get_or-map}
use lib.Seq.{get_or-set_same, get_or-set_other}
use Rattle.algebra.proofs.Filled.{Filled, filled_all}
use Rattle.binary.specs.Xor.{◌⊕◌}
use Rattle.binary.specs.Bit.{bit}
use Rattle.binary.proofs.Xor.{zero_xor, xor-zero, by_digit}
use Rattle.binary.proofs.Bit.{bit_lt, bit-zero}
use Rattle.linear.specs.Elimination.{clear}

-- 0 where two places are the same, 1 where they differ
unfoldable pub apart : ℕ → ℕ → ℕ
apart i p = min 1 ((i - p) + (p - i))

-- 1 where the pivot row p is added to row j in column k
unfoldable pub wants : ℕ → ℕ → List ℕ → ℕ → ℕ
wants k p l j = apart j p * bit k (get_or l j 0)

digits_lt : (d e : ℕ) → d < 2 → e < 2 → d * e < 2
digits_lt d e h l = by_digit (λ (d : ℕ). d * e < 2) (omega arith) (omega arith) d h

pub wants_lt : (k p : ℕ) (l : List ℕ) (j : ℕ) → wants k p l j < 2
unfolding wants apart
wants_lt k p l j = digits_lt (apart j p) (bit k (get_or l j 0)) (omega arith) (bit_lt k (get_or l j 0))

pub wants_self : (k p : ℕ) (l : List ℕ) → wants k p l p ≡ 0
unfolding wants apart
wants_self k p l = let z : apart p p ≡ 0 = omega arith in rw z (zero-mul _)

pub wants_other : (k p : ℕ) (l : List ℕ) (j : ℕ) → j ≢ p → wants k p l j ≡ bit k (get_or l j 0)
unfolding wants apart
wants_other k p l j h = let o : apart j p ≡ 1 = omega arith in rw o (one-mul _)

pub clear-length : (k p : ℕ) (l : List ℕ) → length (clear k p l) ≡ length l
unfolding clear
clear-length k p l =
    let f : ℕ → ℕ = λ row. row ⊕ bit k row * get_or l p 0 in
    length-set (map f l) p (get_or l p 0) ∙ length-map l f

-- a row with the pivot row added, where it holds column k
abbrev pub plus : ℕ → ℕ → ℕ → ℕ
plus k pivot row = row ⊕ bit k row * pivot

-- nothing is added to the row 0, and so to what stands past the end
pub plus_zero : (k pivot : ℕ) → plus k pivot 0 ≡ 0
plus_zero k pivot = zero_xor _ ∙ ap (λ (d : ℕ). d * pivot) (bit-zero k) ∙ zero-mul _

pub plus_at : (k pivot : ℕ) (l : List ℕ) (j : ℕ) → get_or (map (plus k pivot) l) j 0 ≡ plus k pivot (get_or l j 0)
plus_at k pivot l j = ap (get_or (map (plus k pivot) l) j) (sym (plus_zero k pivot)) ∙ get_or-map (plus k pivot) l j 0

-- every row after the column
pub clear-row : (k p : ℕ) (l : List ℕ) → p < length l → (j : ℕ) → get_or (clear k p l) j 0 ≡ get_or l j 0 ⊕ wants k p l j * get_or l p 0
unfolding clear
clear-row k p l lp j = pick (ℕ_discrete j p)
  where
    f : ℕ → ℕ
    f = plus k (get_or l p 0)

    pick : Dec (j ≡ p) → get_or (set (map f l) p (get_or l p 0)) j 0 ≡ get_or l j 0 ⊕ wants k p l j * get_or l p 0
    pick (yes e) =
        rw (e, wants_self k p l, zero-mul, xor-zero) (get_or-set_same (map f l) p (get_or l p 0) 0 (omega (arith, length-map l f)))
    pick (no h) = get_or-set_other (map f l) p j (get_or l p 0) 0 h ∙ plus_at k (get_or l p 0) l j ∙ rw (wants_other k p l j h)

-- what the code's loop over the rows has done at its end
pub clear_end : (k p : ℕ) (old out : List ℕ) (i : ℕ) → length old ≤ i → Filled (λ j. plus k (get_or old p 0) (get_or old j 0)) old out i
    → set out p (get_or old p 0) ≡ clear k p old
unfolding clear
clear_end k p old out i h w =
    ap (λ (l : List ℕ). set l p (get_or old p 0))
    (filled_all _ old out (map (plus k (get_or old p 0)) old) i w h (length-map old (plus k (get_or old p 0))) (λ j l. plus_at k (get_or old p 0) old j))
