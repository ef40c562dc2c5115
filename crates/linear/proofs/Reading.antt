-- What is read off the rows, as the code's loops read it: a step of each sum, and the search for a row that says 0 = 1. Assumes nothing.
use mathlib.Core.Path.{◌≡◌, refl, sym, ap₂, ◌∙◌}
use mathlib.Core.Bool.{Bool, true, false, true≢false}
use mathlib.Core.List.{List, [], ◌∷◌}
use Prim.Native.Nat.{ℕ, zero, suc, ◌+◌, ◌*◌, ◌^◌, ◌<◌}
use native.Mathlib.Numerals.{add-one}
use native.Mathlib.Omega.{arith}
use lib.Bits.{bit_or, bit_xor}
use lib.ListN.{length, get_or}
use Rattle.std.specs.List.{list_any, zip}
use Rattle.algebra.specs.Search.{some_below}
use Rattle.algebra.proofs.Search.{some_one, some_none}
use Rattle.binary.specs.Bit.{bit}
use Rattle.binary.proofs.Xor.{is_xor}
use Rattle.linear.specs.Elimination.{State, row, mark, candidate}
use Rattle.linear.specs.Reading.{column, pivot_columns, broken, free_direction}

pub column_more : (s : State) (f i sum v : ℕ) → sum ≡ column s f i → v ≡ bit f (row s i) * 2 ^ mark s i → bit_xor sum v ≡ column s f (i + 1)
unfolding column
column_more s f i sum v e d = ap₂ bit_xor e d ∙ sym (is_xor (column s f i) (bit f (row s i) * 2 ^ mark s i)) ∙ sym (rw add-one)

pub pivot_columns_more : (s : State) (i sum v : ℕ) → sum ≡ pivot_columns s i → v ≡ 2 ^ mark s i → bit_or sum v ≡ pivot_columns s (i + 1)
unfolding pivot_columns
pivot_columns_more s i sum v e d = ap₂ bit_or e d ∙ sym (rw add-one)

pub free_direction_is : (n : ℕ) (s : State) (t a v : ℕ) → length s.rows ≡ n → a ≡ 2 ^ t → v ≡ column s t n → bit_xor a v ≡ free_direction s t
unfolding free_direction
free_direction_is n s t a v long e d = ap₂ bit_xor e d ∙ sym (is_xor (2 ^ t) (column s t n)) ∙ sym (rw long)

-- ---- some row of two lists, one for each row

module _ (test : ℕ × ℕ → Bool) where
  some_pair : (xs ys : List ℕ) → list_any test (zip xs ys) ≡ true → (i : ℕ) × (i < length xs) × (test (get_or xs i 0, get_or ys i 0) ≡ true)
  some_pair [] ys e = absurd (true≢false (sym e))
  some_pair (x ∷ xs) [] e = absurd (true≢false (sym e))
  some_pair (x ∷ xs) (y ∷ ys) e = go (test (x, y)) refl (some_pair xs ys)
    where
      go : (b : Bool) → test (x, y) ≡ b → (list_any test (zip xs ys) ≡ true → (i : ℕ) × (i < length xs) × (test (get_or xs i 0, get_or ys i 0) ≡ true))
          → (i : ℕ) × (i < suc (length xs)) × (test (get_or (x ∷ xs) i 0, get_or (y ∷ ys) i 0) ≡ true)
      go true q ih = (0, omega arith, q)
      go false q ih = let r = ih (rw q at e) in (suc r.0, omega (arith, r.1), r.2)

  no_pair : (xs ys : List ℕ) → length ys ≡ length xs → list_any test (zip xs ys) ≡ false → (i : ℕ) → i < length xs
      → test (get_or xs i 0, get_or ys i 0) ≡ false
  no_pair [] ys l e i h = absurd (omega arith)
  no_pair (x ∷ xs) [] l e i h = absurd (omega arith)
  no_pair (x ∷ xs) (y ∷ ys) l e i h = go (test (x, y)) refl (no_pair xs ys (omega arith)) i h
    where
      go : (b : Bool) → test (x, y) ≡ b
          → (list_any test (zip xs ys) ≡ false → (i : ℕ) → i < length xs → test (get_or xs i 0, get_or ys i 0) ≡ false)
          → (i : ℕ) → i < suc (length xs) → test (get_or (x ∷ xs) i 0, get_or (y ∷ ys) i 0) ≡ false
      go true q ih i h = absurd (true≢false (rw q at e))
      go false q ih zero h = q
      go false q ih (suc i) h = ih (rw q at e) i (omega arith)

  any_below : (xs ys : List ℕ) → length ys ≡ length xs
      → list_any test (zip xs ys) ≡ some_below (λ i. test (get_or xs i 0, get_or ys i 0)) (length xs)
  any_below xs ys l = go (list_any test (zip xs ys)) refl
    where
      go : (b : Bool) → list_any test (zip xs ys) ≡ b → b ≡ some_below (λ i. test (get_or xs i 0, get_or ys i 0)) (length xs)
      go true e = let r = some_pair xs ys e in sym (some_one (λ i. test (get_or xs i 0, get_or ys i 0)) (length xs) r.0 r.1 r.2)
      go false e = sym (some_none (λ i. test (get_or xs i 0, get_or ys i 0)) (length xs) (no_pair xs ys l e))

-- a row that says 0 = 1, with its mark
pub any_broken : (m : ℕ) (s : State) → length s.marks ≡ length s.rows
    → list_any (λ (p : ℕ × ℕ). candidate m m p.1 p.0) (zip s.rows s.marks) ≡ broken m s
unfolding broken
any_broken m s l = any_below (λ (p : ℕ × ℕ). candidate m m p.1 p.0) s.rows s.marks l
