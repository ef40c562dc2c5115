-- The elimination as the code makes it, column by column: rows and marks so far are the definition's. Assumes nothing.
use mathlib.Core.Path.{◌≡◌, refl, sym, ap, ◌∙◌}
use mathlib.Core.List.{List}
use Prim.Native.Nat.{ℕ, ◌+◌, ◌≤◌, ◌<◌}
use native.Mathlib.Omega.{arith}
use borrow.Author.Tests.{lt-ltb, le-ltb}
use lib.ListN.{length, get_or, set, replicate, length-set, length-replicate}
use mathlib.Core.Bool.{Bool}
use Rattle.algebra.specs.Search.{first}
use Rattle.algebra.specs.Loop.{loop}
use Rattle.algebra.proofs.Loop.{loop_more}
use Rattle.linear.specs.Elimination.{State, candidate, pivot, clear, use_row, step_at, step, start, eliminate}
use Rattle.linear.proofs.Clear.{clear-length}

abbrev reduced : List ℕ → List ℕ → State
reduced a marks = record { rows = a; marks = marks }

-- the test of a pivot row, on the code's two arrays
abbrev pub may_pivot : ℕ → ℕ → List ℕ → List ℕ → ℕ → Bool
may_pivot m k a marks i = candidate m k (get_or marks i 0) (get_or a i 0)

pub record Columns (m : ℕ) (l a marks : List ℕ) (k : ℕ) : Type 0 where
  pub within : k ≤ m
  pub rows_long : length a ≡ length l
  pub marks_long : length marks ≡ length l
  pub state : reduced a marks ≡ loop (step m) k (start m l)

pub columns_start : (m n : ℕ) (l : List ℕ) → length l ≡ n → Columns m l l (replicate n m) 0
unfolding loop start
columns_start m n l e =
    record {
      within = omega arith;
      rows_long = refl;
      marks_long = length-replicate n m ∙ sym e;
      state = ap (λ (x : ℕ). reduced l (replicate x m)) (sym e);
    }

module _ (m n : ℕ) (l a marks : List ℕ) (k p : ℕ) (long : length l ≡ n) (lk : k < m) (e : p ≡ first (may_pivot m k a marks) n)
    (c : Columns m l a marks k) where
  pivot_is : pivot m k (reduced a marks) ≡ p
  unfolding pivot
  pivot_is = ap (first (may_pivot m k a marks)) (c.rows_long ∙ long) ∙ sym e

  next : step m k (reduced a marks) ≡ loop (step m) (k + 1) (start m l)
  next = ap (step m k) c.state ∙ loop_more (step m) k (start m l)

  pub columns_some : p < n → (b : List ℕ) → b ≡ clear k p a → Columns m l b (set marks p k) (k + 1)
  unfolding step step_at use_row
  columns_some h b f =
      record {
        within = omega arith;
        rows_long = ap length f ∙ clear-length k p a ∙ c.rows_long;
        marks_long = length-set marks p k ∙ c.marks_long;
        state = ap (λ (x : List ℕ). reduced x (set marks p k)) f
            ∙ sym (rw (pivot_is, lt-ltb p (length a) (omega (arith, c.rows_long, long))) refl) ∙ next;
      }

  pub columns_none : n ≤ p → Columns m l a marks (k + 1)
  unfolding step step_at
  columns_none h =
      record {
        within = omega arith;
        rows_long = c.rows_long;
        marks_long = c.marks_long;
        state = sym (rw (pivot_is, le-ltb p (length a) (omega (arith, c.rows_long, long))) refl) ∙ next;
      }

pub columns_end : (m : ℕ) (l a marks : List ℕ) (k : ℕ) → m ≤ k → Columns m l a marks k → reduced a marks ≡ eliminate m l
unfolding eliminate
columns_end m l a marks k h c =
    let e : k ≡ m = omega (arith, c.within) in
    c.state ∙ ap (λ (x : ℕ). loop (step m) x (start m l)) e
