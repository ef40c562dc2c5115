-- The elimination gives what the search gives: `solved_none`, `solved_some`. Assumes nothing.
use mathlib.Core.Path.{◌≡◌, refl, sym, ap, ap₂, ◌∙◌, subst}
use mathlib.Core.Logic.{◌↔◌}
use mathlib.Core.Bool.{Bool, true, false, not}
use mathlib.Core.List.{List, []}
use Rattle.std.specs.Prelude.{Some, None}
use Prim.Native.Nat.{ℕ, zero, suc, ◌+◌, ◌^◌, ◌≤◌, ◌<◌}
use native.Mathlib.Omega.{arith}
use native.Mathlib.Decide.{dec_lt}
use borrow.Author.Tests.{eq-eqb}
use lib.Dec.{T, eqb, eqb→eq}
use lib.ListN.{length, get_or, get_or-eq_default}
use Rattle.algebra.specs.Search.{first, every_below}
use Rattle.algebra.proofs.Search.{first_is, some_yes, some_not, some_one, some_none, some_same, first-same, every_below_lem, every_at}
use Rattle.binary.specs.Bit.{bit}
use Rattle.binary.proofs.Bit.{bit-zero}
use Rattle.linear.specs.Limits.{places}
use Rattle.linear.specs.System.{dot, Kernel, Solves}
use Rattle.linear.specs.Elimination.{State, row, mark, candidate, eliminate}
use Rattle.linear.specs.Directions.{in_front, directions_from}
use Rattle.linear.specs.Marks.{MarksFit}
use Rattle.linear.specs.Reading.{column, broken, taken, free_direction, free_directions}
use Rattle.linear.specs.Solution.{some_solutions, solution_if, solution_by, solves_rows, in_kernel}
use Rattle.linear.proofs.Dot.{zero-dot}
use Rattle.linear.proofs.Kernel.{same_kernel, same_solutions}
use Rattle.linear.proofs.Pivots.{Pivots, pivots, candidate_yes, candidate_not}
use Rattle.linear.proofs.Project.{kernel_top}
use Rattle.linear.proofs.Least.{along, Consistent, base_lt, base_solves, solves_consistent, base_least, direction_kernel, direction_degree, direction_least}
use Rattle.linear.proofs.Taken.{taken_yes, taken_not}
use Rattle.linear.proofs.Listed.{Listed, done, skip, keep, listed_unique, listed_same, listed_search, directions_same}

-- ---- the tests say what they should

rows_all : (P : ℕ → Bool) (Q : ℕ → Type 0) (n : ℕ) → ((i : ℕ) → (P i ≡ true) → Q i) → ((i : ℕ) → n ≤ i → Q i) → every_below P n ≡ true → (i : ℕ) → Q i
rows_all P Q n h past e i = go (dec_lt i n)
  where
    go : Dec (i < n) → Q i
    go (yes l) = h i (every_at P n e i l)
    go (no l) = past i (omega arith)

pub kernel_test : (l : List ℕ) (v : ℕ) → (in_kernel l v ≡ true) ↔ Kernel l v
unfolding in_kernel
kernel_test l v = (
  rows_all (λ i. eqb (dot (get_or l i 0) v) 0) (λ i. dot (get_or l i 0) v ≡ 0) (length l) (λ i e. eqb→eq _ _ (subst T (sym e) tt))
      (λ i h. rw (get_or-eq_default l 0 h) (zero-dot v)),
  λ k. every_below_lem (λ i. eqb (dot (get_or l i 0) v) 0) (length l) (λ i h. eq-eqb _ _ (k i)),
)

pub solves_test : (m : ℕ) (l : List ℕ) (v : ℕ) → v < 2 ^ m → (solves_rows m l v ≡ true) ↔ Solves m l v
unfolding solves_rows
solves_test m l v small = (
  λ e. (
    small,
    rows_all (λ i. eqb (dot (get_or l i 0) v) (bit m (get_or l i 0))) (λ i. dot (get_or l i 0) v ≡ bit m (get_or l i 0)) (length l)
        (λ i q. eqb→eq _ _ (subst T (sym q) tt)) (λ i h. rw (get_or-eq_default l 0 h) (zero-dot v ∙ sym (bit-zero m))) e,
  ),
  λ k. every_below_lem (λ i. eqb (dot (get_or l i 0) v) (bit m (get_or l i 0))) (length l) (λ i h. eq-eqb _ _ (k.1 i)),
)

-- the solution turns on what the tests say below 2 ^ m
pub solution-same : (m : ℕ) (g h f k : ℕ → Bool) → ((x : ℕ) → x < 2 ^ m → g x ≡ h x) → ((x : ℕ) → x < 2 ^ m → f x ≡ k x)
    → solution_by m g f ≡ solution_by m h k
unfolding solution_by
solution-same m g h f k a b =
    λ i. solution_if (some_same g h (2 ^ m) a i) (first-same g h (2 ^ m) a i) (directions_same f k m b i)

-- ---- the reduced rows

module _ (m : ℕ) (l : List ℕ) where
  abbrev s : State
  s = eliminate m l

  abbrev n : ℕ
  n = length l

  c : Pivots m n m s
  c = pivots m l

  free_is : (t : ℕ) → along s n t ≡ free_direction s t
  unfolding free_direction
  free_is t = ap (λ (k : ℕ). along s k t) (sym c.rows_len)

  listed_from : (j t : ℕ) → t + j ≡ m → Listed (Kernel l) m t (free_directions s j t)
  unfolding free_directions in_front
  listed_from zero t h = let e : m ≡ t = omega arith in subst (λ (x : ℕ). Listed (Kernel l) m x []) e done
  listed_from (suc j) t h = go (taken s t) refl (listed_from j (suc t) (omega arith))
    where
      ds : List ℕ
      ds = free_directions s j (suc t)

      go : (b : Bool) → taken s t ≡ b → Listed (Kernel l) m (suc t) ds → Listed (Kernel l) m t (in_front (not b) (free_direction s t) ds)
      go true e r =
          skip (λ x k d. let i = taken_yes n s c.rows_len t e in
          kernel_top m n s c t x (omega arith) ((same_kernel m l x).0 k) d i.0 i.1 i.2) r
      go false e r =
          rw (← free_is t)
          (keep
          (record {
            inside = (same_kernel m l _).1 (direction_kernel m n s c t (omega arith));
            degree = direction_degree m n s c t (omega arith) (taken_not n s c.rows_len t e);
            least = λ x k d. direction_least m n s c t x (omega arith) ((same_kernel m l x).0 k) d;
          })
          r)

  -- the directions read off are those of the search
  directions_are : free_directions s m 0 ≡ directions_from (in_kernel l) m 0
  directions_are =
      listed_unique (listed_same (λ x h. ((kernel_test l x).1, (kernel_test l x).0)) (listed_from m 0 (omega arith))) (listed_search (in_kernel l) m)

  there : (v : ℕ) → v < 2 ^ m → solves_rows m l v ≡ true → Solves m s.rows v
  there v h e = (same_solutions m l v).0 ((solves_test m l v h).0 e)

  no_solution : broken m s ≡ true → (v : ℕ) → v < 2 ^ m → solves_rows m l v ≡ false
  unfolding broken
  no_solution e v h = go (solves_rows m l v) refl
    where
      go : (b : Bool) → solves_rows m l v ≡ b → solves_rows m l v ≡ false
      go false q = q
      go true q =
          let r = some_yes (λ i. candidate m m (mark s i) (row s i)) (length s.rows) e in
          let k = candidate_yes m m (mark s r.0) (row s r.0) r.2 in
          absurd (omega (arith, k.1, solves_consistent m n s c v (there v h q) r.0 (omega (arith, r.1, c.rows_len)) k.0))

  pub solved_none : broken m s ≡ true → None ≡ solution_by m (solves_rows m l) (in_kernel l)
  unfolding solution_by solution_if
  solved_none e = sym (rw (some_none (solves_rows m l) (2 ^ m) (no_solution e)))

  consistent : broken m s ≡ false → Consistent m n s
  unfolding broken
  consistent e i h u =
      candidate_not m m (mark s i) (row s i)
      (some_not (λ i. candidate m m (mark s i) (row s i)) (length s.rows) e i (omega (arith, c.rows_len))) u

  module _ (e : broken m s ≡ false) where
    base_passes : solves_rows m l (column s m n) ≡ true
    base_passes =
        (solves_test m l (column s m n) (base_lt m n s c (consistent e))).1
        ((same_solutions m l (column s m n)).1 (base_solves m n s c (consistent e)))

    below_base : (j : ℕ) → j < column s m n → solves_rows m l j ≡ false
    below_base j h = go (solves_rows m l j) refl
      where
        go : (b : Bool) → solves_rows m l j ≡ b → solves_rows m l j ≡ false
        go false q = q
        go true q = absurd (omega (arith, base_least m n s c j (there j (omega (arith, base_lt m n s c (consistent e))) q)))

    base_is : column s m n ≡ first (solves_rows m l) (2 ^ m)
    base_is = sym (first_is (solves_rows m l) (2 ^ m) (column s m n) (base_lt m n s c (consistent e)) base_passes below_base)

    pub solved_some : Some (some_solutions (column s m n) (free_directions s m 0)) ≡ solution_by m (solves_rows m l) (in_kernel l)
    unfolding solution_by solution_if
    solved_some =
        ap₂ (λ (b : ℕ) (ds : List ℕ). Some (some_solutions b ds)) base_is directions_are
        ∙ sym (rw (some_one (solves_rows m l) (2 ^ m) (column s m n) (base_lt m n s c (consistent e)) base_passes))

  -- what the code asks of the reduced rows
  pub marks_fit : m ≤ places → length l ≡ places → MarksFit s.marks
  marks_fit h long i q = omega (arith, c.mark_le i (omega (arith, long)))
