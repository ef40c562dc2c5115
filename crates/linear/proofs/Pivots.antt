-- D2, what the elimination keeps, column by column: a pivot column has its bit in its pivot row alone, a pivot row has no bit below its
-- pivot column, an unused row has no bit in a finished column. Assumes nothing.
use mathlib.Core.Path.{◌≡◌, refl, sym, ap, ◌∙◌, subst}
use mathlib.Core.Logic.{◌≢◌}
use mathlib.Core.Bool.{Bool, true, false, ◌&&◌}
use mathlib.Core.List.{List}
use Prim.Native.Nat.{ℕ, suc, ◌*◌, ◌≤◌, ◌<◌}
use native.Mathlib.Nat.{mul-zero, zero-mul, mul-one}
use native.Mathlib.Omega.{arith}
use native.Mathlib.Decide.{ℕ_discrete, dec_lt}
use lib.ListN.{length, get_or, replicate, length-set, length-replicate, get_or-replicate}
use lib.Seq.{get_or-set_same, get_or-set_other}
use lib.Dec.{T, ltb, ltb→lt, lt→ltb, eqb, eqb→eq, eqb_refl}
use Rattle.algebra.proofs.Search.{First, first_below}
use Rattle.algebra.proofs.Loop.{loop_keeps}
use Rattle.binary.specs.Xor.{◌⊕◌}
use Rattle.binary.specs.Bit.{bit}
use Rattle.binary.proofs.Xor.{xor-zero, xor_self}
use Rattle.binary.proofs.Bit.{bit_lt, bit-xor, bit-digit}
use Rattle.linear.specs.Elimination.{State, row, mark, candidate, pivot, use_row, step_at, step, start, eliminate}
use Rattle.linear.proofs.Clear.{wants, wants_lt, wants_self, wants_other, clear-length, clear-row}

-- after the columns below k
pub record Pivots (m n k : ℕ) (s : State) : Type 0 where
  pub rows_len : length s.rows ≡ n
  pub marks_len : length s.marks ≡ n
  pub mark_le : (i : ℕ) → i < n → mark s i ≤ m
  pub done : (i : ℕ) → i < n → mark s i < m → mark s i < k
  pub low : (i b : ℕ) → i < n → b < mark s i → b < k → bit b (row s i) ≡ 0
  pub holds : (i : ℕ) → i < n → mark s i < m → bit (mark s i) (row s i) ≡ 1
  pub alone : (i j : ℕ) → i < n → j ≢ i → mark s i < m → bit (mark s i) (row s j) ≡ 0

-- ---- the test for a pivot row

pub candidate_yes : (m k mark row : ℕ) → candidate m k mark row ≡ true → (mark ≡ m) × (bit k row ≡ 1)
unfolding candidate
candidate_yes m k mark row e = go (eqb mark m) (eqb (bit k row) 1) refl refl e
  where
    go : (a b : Bool) → eqb mark m ≡ a → eqb (bit k row) 1 ≡ b → (a && b) ≡ true → (mark ≡ m) × (bit k row ≡ 1)
    go true true p q h = (eqb→eq _ _ (subst T (sym p) tt), eqb→eq _ _ (subst T (sym q) tt))
    go true false p q h = absurd (subst T (sym h) tt)
    go false true p q h = absurd (subst T (sym h) tt)
    go false false p q h = absurd (subst T (sym h) tt)

pub candidate_not : (m k mark row : ℕ) → candidate m k mark row ≡ false → mark ≡ m → bit k row ≡ 0
unfolding candidate
candidate_not m k mark row e h = pick (ℕ_discrete (bit k row) 1)
  where
    both : (m : ℕ) → T (eqb m m && eqb 1 1)
    both m = go (eqb m m) (eqb_refl m)
      where
        go : (a : Bool) → T a → T (a && eqb 1 1)
        go true t = tt
        go false t = t

    pick : Dec (bit k row ≡ 1) → bit k row ≡ 0
    pick (yes o) = absurd (subst T (rw (h, o) at e) (both m))
    pick (no o) = omega (arith, bit_lt k row)

-- ---- a column with no pivot row

module _ (m n k : ℕ) (s : State) (c : Pivots m n k s) (lk : k < m) where
  pub passed : ((i : ℕ) → i < n → mark s i ≡ m → bit k (row s i) ≡ 0) → Pivots m n (suc k) s
  passed h =
      record {
        rows_len = c.rows_len;
        marks_len = c.marks_len;
        mark_le = c.mark_le;
        done = λ i l q. omega (arith, c.done i l q);
        low = λ i b l q r. low_at i b l q (dec_lt b k) r;
        holds = c.holds;
        alone = c.alone;
      }
    where
      low_at : (i b : ℕ) → i < n → b < mark s i → Dec (b < k) → b < suc k → bit b (row s i) ≡ 0
      low_at i b l q (yes y) r = c.low i b l q y
      low_at i b l q (no y) r =
          let e : b ≡ k = omega arith in
          rw e (h i l (unused (dec_lt (mark s i) m)))
        where
          unused : Dec (mark s i < m) → mark s i ≡ m
          unused (yes u) = absurd (omega (arith, c.done i l u))
          unused (no u) = omega (arith, c.mark_le i l)

  -- ---- a column with the pivot row p

  module _ (p : ℕ) (lp : p < n) (free : mark s p ≡ m) (one : bit k (row s p) ≡ 1) where
    after : State
    after = use_row k p s

    row-after : (j : ℕ) → row after j ≡ row s j ⊕ wants k p s.rows j * row s p
    unfolding after use_row
    row-after j = clear-row k p s.rows (omega (arith, c.rows_len)) j

    -- a column below k: the pivot row has no bit there
    bit_kept : (b j : ℕ) → b < k → bit b (row after j) ≡ bit b (row s j)
    bit_kept b j l =
        ap (bit b) (row-after j) ∙ bit-xor b (row s j) (wants k p s.rows j * row s p)
        ∙ rw (bit-digit b (wants k p s.rows j) (row s p) (wants_lt k p s.rows j), c.low p b lp (omega arith) l, mul-zero) (xor-zero _)

    pivot_kept : row after p ≡ row s p
    pivot_kept = row-after p ∙ rw (wants_self k p s.rows, zero-mul) (xor-zero (row s p))

    bit_cleared : (j : ℕ) → j ≢ p → bit k (row after j) ≡ 0
    bit_cleared j h =
        ap (bit k) (row-after j) ∙ bit-xor k (row s j) (wants k p s.rows j * row s p)
        ∙ rw (bit-digit k (wants k p s.rows j) (row s p) (wants_lt k p s.rows j), one, mul-one, wants_other k p s.rows j h) (xor_self _)

    mark-pivot : mark after p ≡ k
    unfolding after use_row
    mark-pivot = get_or-set_same s.marks p k 0 (omega (arith, c.marks_len))

    mark_other : (i : ℕ) → i ≢ p → mark after i ≡ mark s i
    unfolding after use_row
    mark_other i h = get_or-set_other s.marks p i k 0 h

    pub used : Pivots m n (suc k) (use_row k p s)
    unfolding after use_row
    used =
        record {
          rows_len = clear-length k p s.rows ∙ c.rows_len;
          marks_len = length-set s.marks p k ∙ c.marks_len;
          mark_le = λ i l. le_at i l (ℕ_discrete i p);
          done = λ i l q. done_at i l q (ℕ_discrete i p);
          low = λ i b l q r. low_at i b l q (ℕ_discrete i p) (dec_lt b k) r;
          holds = λ i l q. holds_at i l q (ℕ_discrete i p);
          alone = λ i j l h q. alone_at i j l h q (ℕ_discrete i p);
        }
      where
        le_at : (i : ℕ) → i < n → Dec (i ≡ p) → mark after i ≤ m
        le_at i l (yes e) = rw (e, mark-pivot) (omega arith)
        le_at i l (no h) = rw (mark_other i h) (c.mark_le i l)

        done_at : (i : ℕ) → i < n → mark after i < m → Dec (i ≡ p) → mark after i < suc k
        done_at i l q (yes e) = rw (e, mark-pivot) (omega arith)
        done_at i l q (no h) =
            let d = mark_other i h in
            omega (arith, c.done i l (omega arith))

        low_at : (i b : ℕ) → i < n → b < mark after i → Dec (i ≡ p) → Dec (b < k) → b < suc k → bit b (row after i) ≡ 0
        low_at i b l q (yes e) (yes y) r = bit_kept b i y ∙ rw e (c.low p b lp (omega arith) y)
        low_at i b l q (yes e) (no y) r = absurd (omega (arith, subst (λ (x : ℕ). b < mark after x) e q, mark-pivot))
        low_at i b l q (no h) (yes y) r = bit_kept b i y ∙ c.low i b l (omega (arith, mark_other i h)) y
        low_at i b l q (no h) (no y) r = let e : b ≡ k = omega arith in rw e (bit_cleared i h)

        holds_at : (i : ℕ) → i < n → mark after i < m → Dec (i ≡ p) → bit (mark after i) (row after i) ≡ 1
        holds_at i l q (yes e) = rw (e, mark-pivot, pivot_kept) one
        holds_at i l q (no h) =
            let d = mark_other i h in
            rw d (bit_kept (mark s i) i (c.done i l (omega arith)) ∙ c.holds i l (omega arith))

        alone_at : (i j : ℕ) → i < n → j ≢ i → mark after i < m → Dec (i ≡ p) → bit (mark after i) (row after j) ≡ 0
        alone_at i j l h q (yes e) = rw (e, mark-pivot) (bit_cleared j (λ f. h (f ∙ sym e)))
        alone_at i j l h q (no g) =
            let d = mark_other i g in
            rw d (bit_kept (mark s i) j (c.done i l (omega arith)) ∙ c.alone i j l h (omega arith))

-- ---- every column

at : (m n k p : ℕ) (s : State) (b : Bool) → ltb p n ≡ b → First (λ i. candidate m k (mark s i) (row s i)) 0 n p → k < m → Pivots m n k s
    → Pivots m n (suc k) (step_at k p s b)
unfolding step_at
at m n k p s true e f l c =
    let lp : p < n = ltb→lt p n (subst T (sym e) tt) in
    let q = candidate_yes m k (mark s p) (row s p) (f.holds (omega arith)) in
    used m n k s c l p lp q.0 q.1
at m n k p s false e f l c =
    passed m n k s c l
    (λ i h u. candidate_not m k (mark s i) (row s i) (f.before i (omega arith) (omega (arith, not_less (dec_lt p n)))) u)
  where
    not_less : Dec (p < n) → n ≤ p
    not_less (yes y) = absurd (subst T e (lt→ltb p n y))
    not_less (no y) = omega arith

-- all columns, over n rows
pub pivots : (m : ℕ) (l : List ℕ) → Pivots m (length l) m (eliminate m l)
unfolding eliminate start step pivot
pivots m l =
    let n = length l in
    let unused : (i : ℕ) → i < length l → get_or (replicate (length l) m) i 0 ≡ m =
    λ i h. get_or-replicate (length l) i m 0 h in
    loop_keeps (step m) (Pivots m n) m (start m l)
    (record {
      rows_len = refl;
      marks_len = length-replicate (length l) m;
      mark_le = λ i h. omega (arith, unused i h);
      done = λ i h q. absurd (omega (arith, unused i h));
      low = λ i b h q r. absurd (omega arith);
      holds = λ i h q. absurd (omega (arith, unused i h));
      alone = λ i j h q r. absurd (omega (arith, unused i h));
    })
    (λ k h s c.
    let f : First (λ i. candidate m k (mark s i) (row s i)) 0 n (pivot m k s) =
    subst (λ (x : ℕ). First (λ i. candidate m k (mark s i) (row s i)) 0 x (pivot m k s)) c.rows_len
    (first_below (λ i. candidate m k (mark s i) (row s i)) (length s.rows)) in
    subst (λ (x : ℕ). Pivots m n (suc k) (step_at k (pivot m k s) s (ltb (pivot m k s) x))) (sym c.rows_len)
    (at m n k (pivot m k s) s (ltb (pivot m k s) n) refl f h c))
