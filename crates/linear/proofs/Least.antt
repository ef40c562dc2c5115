-- D3 and half of D4, once every column is done: there is a solution exactly where no row says 0 = 1; the base is the smallest solution, and
-- a free column's direction the smallest kernel element with that highest bit. Assumes nothing.
use mathlib.Core.Path.{◌≡◌, refl, sym, ap, ◌∙◌, subst}
use mathlib.Core.Logic.{◌≢◌}
use mathlib.Core.List.{List}
use Prim.Native.Nat.{ℕ, zero, suc, ◌^◌, ◌≤◌, ◌<◌}
use native.Mathlib.Omega.{arith}
use native.Mathlib.Decide.{ℕ_discrete}
use lib.ListN.{get_or}
use lib.Pow.{pow-lt}
use Rattle.binary.specs.Xor.{◌⊕◌, Degree}
use Rattle.binary.specs.Bit.{bit}
use Rattle.binary.proofs.Xor.{zero_xor, xor_twice, ac, equal_of_xor, xor_lt, keep-top, same-top, has_degree, exp_lt}
use Rattle.binary.proofs.Bit.{bit-xor, bit_pow_other, degree_pow, lt_xor}
use Rattle.linear.specs.System.{dot, Kernel, Solves}
use Rattle.linear.specs.Elimination.{State, row, mark}
use Rattle.linear.specs.Reading.{column}
use Rattle.linear.proofs.Dot.{dot-xor, dot_pow}
use Rattle.linear.proofs.Kernel.{solves_iff}
use Rattle.linear.proofs.Pivots.{Pivots}
use Rattle.linear.proofs.Project.{term, fill, project, Free, project_kernel, fill_below, fill_free, kernel_top, unused_dot}

pub kernel_xor : (l : List ℕ) (a b : ℕ) → Kernel l a → Kernel l b → Kernel l (a ⊕ b)
kernel_xor l a b p q i = dot-xor (get_or l i 0) a b ∙ rw (p i, q i) (zero_xor 0)

column_fill : (s : State) (f n : ℕ) → fill s (2 ^ f) n ≡ column s f n
unfolding fill column term
column_fill s f zero = refl
column_fill s f (suc n) = rw (column_fill s f n, dot_pow f (row s n))

-- column f's own bit, and the pivot columns that go with it
abbrev pub along : State → ℕ → ℕ → ℕ
along s n f = 2 ^ f ⊕ column s f n

along_is : (n : ℕ) (s : State) (f : ℕ) → along s n f ≡ project n s (2 ^ f)
unfolding project
along_is n s f = ap (λ (x : ℕ). 2 ^ f ⊕ x) (sym (column_fill s f n))

base_is : (m n : ℕ) (s : State) → 2 ^ m ⊕ column s m n ≡ project n s (2 ^ m)
unfolding project
base_is m n s = ap (λ (x : ℕ). 2 ^ m ⊕ x) (sym (column_fill s m n))

-- no unused row holds the right-hand bit
abbrev pub Consistent : ℕ → ℕ → State → Type 0
Consistent m n s = (i : ℕ) → i < n → mark s i ≡ m → bit m (row s i) ≡ 0

module _ (m n : ℕ) (s : State) (c : Pivots m n m s) where
  -- ---- solutions

  module _ (ok : Consistent m n s) where
    fits : (i : ℕ) → i < n → mark s i ≡ m → dot (row s i) (2 ^ m) ≡ 0
    fits i l e = dot_pow m (row s i) ∙ ok i l e

    pub base_lt : column s m n < 2 ^ m
    base_lt = rw (← column_fill s m n) (fill_below m n s c m (2 ^ m) (omega arith) (degree_pow m).1 fits)

    pub base_solves : Solves m s.rows (column s m n)
    base_solves = (solves_iff m s.rows (column s m n)).1 (base_lt, rw base_is (project_kernel m n s c (2 ^ m) fits))

  pub solves_consistent : (v : ℕ) → Solves m s.rows v → Consistent m n s
  solves_consistent v h i l e = sym (h.1 i) ∙ unused_dot m n s c i v l e h.0

  base_free : (t : ℕ) → Free n s t → bit t (column s m n) ≡ 0
  base_free t f = rw (← column_fill s m n) (fill_free m n s c t (2 ^ m) f)

  -- ---- directions

  pub direction_kernel : (f : ℕ) → f < m → Kernel s.rows (along s n f)
  direction_kernel f h =
      rw along_is (project_kernel m n s c (2 ^ f) (λ i l e. unused_dot m n s c i (2 ^ f) l e (pow-lt h)))

  pub direction_degree : (f : ℕ) → f < m → Free n s f → Degree f (along s n f)
  direction_degree f h free =
      let b = rw column_fill at (fill_below m n s c f (2 ^ f) (omega arith) (degree_pow f).1 (λ i l e. absurd (free i l e))) in
      (keep-top f (2 ^ f) (column s f n) (omega arith) b, xor_lt (suc f) (degree_pow f).1 (omega (arith, degree_pow f)))

  direction_free : (f t : ℕ) → t ≢ f → Free n s t → bit t (along s n f) ≡ 0
  direction_free f t h free =
      bit-xor t (2 ^ f) (column s f n)
      ∙ rw (bit_pow_other t f h, rw column_fill at (fill_free m n s c t (2 ^ f) free)) (zero_xor 0)

  -- ---- the smallest

  -- two numbers that differ by a kernel element: the one whose free bits are clear is the smaller
  least : (u a x : ℕ) → u ≤ m → Kernel s.rows (a ⊕ x) → a ⊕ x < 2 ^ u → ((t : ℕ) → t < u → Free n s t → bit t a ≡ 0) → a ≤ x
  least u a x lu k small clear = pick (ℕ_discrete (a ⊕ x) 0)
    where
      pick : Dec (a ⊕ x ≡ 0) → a ≤ x
      pick (yes e) = omega (arith, equal_of_xor a x e)
      pick (no h) =
          let d = has_degree (a ⊕ x) h in
          let l = exp_lt d.0 u (a ⊕ x) d.1.0 small in
          let z = clear d.0 l (kernel_top m n s c d.0 (a ⊕ x) (omega arith) k d.1) in
          omega (arith, lt_xor d.0 a (a ⊕ x) d.1 z, xor_twice a x)

  difference : (v w : ℕ) → Solves m s.rows v → Solves m s.rows w → Kernel s.rows (v ⊕ w)
  difference v w p q =
      subst (Kernel s.rows) (simp ac)
      (kernel_xor s.rows (2 ^ m ⊕ v) (2 ^ m ⊕ w) ((solves_iff m s.rows v).0 p).1 ((solves_iff m s.rows w).0 q).1)

  pub base_least : (v : ℕ) → Solves m s.rows v → column s m n ≤ v
  base_least v h =
      let ok = solves_consistent v h in
      least m (column s m n) v (omega arith) (difference (column s m n) v (base_solves ok) h) (xor_lt m (base_lt ok) h.0)
      (λ t l f. base_free t f)

  pub direction_least : (f x : ℕ) → f < m → Kernel s.rows x → Degree f x → along s n f ≤ x
  direction_least f x l k d =
      let free = kernel_top m n s c f x l k d in
      least f (along s n f) x (omega arith) (kernel_xor s.rows (along s n f) x (direction_kernel f l) k)
      (same-top f (along s n f) x (direction_degree f l free) d)
      (λ t q g. direction_free f t (omega arith) g)
