-- D5: the elimination of an equation's matrix finds what the search for its roots finds (`matrix_solution`). Assumes nothing.
use mathlib.Core.Path.{◌≡◌, sym, ap, ◌∙◌, subst}
use mathlib.Core.Logic.{◌↔◌}
use mathlib.Core.Bool.{true}
use mathlib.Core.List.{List}
use Prim.Native.Nat.{ℕ, ◌^◌, ◌≤◌, ◌<◌}
use native.Mathlib.Omega.{arith}
use borrow.Author.Tests.{eq-eqb}
use lib.Dec.{T, eqb→eq}
use lib.ListN.{get_or, drop}
use lib.Pow.{pow_mono}
use Rattle.algebra.proofs.Search.{same_test}
use Rattle.binary.proofs.Xor.{xor_self, equal_of_xor}
use Rattle.galois.specs.Field.{Field}
use Rattle.galois.specs.Polynomial.{Coeffs}
use Rattle.galois.proofs.Polynomial.{coeff_at}
use Rattle.galois.specs.Affine.{linear_at, affine_at}
use Rattle.galois.proofs.Affine.{linear_at_lt, linear_at-xor}
use Rattle.linear.specs.Limits.{places}
use Rattle.linear.specs.Solution.{solution_by, solves_rows, in_kernel}
use Rattle.linear.specs.Matrix.{rows_of}
use Rattle.linear.proofs.Solved.{kernel_test, solves_test, solution-same}
use Rattle.linear.proofs.Matrix.{rows_of-same, kernel_of_rows, solves_of_rows}
use Rattle.affine.specs.Columns.{IsColumns}
use Rattle.affine.specs.Equation.{is_root, is_direction}

-- what the two tests say
pub root_test : (p : ℕ) (cs : List ℕ) (x : ℕ) → (is_root p cs x ≡ true) ↔ (affine_at p (get_or cs 0 0) (drop 1 cs) x ≡ 0)
unfolding is_root
root_test p cs x = (λ e. eqb→eq _ _ (subst T (sym e) tt), λ e. eq-eqb _ _ e)

pub direction_test : (p : ℕ) (cs : List ℕ) (x : ℕ) → (is_direction p cs x ≡ true) ↔ (linear_at p (drop 1 cs) x ≡ 0)
unfolding is_direction
direction_test p cs x = (λ e. eqb→eq _ _ (subst T (sym e) tt), λ e. eq-eqb _ _ e)

pub root_iff : (p c : ℕ) (ls : List ℕ) (x : ℕ) → (affine_at p c ls x ≡ 0) ↔ (linear_at p ls x ≡ c)
unfolding affine_at
root_iff p c ls x = (λ e. sym (equal_of_xor c (linear_at p ls x) e), λ e. rw e (xor_self c))

module _ (m p : ℕ) (F : Field m p) (cs : List ℕ) (fits : m ≤ places) (small : Coeffs m cs) where
  abbrev c : ℕ
  c = get_or cs 0 0

  abbrev L : ℕ → ℕ
  L = linear_at p (drop 1 cs)

  wide : 2 ^ m ≤ 2 ^ places
  wide = pow_mono fits

  L_small : (x : ℕ) → L x < 2 ^ places
  L_small x = let w = wide in omega (arith, linear_at_lt m p F (drop 1 cs) x)

  c_small : c < 2 ^ places
  c_small = let w = wide in omega (arith, coeff_at m cs 0 small)

  abbrev rows : List ℕ
  rows = rows_of m (λ j. L (2 ^ j)) c

  solves_root : (v : ℕ) → v < 2 ^ m → solves_rows m rows v ≡ is_root p cs v
  solves_root v h =
      let a = solves_test m rows v h in
      let b = solves_of_rows m L (linear_at-xor m p F (drop 1 cs)) L_small c c_small v h in
      let d = root_test p cs v in
      let e = root_iff p c (drop 1 cs) v in
      same_test _ _ (λ q. d.1 (e.1 (b.0 (a.0 q))), λ q. a.1 (b.1 (e.0 (d.0 q))))

  kernel_direction : (v : ℕ) → v < 2 ^ m → in_kernel rows v ≡ is_direction p cs v
  kernel_direction v h =
      let a = kernel_test rows v in
      let b = kernel_of_rows m L (linear_at-xor m p F (drop 1 cs)) L_small c c_small v h in
      let d = direction_test p cs v in
      same_test _ _ (λ q. d.1 (b.0 (a.0 q)), λ q. a.1 (b.1 (d.0 q)))

  pub matrix_solution : (columns r : List ℕ) → IsColumns m p (drop 1 cs) columns → r ≡ rows_of m (λ j. get_or columns j 0) c
      → solution_by m (solves_rows m r) (in_kernel r) ≡ solution_by m (is_root p cs) (is_direction p cs)
  matrix_solution columns r k e =
      ap (λ (l : List ℕ). solution_by m (solves_rows m l) (in_kernel l)) (e ∙ rows_of-same m (λ j. get_or columns j 0) (λ j. L (2 ^ j)) c k)
      ∙ solution-same m (solves_rows m rows) (is_root p cs) (in_kernel rows) (is_direction p cs) solves_root kernel_direction
