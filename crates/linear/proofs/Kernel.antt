-- D1: the numbers that every row sends to 0 are the same before and after the elimination (`same_kernel`), and so the solutions
-- (`same_solutions`). Assumes nothing.
use mathlib.Core.Path.{◌≡◌, refl, sym, ap, ◌∙◌, subst}
use mathlib.Core.Logic.{◌↔◌}
use mathlib.Core.Bool.{Bool, true, false}
use mathlib.Core.List.{List}
use Prim.Native.Nat.{ℕ, ◌*◌, ◌^◌, ◌<◌}
use native.Mathlib.Nat.{mul-zero, zero-mul}
use lib.ListN.{length, get_or}
use lib.Dec.{T, ltb, ltb→lt}
use Rattle.algebra.proofs.Loop.{loop_keeps}
use Rattle.binary.specs.Xor.{◌⊕◌}
use Rattle.binary.specs.Bit.{bit}
use Rattle.binary.proofs.Xor.{xor-zero, xor_self, equal_of_xor}
use Rattle.linear.specs.System.{dot, Kernel, Solves}
use Rattle.linear.specs.Elimination.{State, clear, use_row, pivot, step_at, step, start, eliminate}
use Rattle.linear.proofs.Dot.{dot-xor, xor-dot, dot_pow, digit-dot}
use Rattle.linear.proofs.Clear.{wants, wants_lt, wants_self, clear-row}

module _ (k p : ℕ) (l : List ℕ) (lp : p < length l) where
  dot-after : (w j : ℕ) → dot (get_or l p 0) w ≡ 0 → dot (get_or (clear k p l) j 0) w ≡ dot (get_or l j 0) w
  dot-after w j z =
      ap (λ (x : ℕ). dot x w) (clear-row k p l lp j) ∙ xor-dot (get_or l j 0) (wants k p l j * get_or l p 0) w
      ∙ rw (digit-dot (get_or l p 0) (wants k p l j) w (wants_lt k p l j), z, mul-zero) (xor-zero _)

  pub clear_kernel : (w : ℕ) → Kernel l w ↔ Kernel (clear k p l) w
  clear_kernel w = (there, back)
    where
      there : Kernel l w → Kernel (clear k p l) w
      there h j = dot-after w j (h p) ∙ h j

      -- the pivot row is as it was
      pivot-row : Kernel (clear k p l) w → dot (get_or l p 0) w ≡ 0
      pivot-row h =
          subst (λ (x : ℕ). dot x w ≡ 0) (clear-row k p l lp p ∙ rw (wants_self k p l, zero-mul) (xor-zero (get_or l p 0))) (h p)

      back : Kernel (clear k p l) w → Kernel l w
      back h j = sym (dot-after w j (pivot-row h)) ∙ h j

-- after some columns every row still sends the same numbers to 0
abbrev Same : List ℕ → State → Type 0
Same l s = (w : ℕ) → Kernel l w ↔ Kernel s.rows w

same_at : (k p : ℕ) (l : List ℕ) (s : State) (b : Bool) → ltb p (length s.rows) ≡ b → Same l s → Same l (step_at k p s b)
unfolding step_at use_row
same_at k p l s false e c = c
same_at k p l s true e c =
    let q = clear_kernel k p s.rows (ltb→lt p (length s.rows) (subst T (sym e) tt)) in
    λ w. (λ h. (q w).0 ((c w).0 h), λ h. (c w).1 ((q w).1 h))

pub same_kernel : (m : ℕ) (l : List ℕ) (w : ℕ) → Kernel l w ↔ Kernel (eliminate m l).rows w
unfolding eliminate start step
same_kernel m l =
    loop_keeps (step m) (λ k s. Same l s) m (start m l) (λ w. (λ h. h, λ h. h))
    (λ k h s c. same_at k (pivot m k s) l s (ltb (pivot m k s) (length s.rows)) refl c)

-- a solution is a number whose sum with 2 ^ m every row sends to 0
pub solves_iff : (m : ℕ) (l : List ℕ) (v : ℕ) → Solves m l v ↔ (v < 2 ^ m) × Kernel l (2 ^ m ⊕ v)
solves_iff m l v = (
  λ h. (h.0, λ i. sum i ∙ ap (λ (x : ℕ). bit m (get_or l i 0) ⊕ x) (h.1 i) ∙ xor_self _),
  λ h. (h.0, λ i. sym (equal_of_xor _ _ (sym (sum i) ∙ h.1 i))),
)
  where
    sum : (i : ℕ) → dot (get_or l i 0) (2 ^ m ⊕ v) ≡ bit m (get_or l i 0) ⊕ dot (get_or l i 0) v
    sum i = dot-xor (get_or l i 0) (2 ^ m) v ∙ rw (dot_pow m (get_or l i 0))

-- D1: the elimination keeps the solutions
pub same_solutions : (m : ℕ) (l : List ℕ) (v : ℕ) → Solves m l v ↔ Solves m (eliminate m l).rows v
same_solutions m l v =
    let e = same_kernel m l (2 ^ m ⊕ v) in
    let a = solves_iff m l v in
    let b = solves_iff m (eliminate m l).rows v in
    (λ h. b.1 (h.0, e.0 (a.0 h).1), λ h. a.1 (h.0, e.1 (b.0 h).1))
