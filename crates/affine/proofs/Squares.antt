-- x² + x = D (C5, C6), as the equation with the coefficients D, 1, 1: no root exactly where the trace of D is 1 (`no_root_exactly`), else
-- two, y and y + 1 (`two_roots`); for odd m paper 004's sum is one of them (`half_trace_is_root`). Assumes nothing.
use mathlib.Core.Path.{◌≡◌, sym, ap, ◌∙◌, subst}
use mathlib.Core.Logic.{◌⊎◌, inl, inr, ◌↔◌}
use mathlib.Core.Bool.{true}
use mathlib.Core.List.{List, [], ◌∷◌}
use Prim.Native.Nat.{ℕ, suc, ◌*◌, ◌/◌, ◌%◌, ◌^◌, ◌<◌}
use native.Mathlib.Nat.{mod-lt}
use native.Mathlib.Omega.{arith}
use Rattle.algebra.specs.Lists.{Member}
use Rattle.algebra.proofs.Ascending.{same_ascending}
use Rattle.binary.specs.Xor.{◌⊕◌}
use Rattle.binary.specs.Factor.{degree_of}
use Rattle.binary.proofs.Xor.{two_pos, by_digit, xor_assoc, digits-xor, digits_of, xor-zero, xor_self}
use Rattle.galois.specs.Field.{Field}
use Rattle.galois.specs.Trace.{trace}
use Rattle.galois.specs.HalfTrace.{half_trace}
use Rattle.galois.specs.Quadratic.{Quadratic}
use Rattle.galois.proofs.Trace.{trace-bit}
use Rattle.galois.proofs.Quadratic.{quadratic_root, quadratic_trace, quadratic_other, quadratic_only}
use Rattle.galois.proofs.QuadraticRoots.{quadratic_affine}
use Rattle.galois.proofs.HalfTrace.{half_trace_root}
use Rattle.field.specs.Accepted.{Accepted}
use Rattle.affine.specs.Equation.{is_root, all_roots}
use Rattle.affine.proofs.Matrix.{root_test}
use Rattle.affine.proofs.Theorems.{roots_exactly, roots_ascending}

-- an even number and the next differ in the lowest digit
even_next : (h : ℕ) → h * 2 ⊕ 1 ≡ suc (h * 2)
even_next h = digits-xor h 1 (omega arith) ∙ omega arith

module _ (p : ℕ) (A : Accepted p) (D : ℕ) (small : D < 2 ^ degree_of p) where
  abbrev m : ℕ
  m = degree_of p

  F : Field m p
  F = A.ready.field

  abbrev square : List ℕ
  square = D ∷ 1 ∷ 1 ∷ []

  -- a member of the list is a root of t² + t = D
  member_root : (t : ℕ) → Member t (all_roots m p square) ↔ Quadratic m p D t
  member_root t = (
    λ h. let e = (roots_exactly p A square t).0 h in (e.0, (quadratic_affine m p F D t e.0).0 e.1),
    λ q. (roots_exactly p A square t).1 (q.0, (quadratic_affine m p F D t q.0).1 q.1),
  )

  pub no_root_exactly : (all_roots m p square ≡ []) ↔ (trace m p D ≡ 1)
  no_root_exactly = (there, back)
    where
      there : all_roots m p square ≡ [] → trace m p D ≡ 1
      there e = go (trace-bit m p F D small)
        where
          go : (trace m p D ≡ 0) ⊎ (trace m p D ≡ 1) → trace m p D ≡ 1
          go (inl z) = let r = quadratic_root m p F D small z in absurd (subst (Member r.0) e ((member_root r.0).1 r.1))
          go (inr o) = o

      back : trace m p D ≡ 1 → all_roots m p square ≡ []
      back o =
          same_ascending (all_roots m p square) [] (roots_ascending p A square) tt
          (λ t h. let z = quadratic_trace m p F D t ((member_root t).0 h) in omega arith) (λ t h. absurd h)

  -- the even one of the two, and the next
  pair : (y : ℕ) → Quadratic m p D y → y ⊕ 1 ≡ suc y → all_roots m p square ≡ y ∷ suc y ∷ []
  pair y q e =
      same_ascending (all_roots m p square) (y ∷ suc y ∷ []) (roots_ascending p A square) (above, (λ x h. absurd h, tt)) there back
    where
      above : (x : ℕ) → Member x (suc y ∷ []) → y < x
      above x (inl k) = omega arith
      above x (inr k) = absurd k

      there : (t : ℕ) → Member t (all_roots m p square) → Member t (y ∷ suc y ∷ [])
      there t h = go (quadratic_only m p F D y t q ((member_root t).0 h))
        where
          go : (t ≡ y) ⊎ (t ≡ y ⊕ 1) → Member t (y ∷ suc y ∷ [])
          go (inl k) = inl k
          go (inr k) = inr (inl (k ∙ e))

      back : (t : ℕ) → Member t (y ∷ suc y ∷ []) → Member t (all_roots m p square)
      back t (inl k) = (member_root t).1 (subst (Quadratic m p D) (sym k) q)
      back t (inr (inl k)) = (member_root t).1 (subst (Quadratic m p D) (sym (k ∙ sym e)) (quadratic_other m p F D y q))
      back t (inr (inr k)) = absurd k

  pub two_roots : trace m p D ≡ 0 → (y : ℕ) × (y ⊕ 1 ≡ suc y) × (all_roots m p square ≡ y ∷ suc y ∷ [])
  two_roots z =
      let r = quadratic_root m p F D small z in
      let h = r.0 / 2 in
      (h * 2, even_next h, pair (h * 2) (even r.0 r.1) (even_next h))
    where
      -- of t and t + 1 one is even
      even : (t : ℕ) → Quadratic m p D t → Quadratic m p D (t / 2 * 2)
      even t q =
          by_digit (λ (d : ℕ). t / 2 * 2 ⊕ d ≡ t → Quadratic m p D (t / 2 * 2)) (λ e. subst (Quadratic m p D) (sym e ∙ xor-zero (t / 2 * 2)) q)
          (λ e. subst (Quadratic m p D)
          (ap (λ (x : ℕ). x ⊕ 1) (sym e) ∙ xor_assoc (t / 2 * 2) 1 1 ∙ ap (λ (x : ℕ). t / 2 * 2 ⊕ x) (xor_self 1) ∙ xor-zero (t / 2 * 2))
          (quadratic_other m p F D t q)) (t % 2) (mod-lt t two_pos) (digits_of t)

  -- m odd, and n = (m + 1) / 2 terms
  pub half_trace_is_root : (n : ℕ) → suc m ≡ 2 * n → trace m p D ≡ 0 → is_root p square (half_trace p n D) ≡ true
  half_trace_is_root n e z =
      let q = half_trace_root m p F n D small e z in
      (root_test p square (half_trace p n D)).1 ((quadratic_affine m p F D (half_trace p n D) q.0).1 q.1)
