-- C5, `trace_one`: some element has trace 1. The trace is the linear part with m coefficients 1 (`part_trace_linear`), so that it has at
-- most 2 ^ (m - 1) roots. Assumes nothing.
use mathlib.Core.Path.{◌≡◌, refl, sym, ap, ap₂, ◌∙◌, subst}
use mathlib.Core.Logic.{◌⊎◌, inl, inr}
use mathlib.Core.Bool.{true, false}
use mathlib.Core.List.{List, [], ◌∷◌, ◌++◌}
use Prim.Native.Nat.{ℕ, zero, suc, ◌^◌, ◌≤◌, ◌<◌}
use native.Mathlib.Numerals.{add-one}
use native.Mathlib.Omega.{arith}
use lib.Dec.{eqb}
use borrow.Author.Tests.{eqb-true, eqb-false}
use lib.ListN.{replicate, length-replicate, replicate-append-replicate}
use lib.Pow.{pow_pos}
use Rattle.binary.specs.Xor.{◌⊕◌}
use Rattle.binary.proofs.Xor.{zero_xor}
use Rattle.binary.specs.Product.{product}
use Rattle.binary.proofs.Product.{one_product}
use Rattle.algebra.specs.Lists.{below}
use Rattle.algebra.proofs.Search.{found}
use Rattle.algebra.proofs.Onto.{below_length, below_nodup, of_below}
use Rattle.galois.specs.Field.{Field}
use Rattle.galois.proofs.Field.{one_lt}
use Rattle.galois.proofs.Power.{mul_lt}
use Rattle.galois.specs.Trace.{part_trace, trace}
use Rattle.galois.proofs.Trace.{part_trace_front, trace-bit}
use Rattle.galois.specs.Polynomial.{Coeffs}
use Rattle.galois.specs.Affine.{linear_at, affine_at}
use Rattle.galois.proofs.AffineList.{affine_few}

ones_end : (k : ℕ) → replicate {A = ℕ} k 1 ++ 1 ∷ [] ≡ replicate (suc k) 1
ones_end k = replicate-append-replicate k 1 1 ∙ ap (λ (j : ℕ). replicate j 1) (add-one k)

module _ (m p : ℕ) (F : Field m p) where
  ones_coeffs : (k : ℕ) → Coeffs m (replicate k 1)
  ones_coeffs zero = tt
  ones_coeffs (suc k) = (one_lt m p F, ones_coeffs k)

  -- the trace is the linear part with every coefficient 1
  pub part_trace_linear : (k x : ℕ) → x < 2 ^ m → part_trace p k x ≡ linear_at p (replicate k 1) x
  unfolding part_trace linear_at
  part_trace_linear zero x h = refl
  part_trace_linear (suc k) x h =
      part_trace_front p k x
      ∙ ap₂ ◌⊕◌ (sym (one_product m p F.irr.degree x h)) (part_trace_linear k (product p x x) (mul_lt m p F x x))

  -- not every element has trace 0
  not_all : ((x : ℕ) → x < 2 ^ m → trace m p x ≡ 0) → (k : ℕ) → suc k ≡ m → ⊥
  unfolding affine_at
  not_all z k e =
      let s = ones_end k ∙ ap (λ (j : ℕ). replicate j 1) e in
      let a = affine_few m p F 0 (replicate k 1) 1 (pow_pos m, subst (Coeffs m) (sym s) (ones_coeffs m)) (λ w. omega arith)
      (below (2 ^ m)) (below_nodup (2 ^ m))
      (λ r h. let l = of_below (2 ^ m) r h in
      (l, ap (λ (ls : List ℕ). 0 ⊕ linear_at p ls r) s ∙ zero_xor (linear_at p (replicate m 1) r) ∙ sym (part_trace_linear m r l) ∙ z r l)) in
      let b = below_length (2 ^ m) in
      let c = ap (λ (j : ℕ). 2 ^ j) (length-replicate {A = ℕ} k 1) in
      let d = ap (λ (j : ℕ). 2 ^ j) e in
      let f = pow_pos k in
      omega arith

  pub trace_one : (θ : ℕ) × (θ < 2 ^ m) × (trace m p θ ≡ 1)
  trace_one = go (found (λ x. eqb (trace m p x) 1) (2 ^ m))
    where
      zero_if : ((x : ℕ) → x < 2 ^ m → eqb (trace m p x) 1 ≡ false) → (x : ℕ) → x < 2 ^ m → trace m p x ≡ 0
      zero_if f x h = pick (trace-bit m p F x h)
        where
          pick : (trace m p x ≡ 0) ⊎ (trace m p x ≡ 1) → trace m p x ≡ 0
          pick (inl e) = e
          pick (inr e) = absurd (eqb-false (trace m p x) 1 (f x h) e)

      go : ((k : ℕ) × (k < 2 ^ m) × (eqb (trace m p k) 1 ≡ true) × ((j : ℕ) → j < k → eqb (trace m p j) 1 ≡ false)) ⊎ ((j : ℕ) → j < 2 ^ m → eqb (trace m p j) 1 ≡ false)
          → (θ : ℕ) × (θ < 2 ^ m) × (trace m p θ ≡ 1)
      go (inl r) = (r.0, r.1, eqb-true (trace m p r.0) 1 r.2)
      go (inr f) = absurd (at m refl F.pos)
        where
          at : (k : ℕ) → k ≡ m → 1 ≤ k → ⊥
          at zero e h = omega arith
          at (suc k) e h = not_all (zero_if f) k e
