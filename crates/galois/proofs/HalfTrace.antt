-- C6 for odd m: where the trace of c is 0, c + c^4 + c^16 + ... + c^(2^(m-1)) is a root of t² + t = c (`half_trace_root`). Assumes nothing.
use mathlib.Core.Path.{◌≡◌, sym, ap, ap₂, ◌∙◌}
use Prim.Native.Nat.{ℕ, zero, suc, ◌*◌, ◌^◌, ◌<◌}
use native.Mathlib.Omega.{arith}
use lib.Pow.{pow_pos}
use Rattle.binary.specs.Xor.{◌⊕◌}
use Rattle.binary.proofs.Xor.{zero_xor, xor_lt, ac}
use Rattle.binary.specs.Product.{product}
use Rattle.binary.proofs.Product.{product-zero}
use Rattle.galois.specs.Field.{Field}
use Rattle.galois.specs.Power.{squares}
use Rattle.galois.proofs.Power.{square_xor, squares_lt}
use Rattle.galois.proofs.Fermat.{squares_all}
use Rattle.galois.specs.Trace.{part_trace, trace}
use Rattle.galois.specs.HalfTrace.{half_trace}
use Rattle.galois.specs.Quadratic.{Quadratic}

module _ (m p : ℕ) (F : Field m p) where
  pub half_trace_lt : (n c : ℕ) → c < 2 ^ m → half_trace p n c < 2 ^ m
  unfolding half_trace
  half_trace_lt zero c h = pow_pos m
  half_trace_lt (suc n) c h = xor_lt m (half_trace_lt n c h) (squares_lt m p F (2 * n) c h)

  -- n terms, squared and added to themselves, are the first 2·n terms of the trace
  pub half_square : (n c : ℕ) → product p (half_trace p n c) (half_trace p n c) ⊕ half_trace p n c ≡ part_trace p (2 * n) c
  unfolding half_trace part_trace squares
  half_square zero c = ap (λ (x : ℕ). x ⊕ 0) (product-zero p 0) ∙ zero_xor 0
  half_square (suc n) c =
      ap (λ (x : ℕ). x ⊕ (half_trace p n c ⊕ squares p (2 * n) c)) (square_xor m p F (half_trace p n c) (squares p (2 * n) c))
      ∙ (simp ac)
      ∙ ap (λ (x : ℕ). (x ⊕ squares p (2 * n) c) ⊕ product p (squares p (2 * n) c) (squares p (2 * n) c)) (half_square n c)
      ∙ ap (λ (k : ℕ). part_trace p k c) (let e : suc (suc (2 * n)) ≡ 2 * suc n = omega arith in e)

  -- n = (m + 1) / 2
  pub half_trace_root : (n c : ℕ) → c < 2 ^ m → suc m ≡ 2 * n → trace m p c ≡ 0 → Quadratic m p c (half_trace p n c)
  unfolding part_trace
  half_trace_root n c h e z = (
    half_trace_lt n c h,
    half_square n c ∙ ap (λ (k : ℕ). part_trace p k c) (sym e) ∙ ap₂ ◌⊕◌ z (squares_all m p F c h) ∙ zero_xor c,
  )
