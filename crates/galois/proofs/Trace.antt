-- C3: the trace is additive (`trace-xor`), the same for c and c² (`trace_square`), and 0 or 1 (`trace-bit`). Assumes nothing.
use mathlib.Core.Path.{◌≡◌, refl, sym, ap, ap₂, ◌∙◌}
use mathlib.Core.Logic.{◌⊎◌, inl, inr}
use Prim.Native.Nat.{ℕ, zero, suc, ◌^◌, ◌<◌}
use native.Mathlib.Decide.{ℕ_discrete}
use lib.Pow.{pow_pos}
use Rattle.binary.specs.Xor.{◌⊕◌}
use Rattle.binary.proofs.Xor.{zero_xor, equal_of_xor, xor_comm, xor_assoc, xor_self, xor_lt, ac}
use Rattle.binary.specs.Product.{product}
use Rattle.binary.proofs.Product.{product-zero, product_one, product-xor}
use Rattle.binary.proofs.Inverse.{no_zero_divisors}
use Rattle.galois.specs.Field.{Field}
use Rattle.galois.proofs.Field.{one_lt}
use Rattle.galois.specs.Power.{squares}
use Rattle.galois.proofs.Power.{squares-shift, squares-zero, square_xor, squares_lt, squares-xor}
use Rattle.galois.proofs.Fermat.{squares_all}
use Rattle.galois.specs.Trace.{part_trace, trace}

-- the first term taken out
pub part_trace_front : (p k c : ℕ) → part_trace p (suc k) c ≡ c ⊕ part_trace p k (product p c c)
unfolding part_trace squares
part_trace_front p zero c = xor_comm 0 c
part_trace_front p (suc k) c =
    ap₂ ◌⊕◌ (part_trace_front p k c) (sym (squares-shift p k c)) ∙ xor_assoc c (part_trace p k (product p c c)) (squares p k (product p c c))

pub part_trace-zero : (p k : ℕ) → part_trace p k 0 ≡ 0
unfolding part_trace
part_trace-zero p zero = refl
part_trace-zero p (suc k) = ap₂ ◌⊕◌ (part_trace-zero p k) (squares-zero p k) ∙ zero_xor 0

module _ (m p : ℕ) (F : Field m p) where
  pub part_trace_lt : (k c : ℕ) → c < 2 ^ m → part_trace p k c < 2 ^ m
  unfolding part_trace
  part_trace_lt zero c h = pow_pos m
  part_trace_lt (suc k) c h = xor_lt m (part_trace_lt k c h) (squares_lt m p F k c h)

  pub part_trace-xor : (k a b : ℕ) → part_trace p k (a ⊕ b) ≡ part_trace p k a ⊕ part_trace p k b
  unfolding part_trace
  part_trace-xor zero a b = sym (zero_xor 0)
  part_trace-xor (suc k) a b = ap₂ ◌⊕◌ (part_trace-xor k a b) (squares-xor m p F k a b) ∙ (simp ac)

  pub square_part_trace : (k c : ℕ) → product p (part_trace p k c) (part_trace p k c) ≡ part_trace p k (product p c c)
  unfolding part_trace squares
  square_part_trace zero c = product-zero p 0
  square_part_trace (suc k) c =
      square_xor m p F (part_trace p k c) (squares p k c) ∙ ap₂ ◌⊕◌ (square_part_trace k c) (sym (squares-shift p k c))

  -- the square of k terms and the first are k + 1 terms
  pub part_trace_next : (k c : ℕ) → part_trace p (suc k) c ≡ c ⊕ product p (part_trace p k c) (part_trace p k c)
  part_trace_next k c = part_trace_front p k c ∙ ap (λ (x : ℕ). c ⊕ x) (sym (square_part_trace k c))

  pub trace_lt : (c : ℕ) → c < 2 ^ m → trace m p c < 2 ^ m
  trace_lt c h = part_trace_lt m c h

  pub trace-xor : (a b : ℕ) → trace m p (a ⊕ b) ≡ trace m p a ⊕ trace m p b
  trace-xor a b = part_trace-xor m a b

  pub trace_square : (c : ℕ) → c < 2 ^ m → trace m p (product p c c) ≡ trace m p c
  unfolding part_trace
  trace_square c h =
      moved c (part_trace p m (product p c c)) (part_trace p m c ⊕ c)
      (sym (part_trace_front p m c) ∙ ap (λ (x : ℕ). part_trace p m c ⊕ x) (squares_all m p F c h)) ∙ (simp ac)
    where
      moved : (a b d : ℕ) → a ⊕ b ≡ d → b ≡ a ⊕ d
      moved a b d e = sym (simp ac) ∙ ap (λ (x : ℕ). a ⊕ x) e

  -- what is its own square is 0 or 1
  pub zero_or_one : (t : ℕ) → t < 2 ^ m → product p t t ≡ t → (t ≡ 0) ⊎ (t ≡ 1)
  zero_or_one t h e = go (ℕ_discrete t 0)
    where
      go : Dec (t ≡ 0) → (t ≡ 0) ⊎ (t ≡ 1)
      go (yes z) = inl z
      go (no n) =
          inr (equal_of_xor t 1 (no_zero_divisors m p F.irr t (t ⊕ 1) n h (xor_lt m h (one_lt m p F))
          (product-xor m p F.irr.degree t t 1 ∙ ap₂ ◌⊕◌ e (product_one m p F.irr.degree t h) ∙ xor_self t)))

  pub trace-bit : (c : ℕ) → c < 2 ^ m → (trace m p c ≡ 0) ⊎ (trace m p c ≡ 1)
  trace-bit c h = zero_or_one (trace m p c) (trace_lt c h) (square_part_trace m c ∙ trace_square c h)
