-- C6: t² + t = c has a root exactly when the trace of c is 0 (`quadratic_iff`); then t and t + 1 are all (`quadratic_other`,
-- `quadratic_only`). Assumes nothing.
use mathlib.Core.Path.{◌≡◌, refl, sym, ap, ap₂, ◌∙◌}
use mathlib.Core.Logic.{◌⊎◌, inl, inr, ◌↔◌}
use mathlib.Core.List.{[], ◌∷◌}
use Prim.Native.Nat.{ℕ, zero, suc, ◌^◌, ◌<◌}
use lib.Pow.{pow_pos}
use Rattle.binary.specs.Xor.{◌⊕◌}
use Rattle.binary.proofs.Xor.{xor-zero, xor_self, xor_lt, ac, equal_of_xor, xor_part}
use Rattle.binary.specs.Product.{product}
use Rattle.binary.proofs.Product.{product-zero, product_one}
use Rattle.algebra.specs.Expression.{var, I, ◌⊕◌ as ◌∔◌, ◌⊗◌}
use Rattle.algebra.proofs.Identity.{ring_on, ring_on_given, alone, using_eq}
use Rattle.galois.specs.Field.{Field}
use Rattle.galois.proofs.Field.{one_lt, ring}
use Rattle.galois.specs.Power.{squares}
use Rattle.galois.proofs.Power.{zero-product, mul_lt, squares_lt, square_xor}
use Rattle.galois.proofs.Fermat.{squares_all}
use Rattle.galois.specs.Trace.{part_trace, trace}
use Rattle.galois.proofs.Trace.{part_trace_lt, part_trace_next, trace-xor, trace_square, zero_or_one}
use Rattle.galois.proofs.TraceOne.{trace_one}
use Rattle.galois.specs.Quadratic.{Quadratic}

-- the sum over i < n of (c + .. + c^(2^(i-1)))·θ^(2^i)
unfoldable pub halfway : ℕ → ℕ → ℕ → ℕ → ℕ
halfway p θ c zero = 0
halfway p θ c (suc n) = halfway p θ c n ⊕ product p (part_trace p n c) (squares p n θ)

module _ (m p : ℕ) (F : Field m p) where
  module _ (θ c : ℕ) (hθ : θ < 2 ^ m) (hc : c < 2 ^ m) where
    pub halfway_lt : (n : ℕ) → halfway p θ c n < 2 ^ m
    unfolding halfway
    halfway_lt zero = pow_pos m
    halfway_lt (suc n) = xor_lt m (halfway_lt n) (mul_lt m p F (part_trace p n c) (squares p n θ))

    -- one ring identity a step
    halfway_is : (n : ℕ) → product p (halfway p θ c n) (halfway p θ c n) ⊕ halfway p θ c n
        ≡ product p c (part_trace p n θ ⊕ (θ ⊕ squares p n θ)) ⊕ product p (part_trace p n c) (squares p n θ)
    unfolding halfway part_trace squares
    halfway_is zero =
        ap (λ (x : ℕ). x ⊕ 0) (product-zero p 0)
        ∙ sym (ap₂ ◌⊕◌ (ap (product p c) (simp ac) ∙ product-zero p c) (zero-product p θ))
    halfway_is (suc n) =
        ring_on_given (ring m p F)
        ((halfway p θ c n, halfway_lt n) ∷ (c, hc) ∷ (part_trace p n θ, part_trace_lt m p F n θ hθ) ∷ (θ, hθ)
        ∷ (squares p n θ, squares_lt m p F n θ hθ) ∷ (part_trace p n c, part_trace_lt m p F n c hc) ∷ [])
        ((var 0 ∔ var 5 ⊗ var 4) ⊗ (var 0 ∔ var 5 ⊗ var 4) ∔ (var 0 ∔ var 5 ⊗ var 4))
        (var 1 ⊗ ((var 2 ∔ var 4) ∔ (var 3 ∔ var 4 ⊗ var 4)) ∔ (var 1 ∔ var 5 ⊗ var 5) ⊗ (var 4 ⊗ var 4))
        (using_eq I (var 0 ⊗ var 0 ∔ var 0) (var 1 ⊗ (var 2 ∔ (var 3 ∔ var 4)) ∔ var 5 ⊗ var 4) (halfway_is n) alone)
        refl
        ∙ ap (λ (x : ℕ). product p c ((part_trace p n θ ⊕ squares p n θ) ⊕ (θ ⊕ product p (squares p n θ) (squares p n θ))) ⊕ product p x (product p (squares p n θ) (squares p n θ)))
        (sym (part_trace_next m p F n c))

    pub halfway_root : trace m p θ ≡ 1 → trace m p c ≡ 0 → Quadratic m p c (halfway p θ c m)
    halfway_root e z = (
      halfway_lt m,
      halfway_is m
          ∙ ap₂ ◌⊕◌
          (ap (product p c) (ap₂ ◌⊕◌ e (ap (λ (x : ℕ). θ ⊕ x) (squares_all m p F θ hθ) ∙ xor_self θ) ∙ xor-zero 1) ∙ product_one m p F.irr.degree c hc)
          (ap (λ (x : ℕ). product p x (squares p m θ)) z ∙ zero-product p (squares p m θ))
          ∙ xor-zero c,
    )

  -- if: a root when the trace is 0
  pub quadratic_root : (c : ℕ) → c < 2 ^ m → trace m p c ≡ 0 → (t : ℕ) × Quadratic m p c t
  quadratic_root c h z = let θ = trace_one m p F in (halfway p θ.0 c m, halfway_root θ.0 c θ.1 h θ.2 z)

  -- only if
  pub quadratic_trace : (c t : ℕ) → Quadratic m p c t → trace m p c ≡ 0
  quadratic_trace c t a =
      ap (trace m p) (sym a.1) ∙ trace-xor m p F (product p t t) t
      ∙ ap (λ (x : ℕ). x ⊕ trace m p t) (trace_square m p F t a.0) ∙ xor_self (trace m p t)

  pub quadratic_iff : (c : ℕ) → c < 2 ^ m → ((t : ℕ) × Quadratic m p c t) ↔ (trace m p c ≡ 0)
  quadratic_iff c h = (λ r. quadratic_trace c r.0 r.1, λ z. quadratic_root c h z)

  -- the other root
  pub quadratic_other : (c t : ℕ) → Quadratic m p c t → Quadratic m p c (t ⊕ 1)
  quadratic_other c t a = (
    xor_lt m a.0 (one_lt m p F),
    ring_on (ring m p F) ((t, a.0) ∷ []) ((var 0 ∔ I) ⊗ (var 0 ∔ I) ∔ (var 0 ∔ I)) (var 0 ⊗ var 0 ∔ var 0) refl ∙ a.1,
  )

  -- and no third
  pub quadratic_only : (c t u : ℕ) → Quadratic m p c t → Quadratic m p c u → (u ≡ t) ⊎ (u ≡ t ⊕ 1)
  quadratic_only c t u a b = go (zero_or_one m p F (u ⊕ t) (xor_lt m b.0 a.0) square)
    where
      square : product p (u ⊕ t) (u ⊕ t) ≡ u ⊕ t
      square = square_xor m p F u t ∙ xor_part (product p u u) u (product p t t) t (b.1 ∙ sym a.1)

      go : (u ⊕ t ≡ 0) ⊎ (u ⊕ t ≡ 1) → (u ≡ t) ⊎ (u ≡ t ⊕ 1)
      go (inl e) = inl (equal_of_xor u t e)
      go (inr e) = inr (sym (ap (λ (x : ℕ). t ⊕ x) (sym e) ∙ (simp ac)))
