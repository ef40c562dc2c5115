-- C7: the powers of x are those below the exponent 2 ^ m - 1. Assumes nothing.
use mathlib.Core.Path.{◌≡◌, sym, ap, ◌∙◌}
use mathlib.Core.Logic.{◌≢◌}
use Prim.Native.Nat.{ℕ, ◌+◌, ◌-◌, ◌*◌, ◌/◌, ◌%◌, ◌^◌, ◌<◌}
use native.Mathlib.Nat.{mod-lt, div-add-mod', mul_comm}
use native.Mathlib.Omega.{arith}
use Rattle.binary.specs.Product.{product}
use Rattle.binary.proofs.Product.{one_product}
use Rattle.galois.specs.Field.{Field}
use Rattle.galois.proofs.Field.{one_lt}
use Rattle.galois.specs.Power.{power}
use Rattle.galois.proofs.Power.{power-add, power-mul, power_lt, one_power}
use Rattle.galois.proofs.Fermat.{fermat_nonzero}

module _ (m p : ℕ) (F : Field m p) (x : ℕ) (n : x ≢ 0) (h : x < 2 ^ m) where
  pub power_reduced : (e : ℕ) → power p x e ≡ power p x (e % (2 ^ m - 1))
  power_reduced e =
      let k = 2 ^ m - 1 in
      ap (power p x) (sym (div-add-mod' e k) ∙ ap (λ (v : ℕ). v + e % k) (mul_comm (e / k) k))
      ∙ power-add m p F x (k * (e / k)) (e % k)
      ∙ ap (λ (v : ℕ). product p v (power p x (e % k)))
      (power-mul m p F x k (e / k) ∙ ap (λ (v : ℕ). power p v (e / k)) (fermat_nonzero m p F x n h) ∙ one_power m p F (e / k))
      ∙ one_product m p F.irr.degree (power p x (e % k)) (power_lt m p F x (e % k))

  pub exponent_lt : (e : ℕ) → e % (2 ^ m - 1) < 2 ^ m - 1
  exponent_lt e = mod-lt e (let w = one_lt m p F in omega arith)
