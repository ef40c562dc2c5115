-- Functions that take sums to sums (`Additive`): two that agree at the powers of two are equal (`additive_same`). Assumes nothing.
use Rattle.std.proofs.Common.{◌≡◌, ℕ, zero, suc, ◌^◌, ◌<◌, sym, ap, ◌∙◌, ap₂, arith}
use Rattle.std.proofs.Math.Decide.{dec_lt}
use Rattle.binary.specs.Xor.{◌⊕◌}
use Rattle.binary.proofs.Xor.{zero_xor, xor_self, xor_twice, same-top}
use Rattle.binary.proofs.Bit.{degree_pow}

-- f takes sums to sums
abbrev pub Additive : (ℕ → ℕ) → Type 0
Additive f = (x y : ℕ) → f (x ⊕ y) ≡ f x ⊕ f y

pub additive_zero : (f : ℕ → ℕ) → Additive f → f 0 ≡ 0
additive_zero f a = ap f (sym (zero_xor 0)) ∙ a 0 0 ∙ xor_self (f 0)

pub additive_same : (f g : ℕ → ℕ) → Additive f → Additive g → (n : ℕ) → ((j : ℕ) → j < n → f (2 ^ j) ≡ g (2 ^ j))
    → (v : ℕ) → v < 2 ^ n → f v ≡ g v
additive_same f g a b zero h v l =
    let e : v ≡ 0 = omega arith in
    ap f e ∙ additive_zero f a ∙ sym (ap g e ∙ additive_zero g b)
additive_same f g a b (suc n) h v l = go (dec_lt v (2 ^ n)) (λ u k. additive_same f g a b n (λ j q. h j (omega arith)) u k)
  where
    go : Dec (v < 2 ^ n) → ((u : ℕ) → u < 2 ^ n → f u ≡ g u) → f v ≡ g v
    go (yes k) ih = ih v k
    go (no k) ih =
        ap f (sym (xor_twice (2 ^ n) v)) ∙ a (2 ^ n) (2 ^ n ⊕ v)
        ∙ ap₂ ◌⊕◌ (h n (omega arith)) (ih (2 ^ n ⊕ v) (same-top n (2 ^ n) v (degree_pow n) (omega arith, l)))
        ∙ sym (ap g (sym (xor_twice (2 ^ n) v)) ∙ b (2 ^ n) (2 ^ n ⊕ v))
