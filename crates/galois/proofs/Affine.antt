-- D5: an affine polynomial stays in the field, its linear part takes sums to sums (`linear_at-xor`), and it is additive up to its constant
-- (`affine_at-xor`); coefficients that are 0 (`linear_at-zero`, `linear_at_zeros`). Assumes nothing.
use mathlib.Core.Path.{◌≡◌, refl, sym, ap, ap₂, ◌∙◌}
use mathlib.Core.List.{List, [], ◌∷◌, ◌++◌}
use Prim.Native.Nat.{ℕ, ◌^◌, ◌<◌}
use lib.Pow.{pow_pos}
use Rattle.binary.specs.Xor.{◌⊕◌}
use Rattle.binary.proofs.Xor.{zero_xor, xor_lt, ac}
use Rattle.binary.proofs.Additive.{Additive}
use Rattle.binary.specs.Product.{product}
use Rattle.binary.proofs.Product.{product-xor}
use Rattle.galois.specs.Field.{Field}
use Rattle.galois.specs.Polynomial.{AllZero}
use Rattle.galois.proofs.Power.{zero-product, mul_lt, square_xor}
use Rattle.galois.specs.Affine.{linear_at, affine_at}

-- every coefficient 0: the value 0
pub linear_at-zero : (p : ℕ) (ls : List ℕ) (x : ℕ) → AllZero ls → linear_at p ls x ≡ 0
unfolding linear_at
linear_at-zero p [] x z = refl
linear_at-zero p (l ∷ ls) x z = ap₂ ◌⊕◌ (ap (λ (v : ℕ). product p v x) z.0 ∙ zero-product p x) (linear_at-zero p ls (product p x x) z.1) ∙ zero_xor 0

-- zeros after the coefficients change nothing
pub linear_at_zeros : (p : ℕ) (ls zs : List ℕ) (x : ℕ) → AllZero zs → linear_at p (ls ++ zs) x ≡ linear_at p ls x
unfolding linear_at
linear_at_zeros p [] zs x z = linear_at-zero p zs x z
linear_at_zeros p (l ∷ ls) zs x z = ap (λ (v : ℕ). product p l x ⊕ v) (linear_at_zeros p ls zs (product p x x) z)

module _ (m p : ℕ) (F : Field m p) where
  pub linear_at_lt : (ls : List ℕ) (x : ℕ) → linear_at p ls x < 2 ^ m
  unfolding linear_at
  linear_at_lt [] x = pow_pos m
  linear_at_lt (l ∷ ls) x = xor_lt m (mul_lt m p F l x) (linear_at_lt ls (product p x x))

  pub linear_at-xor : (ls : List ℕ) → Additive (linear_at p ls)
  unfolding linear_at
  linear_at-xor [] x y = sym (zero_xor 0)
  linear_at-xor (l ∷ ls) x y =
      ap₂ ◌⊕◌ (product-xor m p F.irr.degree l x y)
      (ap (linear_at p ls) (square_xor m p F x y) ∙ linear_at-xor ls (product p x x) (product p y y))
      ∙ (simp ac)

  pub affine_at-xor : (c : ℕ) (ls : List ℕ) (x y : ℕ) → affine_at p c ls (x ⊕ y) ≡ affine_at p c ls x ⊕ linear_at p ls y
  unfolding affine_at
  affine_at-xor c ls x y = ap (λ (v : ℕ). c ⊕ v) (linear_at-xor ls x y) ∙ (simp ac)
