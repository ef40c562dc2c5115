-- E1: the roots of an equation that needs no change of the unknown: a constant (`constant_roots`), degree 1 (`linear_roots`), and one that
-- is affine as it stands (`affine_roots`). Assumes nothing.
use mathlib.Core.Path.{◌≡◌, refl, sym, ap, ◌∙◌, subst}
use mathlib.Core.Logic.{◌≢◌, ◌⊎◌, inl, inr}
use mathlib.Core.List.{List, [], ◌∷◌}
use Prim.Native.Nat.{ℕ, ◌<◌}
use native.Mathlib.Omega.{arith}
use Rattle.algebra.proofs.Ascending.{ascending_nodup}
use Rattle.binary.specs.Xor.{◌⊕◌}
use Rattle.binary.proofs.Xor.{xor-zero, xor_self, equal_of_xor}
use Rattle.binary.specs.Product.{product}
use Rattle.binary.proofs.Product.{product-zero}
use Rattle.galois.specs.Field.{Field}
use Rattle.galois.specs.Polynomial.{value, Root}
use Rattle.galois.specs.Roots.{roots_of}
use Rattle.galois.proofs.Padding.{value_pad}
use Rattle.galois.proofs.RootList.{roots_iff, roots_ascending}
use Rattle.arithmetic.specs.Quotient.{quotient_of}
use Rattle.arithmetic.proofs.Quotient.{quotient_is, quotient-product, quotient_lt}
use Rattle.roots.specs.Equation.{Ready, HoldsRoots}

pub positive : (n : ℕ) → n ≢ 0 → 0 < n
positive n h = omega arith

-- of an equation written in another way
pub ready_as : (m p : ℕ) (f g : List ℕ) → f ≡ g → Ready m p f → Ready m p g
ready_as m p f g e R = subst (Ready m p) e R

pub roots_as : (m p : ℕ) (f g xs : List ℕ) → f ≡ g → HoldsRoots m p g xs → HoldsRoots m p f xs
roots_as m p f g xs e H = subst (λ (l : List ℕ). HoldsRoots m p l xs) (sym e) H

-- an equation that is affine as it stands
pub affine_roots : (m p : ℕ) (f xs : List ℕ) → xs ≡ roots_of m p f → HoldsRoots m p f xs
affine_roots m p f xs e =
    subst (HoldsRoots m p f) (sym e) (record { are = roots_iff m p f; once = ascending_nodup (roots_of m p f) (roots_ascending m p f) })

value_one : (p c0 x : ℕ) → value p (c0 ∷ []) x ≡ c0
unfolding value
value_one p c0 x = ap (λ (v : ℕ). c0 ⊕ v) (product-zero p x) ∙ xor-zero c0

-- a constant that is not 0 has no root
pub constant_roots : (m p c0 : ℕ) → Ready m p (c0 ∷ 0 ∷ 0 ∷ 0 ∷ 0 ∷ []) → HoldsRoots m p (c0 ∷ 0 ∷ 0 ∷ 0 ∷ 0 ∷ []) []
constant_roots m p c0 R =
    record { are = λ x. (λ k. absurd k, λ k. R.nonzero (zero x k, (refl, (refl, (refl, (refl, tt)))))); once = tt }
  where
    zero : (x : ℕ) → Root m p (c0 ∷ 0 ∷ 0 ∷ 0 ∷ 0 ∷ []) x → c0 ≡ 0
    zero x k = sym (value_pad p (c0 ∷ []) 4 x ∙ value_one p c0 x) ∙ k.1

-- c0 + c1·x is 0 at c0/c1 alone
value_two : (p c0 c1 x : ℕ) → value p (c0 ∷ c1 ∷ []) x ≡ c0 ⊕ product p x c1
unfolding value
value_two p c0 c1 x = ap (λ (v : ℕ). c0 ⊕ product p x v) (value_one p c1 x)

pub linear_roots : (m p c0 c1 q : ℕ) → Ready m p (c0 ∷ c1 ∷ 0 ∷ 0 ∷ 0 ∷ []) → c1 ≢ 0 → q ≡ quotient_of m p c0 c1
    → HoldsRoots m p (c0 ∷ c1 ∷ 0 ∷ 0 ∷ 0 ∷ []) (q ∷ [])
linear_roots m p c0 c1 q R n e = record { are = λ x. (root x, λ k. inl (only x k)); once = (λ k. k, tt) }
  where
    F : Field m p
    F = R.field.field

    at : (x : ℕ) → value p (c0 ∷ c1 ∷ 0 ∷ 0 ∷ 0 ∷ []) x ≡ c0 ⊕ product p x c1
    at x = value_pad p (c0 ∷ c1 ∷ []) 3 x ∙ value_two p c0 c1 x

    only : (x : ℕ) → Root m p (c0 ∷ c1 ∷ 0 ∷ 0 ∷ 0 ∷ []) x → x ≡ q
    only x k =
        quotient_is m p F c0 c1 x (positive c1 n) R.small.1.0 k.0 (sym (equal_of_xor c0 (product p x c1) (sym (at x) ∙ k.1))) ∙ sym e

    root : (x : ℕ) → (x ≡ q) ⊎ ⊥ → Root m p (c0 ∷ c1 ∷ 0 ∷ 0 ∷ 0 ∷ []) x
    root x (inl k) = (
      rw (k, e) (quotient_lt m p F c0 c1 R.small.0 (positive c1 n) R.small.1.0),
      at x ∙ ap (λ (v : ℕ). c0 ⊕ product p v c1) (k ∙ e)
          ∙ ap (λ (v : ℕ). c0 ⊕ v) (quotient-product m p F c0 c1 R.small.0 (positive c1 n) R.small.1.0) ∙ xor_self c0,
    )
    root x (inr k) = absurd k
