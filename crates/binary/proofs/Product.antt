-- The ring laws of the product modulo p, for p of degree m, with no condition on the factors but in `product_one`. Assumes nothing.
use Rattle.std.proofs.Common.{◌≡◌, ℕ, ◌^◌, ◌<◌, sym, ap, ◌∙◌}
use Rattle.binary.specs.Xor.{◌⊕◌, Degree}
use Rattle.binary.specs.Times.{times}
use Rattle.binary.proofs.Times.{times_zero, times_one, times-xor, xor-times, times_comm, times_assoc}
use Rattle.binary.specs.Remainder.{remainder}
use Rattle.binary.proofs.Remainder.{zero-remainder, remainder_lt, remainder_small, remainder_of_sum, remainder_of_product}
use Rattle.binary.specs.Product.{product}

pub product_comm : (p a b : ℕ) → product p a b ≡ product p b a
unfolding product
product_comm p a b = ap (λ (x : ℕ). remainder x p) (times_comm a b)

pub product-zero : (p a : ℕ) → product p a 0 ≡ 0
unfolding product
product-zero p a = rw times_zero (zero-remainder p)

module _ (m p : ℕ) (dp : Degree m p) where
  pub product_lt : (a b : ℕ) → product p a b < 2 ^ m
  unfolding product
  product_lt a b = remainder_lt m p dp (times a b)

  pub product_one : (a : ℕ) → a < 2 ^ m → product p a 1 ≡ a
  unfolding product
  product_one a h = rw times_one (remainder_small m p dp a h)

  pub one_product : (a : ℕ) → a < 2 ^ m → product p 1 a ≡ a
  one_product a h = product_comm p 1 a ∙ product_one a h

  pub product-xor : (a b c : ℕ) → product p a (b ⊕ c) ≡ product p a b ⊕ product p a c
  unfolding product
  product-xor a b c = rw times-xor (remainder_of_sum m p dp (times a b) (times a c))

  pub xor-product : (a b c : ℕ) → product p (a ⊕ b) c ≡ product p a c ⊕ product p b c
  unfolding product
  xor-product a b c = rw xor-times (remainder_of_sum m p dp (times a c) (times b c))

  pub product_assoc : (a b c : ℕ) → product p (product p a b) c ≡ product p a (product p b c)
  unfolding product
  product_assoc a b c =
      remainder_of_product m p dp (times a b) c
      ∙ ap (λ (x : ℕ). remainder x p) (times_assoc a b c ∙ times_comm a (times b c))
      ∙ sym (remainder_of_product m p dp (times b c) a)
      ∙ ap (λ (x : ℕ). remainder x p) (times_comm (remainder (times b c) p) a)
