-- The quotient: `quotient_is` that no other q has q·b = a, `quotient_by` that it is the product with the inverse, `quotient-product`
-- that it is right, `quotient_lt` that it is an element. Assumes nothing.
use Rattle.std.proofs.Common.{subst, ◌≡◌, sym, ap, ◌∙◌, ℕ, ◌^◌, ◌<◌, arith, eqb, eq-eqb, ne_eqb}
use Rattle.binary.specs.Product.{product}
use Rattle.binary.proofs.Product.{product_comm, product_one, product_assoc, product_lt}
use Rattle.binary.proofs.Inverse.{product_cancel, inverse}
use Rattle.galois.specs.Field.{Field}
use Rattle.algebra.proofs.Search.{first_is}
use Rattle.arithmetic.specs.Quotient.{quotient_of}

module _ (m p : ℕ) (F : Field m p) where
  pub quotient_is : (a b q : ℕ) → 0 < b → b < 2 ^ m → q < 2 ^ m → product p q b ≡ a → q ≡ quotient_of m p a b
  unfolding quotient_of
  quotient_is a b q n h l e =
      sym (first_is (λ q. eqb (product p q b) a) (2 ^ m) q l (eq-eqb (product p q b) a e)
      (λ j k. ne_eqb (product p j b) a (λ f. other j k f)))
    where
      other : (j : ℕ) → j < q → product p j b ≡ a → ⊥
      other j k f =
          let w = product_cancel m p F.irr b j q (λ z. omega arith) h (omega arith) l (product_comm p b j ∙ f ∙ sym e ∙ product_comm p q b) in
          omega arith

  -- by the inverse
  pub quotient_by : (a b s : ℕ) → a < 2 ^ m → 0 < b → b < 2 ^ m → product p b s ≡ 1 → product p a s ≡ quotient_of m p a b
  quotient_by a b s ha n h e =
      quotient_is a b (product p a s) n h (product_lt m p F.irr.degree a s)
      (product_assoc m p F.irr.degree a s b ∙ ap (product p a) (product_comm p s b ∙ e) ∙ product_one m p F.irr.degree a ha)

  -- the quotient times b is a
  pub quotient-product : (a b : ℕ) → a < 2 ^ m → 0 < b → b < 2 ^ m → product p (quotient_of m p a b) b ≡ a
  quotient-product a b ha n h =
      let s = inverse m p F.irr b (λ z. omega arith) h in
      ap (λ (q : ℕ). product p q b) (sym (quotient_by a b s.0 ha n h s.2))
      ∙ product_assoc m p F.irr.degree a s.0 b ∙ ap (product p a) (product_comm p s.0 b ∙ s.2) ∙ product_one m p F.irr.degree a ha

  pub quotient_lt : (a b : ℕ) → a < 2 ^ m → 0 < b → b < 2 ^ m → quotient_of m p a b < 2 ^ m
  quotient_lt a b ha n h =
      let s = inverse m p F.irr b (λ z. omega arith) h in
      subst (λ (q : ℕ). q < 2 ^ m) (quotient_by a b s.0 ha n h s.2) (product_lt m p F.irr.degree a s.0)
