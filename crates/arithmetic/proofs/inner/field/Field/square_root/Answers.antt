-- `square_root` meets its contract. Assumes nothing.
use Rattle.std.proofs.Common.{◌^◌, ◌<◌, sym, ap, ap₂, ◌∙◌, arith}
use Rattle.binary.specs.Xor.{◌⊕◌}
use Rattle.binary.proofs.Xor.{is_xor}
use Rattle.binary.specs.Product.{product}
use Rattle.arithmetic.specs.Quotient.{quotient_of}
use Rattle.arithmetic.proofs.Quotient.{quotient_lt}
use Rattle.arithmetic.proofs.Root.{half_lt, odd_pos, root_by_halves}
use Rattle.arithmetic.proofs.inner.field.Field.square_root.Goals as goal
use Rattle.arithmetic.proofs.inner.field.Field.square_root.Goals.{After-even_digits-2}

-- both halves of the polynomial are elements, and the odd one is not 0
halves : (c : After-even_digits-2) → (c.even_digits.result < 2 ^ c.args.self.degree) × (0 < c.even_digits-2.result) × (c.even_digits-2.result < 2 ^ c.args.self.degree)
halves c =
    let q = c.args.self.is_field in
    let h = q.field.irr.degree.1 in (
      rw c.even_digits.ensures (half_lt 16 _ _ q.field q.modulus.two (omega arith) _ (omega arith)),
      rw c.even_digits-2.ensures (odd_pos 16 _ _ q.field q.modulus.two (omega arith)),
      rw c.even_digits-2.ensures (half_lt 16 _ _ q.field q.modulus.two (omega arith) _ (omega arith)),
    )

pub quotient-root_of_x-requires : goal.quotient-root_of_x-requires
quotient-root_of_x-requires c = halves c

pub product-requires : goal.product-requires
product-requires c =
    let q = c.args.self.is_field in
    let r = halves (goal.at.product-requires c).After-even_digits-2 in (
      rw c.quotient-root_of_x.ensures (quotient_lt _ _ q.field _ _ r.0 r.1 r.2),
      rw c.even_digits-4.ensures (half_lt 16 _ _ q.field q.modulus.two (omega arith) _ (omega arith)),
    )

pub returns : goal.returns
returns c =
    let a = c.args in
    let q = c.requires in
    let s = c.quotient-root_of_x in
    sym (is_xor c.even_digits-3.result c.product.result)
    ∙ ap₂ ◌⊕◌ c.even_digits-3.ensures (c.product.ensures ∙ ap (product a.self.polynomial s.result) c.even_digits-4.ensures)
    ∙ root_by_halves 16 a.self.degree a.self.polynomial a.self.is_field.field a.self.is_field.modulus.two (omega arith) a.b s.result q
    (s.ensures ∙ ap₂ (quotient_of a.self.degree a.self.polynomial) c.even_digits.ensures c.even_digits-2.ensures)
