-- `product` meets its contract: what is summed, and the product that is left, make the whole product. Assumes nothing.
use Rattle.std.proofs.Common.{◌≡◌, ℕ, ◌-◌, ◌^◌, ◌<◌, ◌≤◌}
use Rattle.binary.specs.Xor.{◌⊕◌}
use Rattle.binary.specs.Product.{product}
use Rattle.binary.proofs.inner.modulo.Modulus.product.Given as goal

pub record Summed (m p w sum x y k : ℕ) : Type 0 where
  pub turns : k ≤ m
  pub first : x < 2 ^ m
  pub rest : y < 2 ^ (m - k)
  pub whole : sum ⊕ product p x y ≡ w

abbrev pub invariant-loop : goal.invariant-loop
invariant-loop l = Summed l.self.degree l.self.polynomial (product l.self.polynomial l.a l.b) l.sum l.x l.y l.counter
