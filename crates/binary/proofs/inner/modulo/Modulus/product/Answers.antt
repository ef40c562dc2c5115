-- `product` meets its contract: what is summed, and the product that is left, make the whole product. Assumes nothing.
use Rattle.std.proofs.Common.{◌≡◌, ℕ, suc, ◌+◌, ◌-◌, ◌*◌, ◌/◌, ◌%◌, ◌^◌, ◌<◌, ◌≤◌, sym, ap, ◌∙◌, arith, bit_xor}
use Rattle.binary.specs.Xor.{◌⊕◌, Degree}
use Rattle.binary.proofs.Xor.{is_xor, zero_xor, xor-zero, xor_assoc}
use Rattle.binary.specs.Product.{product, times_x}
use Rattle.binary.proofs.Product.{product-zero}
use Rattle.binary.proofs.Modulus.{times_x_lt, product-digit}
use Rattle.binary.proofs.inner.modulo.Modulus.product.Invariants.{Summed}
use Rattle.binary.proofs.inner.modulo.Modulus.product.Goals as goal

start : (m p a b : ℕ) → a < 2 ^ m → b < 2 ^ m → Summed m p (product p a b) 0 a b 0
start m p a b h l =
    let e : m - 0 ≡ m = omega arith in
    record { turns = omega arith; first = h; rest = rw e l; whole = zero_xor (product p a b) }

turn : (m p w sum x y k d t : ℕ) → Degree m p → k < m → Summed m p w sum x y k → t ≡ y % 2 * x → d ≡ times_x p x
    → Summed m p w (bit_xor sum t) d (y / 2) (k + 1)
turn m p w sum x y k d t dp l s et ed =
    let q : suc (m - (k + 1)) ≡ m - k = omega arith in
    let f : 2 ^ suc (m - (k + 1)) ≡ 2 ^ (m - k) = ap (λ (j : ℕ). 2 ^ j) q in
    record {
      turns = omega arith;
      first = rw ed (times_x_lt m p dp x);
      rest = omega (arith, s.rest);
      whole = ap (λ (v : ℕ). v ⊕ product p d (y / 2)) (sym (is_xor sum t)) ∙ xor_assoc sum t (product p d (y / 2))
          ∙ ap (λ (v : ℕ). sum ⊕ v) ((rw (et, ed)) ∙ sym (product-digit m p dp x y s.first)) ∙ s.whole;
    }

end : (m p w sum x y k : ℕ) → m ≤ k → Summed m p w sum x y k → sum ≡ w
end m p w sum x y k l s =
    let e : m - k ≡ 0 = omega arith in
    let z : y ≡ 0 = omega (arith, rw e at s.rest) in
    sym (xor-zero sum) ∙ ap (λ (v : ℕ). sum ⊕ v) (sym (ap (product p x) z ∙ product-zero p x)) ∙ s.whole

pub loop-init : goal.loop-init
loop-init c = let a = c.args in start a.self.degree a.self.polynomial a.a a.b c.requires.0 c.requires.1

pub loop-preserved : goal.loop-preserved
loop-preserved c =
    let a = c.args in
    let l = c.loop in
    turn a.self.degree a.self.polynomial (product a.self.polynomial a.a a.b) l.sum l.x l.y l.counter _ _ a.self.is_modulus.degree (omega arith) l.invariant
    c.picked-sum.ensures c.doubled-x.ensures

pub returns : goal.returns
returns c =
    let a = c.args in
    let l = c.loop in
    end a.self.degree a.self.polynomial (product a.self.polynomial a.a a.b) l.sum l.x l.y l.counter (omega arith) l.invariant
