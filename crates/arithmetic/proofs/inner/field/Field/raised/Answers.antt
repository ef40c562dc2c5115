-- `raised` meets its contract. Assumes nothing.
use Rattle.std.proofs.Common.{◌≡◌, sym, ap, ap₂, ◌∙◌, ℕ, ◌/◌, ◌%◌, ◌<◌, ◌^◌, arith}
use Rattle.binary.specs.Product.{product}
use Rattle.binary.proofs.Product.{product_lt, product_one, one_product, product_assoc}
use Rattle.galois.specs.Field.{Field}
use Rattle.galois.proofs.Field.{one_lt}
use Rattle.galois.specs.Power.{power}
use Rattle.galois.proofs.Power.{power_lt, power_one}
use Rattle.arithmetic.proofs.Power.{power-digit}
use Rattle.arithmetic.proofs.inner.field.Field.raised.Invariants.{Raised}
use Rattle.arithmetic.proofs.inner.field.Field.raised.Goals as goal
use Rattle.arithmetic.proofs.inner.field.Field.raised.Goals.{then-left-eq1, else-left-eq1}

module _ (m p : ℕ) (F : Field m p) where
  start : (a n : ℕ) → a < 2 ^ m → Raised m p (power p a n) 1 a n
  start a n h = record { done = one_lt m p F; small = h; whole = one_product m p F.irr.degree (power p a n) (power_lt m p F a n) }

  turn : (w result base left r b : ℕ) → Raised m p w result base left → r ≡ product p result (power p base (left % 2)) → b ≡ product p base base
      → Raised m p w r b (left / 2)
  turn w result base left r b S er eb =
      let d = F.irr.degree in
      record {
        done = rw er (product_lt m p d result (power p base (left % 2)));
        small = rw eb (product_lt m p d base base);
        whole = ap₂ (λ (x y : ℕ). product p x (power p y (left / 2))) er eb
            ∙ product_assoc m p d result (power p base (left % 2)) (power p (product p base base) (left / 2))
            ∙ ap (product p result) (sym (power-digit m p F base left S.small)) ∙ S.whole;
      }

  -- the digit 0 or 1 of the exponent
  digit_zero : (result base d : ℕ) → result < 2 ^ m → d ≡ 0 → result ≡ product p result (power p base d)
  unfolding power
  digit_zero result base d h e = sym (ap (λ (k : ℕ). product p result (power p base k)) e ∙ product_one m p F.irr.degree result h)

  digit_one : (result base d : ℕ) → base < 2 ^ m → d ≡ 1 → product p result base ≡ product p result (power p base d)
  digit_one result base d h e = ap (product p result) (sym (ap (power p base) e ∙ power_one m p F base h))

  end : (w result base left : ℕ) → left ≡ 0 → Raised m p w result base left → result ≡ w
  unfolding power
  end w result base left e S =
      sym (ap (λ (k : ℕ). product p result (power p base k)) e ∙ product_one m p F.irr.degree result S.done) ∙ S.whole

pub loop-left-init : goal.loop-left-init
loop-left-init c = start c.args.self.degree c.args.self.polynomial c.args.self.is_field.field c.args.a c.args.n c.requires

pub loop-left-preserved : goal.loop-left-preserved
loop-left-preserved c =
    let a = c.args in
    let F = a.self.is_field.field in
    let l = c.loop-left in
    turn a.self.degree a.self.polynomial F (power a.self.polynomial a.a a.n) l.so_far l.base l.left _ _ l.invariant
    (elim c.if-left-eq1.branch [
      | then-left-eq1 w ↦ w.so_far-is ∙ w.product-so_far.ensures ∙ digit_one _ _ F l.so_far l.base (l.left % 2) l.invariant.small w.if-left-eq1.true
      | else-left-eq1 w ↦ w.so_far-is ∙ digit_zero _ _ F l.so_far l.base (l.left % 2) l.invariant.done (omega (arith, w.if-left-eq1.false))
    ])
    c.product-base.ensures

pub returns : goal.returns
returns c =
    let a = c.args in
    let l = c.loop-left in
    end a.self.degree a.self.polynomial c.args.self.is_field.field (power a.self.polynomial a.a a.n) l.so_far l.base l.left c.loop-left-test.false l.invariant
