-- `divided` meets its contract: from place i on the values are those of the polynomial's tails. Assumes nothing.
use Rattle.std.proofs.Common.{◌≡◌, refl, ap, ◌∙◌, subst, arith, rules, ℕ, ◌+◌, ◌-◌, ◌<◌, ◌^◌, get_or}
use Rattle.binary.specs.Product.{product}
use Rattle.roots.proofs.Division.{dividing_start, dividing_next, dividing_lt, left_over, quotient_lem, quotient_small}
use Rattle.roots.proofs.Equations.{coeffs}
use Rattle.roots.proofs.inner.polynomial.Polynomial.divided.Goals as goal

pub loop-i-init : goal.loop-i-init
loop-i-init c = dividing_start _ _ _ _ (search rules)

pub product-requires : goal.product-requires
product-requires c =
    let l = c.loop-i in
    let s = c.args.self in
    let e : l.i ≡ l.i - 1 + 1 = omega arith in (
      c.requires,
      subst (λ (k : ℕ). get_or l.sums k 0 < 2 ^ s.field.degree) e (dividing_lt _ _ s.field.is_field.field _ _ _ l.i (coeffs s) l.invariant),
    )

pub loop-i-preserved : goal.loop-i-preserved
loop-i-preserved c =
    let l = c.loop-i in
    let a = c.args in
    let e : l.i - 1 + 1 ≡ l.i = omega arith in
    dividing_next _ _ _ _ l.i _ _ (omega arith) (c.product.ensures ∙ ap (λ (k : ℕ). product a.self.field.polynomial a.r (get_or l.sums k 0)) e) l.invariant

pub invariant_of-quotient : goal.invariant_of-quotient
invariant_of-quotient c =
    let l = c.loop-i in
    let s = c.args.self in
    record { small = quotient_small _ _ _ _ l.i (omega arith) l.invariant _ s.field.is_field.field (coeffs s) (search rules) }

pub returns : goal.returns
returns c =
    let l = c.loop-i in
    record {
      value = left_over _ _ _ _ l.i (omega arith) l.invariant;
      quotient = quotient_lem _ _ _ _ l.i (omega arith) l.invariant (search rules);
      field = refl;
    }
