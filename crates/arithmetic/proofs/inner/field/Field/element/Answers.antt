-- `element` meets its contract. Assumes nothing.
use Rattle.std.proofs.Common.{◌≡◌, ℕ, zero, suc, ◌-◌, ◌≤◌, ap, ◌∙◌, arith, pow_mono}
use Rattle.galois.specs.Power.{power}
use Rattle.arithmetic.specs.Number.{element_of}
use Rattle.arithmetic.proofs.inner.field.Field.element.Goals as goal

none : (p n : ℕ) → n ≡ 0 → 0 ≡ element_of p n
unfolding element_of
none p n e = rw e

some : (p n e : ℕ) → 1 ≤ n → e ≡ n - 1 → power p 2 e ≡ element_of p n
unfolding element_of
some p zero e l q = absurd (omega arith)
some p (suc n) e l q = let s : e ≡ n = omega arith in ap (power p 2) s

pub raised-requires : goal.raised-requires
raised-requires c = let w = pow_mono c.args.self.is_field.modulus.two in omega arith

pub returns-in-Some : goal.returns-in-Some
returns-in-Some c = let q = c.in-Some.ensures in c.raised.ensures ∙ some c.args.self.polynomial c.args.n c.in-Some.e q.0 q.1

pub returns-in-None : goal.returns-in-None
returns-in-None c = let q = c.in-None.ensures in none c.args.self.polynomial c.args.n (omega arith)
