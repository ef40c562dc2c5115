-- `too_large` meets its contract. Assumes nothing.
use Rattle.std.proofs.Common.{sym, ap, ◌∙◌, ℕ, leb, ◌^◌}
use Rattle.binary.proofs.Factor.{degree_is}
use Rattle.field.specs.Refusal.{too_large}
use Rattle.field.proofs.inner.refusal.too_large.Goals as goal

pub returns : goal.returns
unfolding too_large
returns c =
    let a = c.args in
    ap (λ (x : ℕ). leb x a.a) (c.power_of_two.ensures ∙ ap (λ (k : ℕ). 2 ^ k) (sym (degree_is _ _ a.field.is_field.modulus.degree)))
