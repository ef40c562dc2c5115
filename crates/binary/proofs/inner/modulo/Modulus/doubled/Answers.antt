-- `doubled` meets its contract. Assumes nothing.
use Rattle.std.proofs.Common.{ℕ, ◌*◌, sym, ap, ◌∙◌, arith}
use Rattle.binary.specs.Xor.{◌⊕◌}
use Rattle.binary.proofs.Xor.{is_xor}
use Rattle.binary.proofs.Modulus.{times_x_is}
use Rattle.binary.proofs.inner.modulo.Modulus.doubled.Goals as goal

pub returns : goal.returns
returns c =
    let a = c.args in
    let f = a.self.is_modulus in
    sym (is_xor (a.x * 2) c.picked.result) ∙ ap (λ (v : ℕ). a.x * 2 ⊕ v) c.picked.ensures
    ∙ times_x_is a.self.degree a.self.polynomial f.degree a.x (omega (arith, f.two)) c.requires
