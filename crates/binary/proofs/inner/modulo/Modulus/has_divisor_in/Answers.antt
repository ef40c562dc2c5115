-- `has_divisor_in` meets its contract. Assumes nothing.
use Rattle.std.proofs.Common.{ℕ, suc, sym, ap, ◌∙◌, subst, arith}
use Rattle.algebra.proofs.Search.{some_same}
use Rattle.binary.specs.Remainder.{divides}
use Rattle.binary.specs.Xor.{Degree}
use Rattle.binary.specs.Block.{block}
use Rattle.binary.proofs.Xor.{exp_lt}
use Rattle.binary.proofs.Block.{alike}
use Rattle.binary.proofs.inner.modulo.Modulus.has_divisor_in.Goals as goal

pub some_divides-requires : goal.some_divides-requires
some_divides-requires c =
    let M = c.args.self.is_modulus in
    let B = c.args.candidates.is_block in
    let d = c.degree-k.ensures in
    let w = exp_lt c.degree-k.result (suc c.args.self.degree) c.args.candidates.first d.0 (omega (arith, c.requires, M.degree.1)) in
    record {
      degree = M.degree;
      fits = M.fits;
      most = omega arith;
      alike = λ i h. subst (Degree c.degree-k.result) (sym (B.are i h)) (alike c.degree-k.result B d i h);
    }

pub returns : goal.returns
returns c =
    c.some_divides.ensures
    ∙ some_same _ _ block (λ i h. ap (λ (x : ℕ). divides x c.args.self.polynomial) (c.args.candidates.is_block.are i h))
