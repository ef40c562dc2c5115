-- `new` meets its contract. Assumes nothing.
use Rattle.std.proofs.Common.{sym, refl, arith}
use Rattle.binary.proofs.Factor.{degree_is}
use Rattle.binary.proofs.Xor.{exp_lt}
use Rattle.binary.proofs.inner.modulo.Modulus.new.Goals as goal

pub invariant_of-result : goal.invariant_of-result
invariant_of-result c =
    let d = c.degree.ensures in
    let q = c.requires in
    record {
      is_modulus = record {
        degree = d;
        two = let h = exp_lt 2 _ _ q.0 d.1 in omega arith;
        fits = let h = exp_lt _ 31 _ d.0 q.1 in omega arith;
      };
    }

pub returns : goal.returns
returns c = (refl, sym (degree_is _ _ c.degree.ensures))
