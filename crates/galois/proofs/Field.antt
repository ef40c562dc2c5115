-- GF(2^m) is a field (`field_laws`), and a ring for the normaliser (`ring`). Assumes nothing.
use Prim.Native.Nat.{ℕ, suc, ◌^◌, ◌<◌}
use native.Mathlib.Bridge.{le_prop}
use native.Mathlib.Omega.{arith}
use lib.Pow.{pow_pos, pow_mono}
use Rattle.binary.proofs.Xor.{xor-zero, xor_comm, xor_assoc, xor_self, xor_lt}
use Rattle.binary.specs.Product.{product}
use Rattle.binary.proofs.Product.{product_comm, product_lt, product_one, product-xor, product_assoc}
use Rattle.algebra.specs.Ring.{Ring2On}
use Rattle.binary.specs.Xor.{◌⊕◌}
use Rattle.binary.proofs.Inverse.{inverse, no_zero_divisors}
use Rattle.galois.specs.Field.{Field, FieldLaws}

module _ (m p : ℕ) (F : Field m p) where
  pub one_lt : 1 < 2 ^ m
  one_lt = let w = pow_mono F.pos in omega arith

  -- the ring for the normaliser: what `ring_on` is used with
  abbrev pub ring : Ring2On
  ring =
      record {
        carrier = ℕ;
        In = λ a. a < 2 ^ m;
        in_prop = λ a. le_prop {n = suc a} {m = 2 ^ m};
        add = ◌⊕◌;
        mul = product p;
        zer = 0;
        one = 1;
        add_in = λ a b ha hb. xor_lt m ha hb;
        mul_in = λ a b ha hb. product_lt m p F.irr.degree a b;
        zer_in = pow_pos m;
        one_in = one_lt;
        add_comm = λ a b ha hb. xor_comm a b;
        add_assoc = λ a b c ha hb hc. xor_assoc a b c;
        add_zer = λ a ha. xor-zero a;
        add_self = λ a ha. xor_self a;
        mul_comm = λ a b ha hb. product_comm p a b;
        mul_assoc = λ a b c ha hb hc. product_assoc m p F.irr.degree a b c;
        mul-one = λ a ha. product_one m p F.irr.degree a ha;
        mul-add = λ a b c ha hb hc. product-xor m p F.irr.degree a b c;
      }

  pub field_laws : FieldLaws m p
  field_laws =
      record {
        sum_lt = λ a b ha hb. xor_lt m ha hb;
        sum_comm = xor_comm;
        sum_assoc = xor_assoc;
        sum-zero = xor-zero;
        sum_self = xor_self;
        product_lt = product_lt m p F.irr.degree;
        product_comm = product_comm p;
        product_assoc = product_assoc m p F.irr.degree;
        product_one = product_one m p F.irr.degree;
        product-sum = product-xor m p F.irr.degree;
        one_element = one_lt;
        inverse = inverse m p F.irr;
        no_zero_divisors = no_zero_divisors m p F.irr;
      }
