-- `picked` meets its contract: the mask is 0 or all ones. Assumes nothing.
use Rattle.std.proofs.Common.{◌≡◌, ℕ, ◌+◌, ◌-◌, ◌*◌, ◌%◌, ◌^◌, ◌<◌, ◌∙◌, mod-eq_of_lt, one-mul, zero-mul, arith, bit_and}
use lib.Bits.{and_zero_r, and_mask}
use Rattle.binary.proofs.Xor.{by_digit}
use Rattle.binary.proofs.inner.digit.picked.Goals as goal

masked : (x d : ℕ) → x < 2 ^ 32 → d < 2 → bit_and x ((0 + (2 ^ 32 - d)) % 2 ^ 32) ≡ d * x
masked x d h =
    by_digit (λ (d : ℕ). bit_and x ((0 + (2 ^ 32 - d)) % 2 ^ 32) ≡ d * x) (rw (and_zero_r, zero-mul)) (and_mask x 32 ∙ rw one-mul (mod-eq_of_lt h)) d

pub returns : goal.returns
returns c = masked c.args.x c.args.digit (omega arith) c.requires
