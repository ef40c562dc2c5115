-- `turned` meets its contract. Assumes nothing.
use Rattle.std.proofs.Common.{◌≡◌, ℕ, ◌*◌, ◌/◌, ◌%◌, ◌^◌, sym, ap, ◌∙◌, bit_xor}
use Rattle.binary.specs.Block.{turn}
use Rattle.binary.proofs.Xor.{is_xor}
use Rattle.binary.proofs.inner.division.turned.Goals as goal

by-xor : (divisor rest t : ℕ) → t ≡ rest / 2 ^ 31 * divisor → (bit_xor rest t * 2) % 2 ^ 32 ≡ turn divisor rest
unfolding turn
by-xor divisor rest t e = ap (λ (x : ℕ). (x * 2) % 2 ^ 32) (ap (bit_xor rest) e ∙ sym (is_xor rest (rest / 2 ^ 31 * divisor)))

pub returns : goal.returns
returns c = by-xor c.args.divisor c.args.rest c.picked.result c.picked.ensures
