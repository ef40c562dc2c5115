-- `added` meets its contract. Assumes nothing.
use mathlib.Core.Path.{sym, ap, ◌∙◌}
use Prim.Native.Nat.{ℕ, ◌*◌}
use lib.Bits.{bit_xor}
use Rattle.binary.specs.Bit.{bit}
use Rattle.binary.proofs.Xor.{is_xor}
use Rattle.binary.proofs.Bit.{bit_lt}
use Rattle.linear.proofs.inner.elimination.added.Goals as goal

pub picked-requires : goal.picked-requires
picked-requires c = rw c.bit.ensures (bit_lt c.args.k c.args.row)

pub returns : goal.returns
returns c =
    let d = c.bit.ensures in
    ap (bit_xor c.args.row) (c.picked.ensures ∙ ap (λ (x : ℕ). x * c.args.pivot) d)
    ∙ sym (is_xor c.args.row (bit c.args.k c.args.row * c.args.pivot))
