-- `following` meets its contract. Assumes nothing.
use Rattle.std.proofs.Common.{◌≡◌, ℕ, ◌+◌, ◌^◌, ◌<◌, length, get_or, arith, rules}
use Rattle.binary.specs.Block.{block}
use Rattle.binary.proofs.Each.{called_at_each}
use Rattle.binary.proofs.inner.block.Block.following.Goals as goal

pub map-requires : goal.map-requires
map-requires c =
    let b = c.args.self.is_block in
    let long : length c.args.self.divisors ≡ block = search rules in
    let fits : (i : ℕ) → i < length c.args.self.divisors → get_or c.args.self.divisors i 0 + 8 < 2 ^ 32 = λ i l. let e = b.are i (omega (arith, l)) in omega (arith, e, l) in
    (search rules, (search rules, (search rules, called_at_each (λ i q l. let w = fits i l in search rules))))
