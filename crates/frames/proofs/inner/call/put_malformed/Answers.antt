-- `put_malformed` meets its contract. Assumes nothing.
use Rattle.std.proofs.Common.{ap, ℕ}
use Rattle.std.specs.Prelude.{slice_set}
use Rattle.frames.specs.Text.{capital}
use Rattle.frames.proofs.inner.call.put_malformed.Goals as goal

pub returns-clause-out_after : goal.returns-clause-out_after
unfolding capital
returns-clause-out_after c = ap (λ (x : ℕ). slice_set (slice_set (slice_set (slice_set c.args.out.now 0 70) 1 70) 2 48) 3 x) c.capital.ensures
