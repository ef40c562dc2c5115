-- `keep` meets its contract. Assumes nothing.
use Rattle.std.proofs.Common.{arith}
use Rattle.frames.proofs.Keeping.{kept_between}
use Rattle.frames.proofs.OpenLine.keep.Goals as goal

pub returns-clause-bytes_after : goal.returns-clause-bytes_after
returns-clause-bytes_after c = kept_between _ c.args.self.now.length _ _ _ (omega arith) c.min-from.ensures c.min-fit.ensures c.copy_from_slice.ensures.after
