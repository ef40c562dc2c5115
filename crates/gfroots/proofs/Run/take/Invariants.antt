-- Each call takes some of what is left of the chunk. Assumes nothing.
use Rattle.std.proofs.Common.{length}
use Rattle.gfroots.proofs.Run.take.Given as goal

abbrev pub decreases-loop-rest : goal.decreases-loop-rest
decreases-loop-rest l = length l.rest
