-- `product` ends: the bits that are left run out. Assumes nothing.
use Rattle.trial.proofs.inner.plain.Field.product.Given as goal

abbrev pub decreases-loop-rest : goal.decreases-loop-rest
decreases-loop-rest l = l.rest
