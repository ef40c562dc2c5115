-- The bit runs out. Assumes nothing.
use Rattle.everyroot.proofs.field.Field.product.Given as goal

abbrev pub decreases-loop-bit : goal.decreases-loop-bit
decreases-loop-bit l = l.bit
