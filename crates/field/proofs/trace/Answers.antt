-- `trace` meets its contract. Assumes nothing.
use Rattle.field.proofs.Answered.{element_in}
use Rattle.field.proofs.trace.Goals as goal

pub trace-requires : goal.trace-requires
trace-requires c = let a = c.args in element_in a.p c.in_ok-field.field a.c.0 c.in_ok-field.ensures
