-- `number_of_element` meets its contract. Assumes nothing.
use Rattle.field.proofs.Answered.{element_in}
use Rattle.field.proofs.number_of_element.Goals as goal

pub number-requires : goal.number-requires
number-requires c = let a = c.args in element_in a.p c.in_ok-field.field a.a.0 c.in_ok-field.ensures
