-- `answered` meets its contract. Assumes nothing.
use Rattle.std.proofs.Common.{◌∙◌}
use Rattle.frames.proofs.Called.{line_refused, line_called}
use Rattle.frames.proofs.inner.call.answered.Goals as goal

pub returns-in-Some : goal.returns-in-Some
returns-in-Some c =
    let said = c.in-Some.ensures in
    c.called.ensures ∙ line_called c.args.line.now _ _ _ said.accepted said.kind said.polynomial (c.coefficients.ensures ∙ said.coefficients)

pub returns-in-None : goal.returns-in-None
returns-in-None c = c.begun.ensures ∙ line_refused c.args.line.now c.in-None.ensures
