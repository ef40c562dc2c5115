-- `put_answered` meets its contract. Assumes nothing.
use Rattle.std.proofs.Common.{ap, ◌∙◌, List, ℕ, length}
use Rattle.std.proofs.lemmas.List.Edits.{sets}
use Rattle.frames.specs.Text.{text}
use Rattle.frames.specs.Answer.{answer_text}
use Rattle.frames.proofs.Called.{line_refused, line_called}
use Rattle.frames.proofs.inner.call.put_answered.Goals as goal

pub returns-in-Some-clause-value : goal.returns-in-Some-clause-value
unfolding answer_text
returns-in-Some-clause-value c =
    let said = c.in-Some.ensures in
    let e = line_called c.args.line.now _ _ _ said.accepted said.kind said.polynomial (c.coefficients.ensures ∙ said.coefficients) in
    c.put_called.ensures.value ∙ ap (λ (bs : List ℕ). length (text bs)) e

pub returns-in-Some-clause-out_after : goal.returns-in-Some-clause-out_after
unfolding answer_text
returns-in-Some-clause-out_after c =
    let said = c.in-Some.ensures in
    let e = line_called c.args.line.now _ _ _ said.accepted said.kind said.polynomial (c.coefficients.ensures ∙ said.coefficients) in
    c.put_called.ensures.out_after ∙ ap (λ (bs : List ℕ). sets c.args.out.now 0 (text bs)) e

pub returns-in-None-clause-value : goal.returns-in-None-clause-value
unfolding answer_text
returns-in-None-clause-value c =
    c.put_malformed.ensures.value ∙ ap (λ (bs : List ℕ). length (text bs)) (line_refused c.args.line.now c.in-None.ensures)

pub returns-in-None-clause-out_after : goal.returns-in-None-clause-out_after
unfolding answer_text
returns-in-None-clause-out_after c =
    c.put_malformed.ensures.out_after ∙ ap (λ (bs : List ℕ). sets c.args.out.now 0 (text bs)) (line_refused c.args.line.now c.in-None.ensures)
