-- `put_text` meets its contract. Assumes nothing.
use Rattle.std.proofs.Common.{sym, ap, ◌∙◌, List, ℕ, length, arith}
use Rattle.std.proofs.lemmas.List.Edits.{sets}
use Rattle.frames.specs.Text.{text}
use Rattle.frames.specs.Answer.{answer_text}
use Rattle.frames.specs.Stream.{held}
use Rattle.frames.proofs.Held.{held_front, held-length, long_answer}
use Rattle.frames.proofs.OpenLine.put_text.Goals as goal

pub returns-then-self-gt-MOST_DIGITS : goal.returns-then-self-gt-MOST_DIGITS
unfolding answer_text
returns-then-self-gt-MOST_DIGITS c =
    let s = c.args.self.now in
    let e = sym (long_answer (held s.length s.bytes) (omega (arith, held-length s.length s.bytes))) in
    let p = c.put_malformed.ensures in
    record { value = p.value ∙ ap (λ (bs : List ℕ). length (text bs)) e; out_after = p.out_after ∙ ap (λ (bs : List ℕ). sets c.args.out.now 0 (text bs)) e; upper_bound = p.upper_bound }

pub returns-else-self-gt-MOST_DIGITS : goal.returns-else-self-gt-MOST_DIGITS
returns-else-self-gt-MOST_DIGITS c =
    let s = c.args.self.now in
    let e = sym (held_front s.length s.bytes (omega arith)) in
    let p = c.put_answered.ensures in
    record { value = p.value ∙ ap (λ (l : List ℕ). length (answer_text l)) e; out_after = p.out_after ∙ ap (λ (l : List ℕ). sets c.args.out.now 0 (answer_text l)) e; upper_bound = p.upper_bound }
