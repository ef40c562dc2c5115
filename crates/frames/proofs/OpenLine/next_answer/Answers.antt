-- `next_answer` meets its contract. Assumes nothing.
use Rattle.std.proofs.Common.{◌≡◌, ℕ, List, ap, sym, refl, ◌∙◌, length, arith}
use Rattle.std.proofs.Math.Seq.{take-length}
use Rattle.frames.specs.Limits.{most_digits}
use Rattle.frames.specs.Stream.{lengthened, kept_after}
use Rattle.frames.proofs.OneCall.{goes_on, line_ends}
use Rattle.frames.proofs.OpenLine.next_answer.Goals as goal

pub returns-in-None : goal.returns-in-None
returns-in-None c =
    let s = c.args.self.now in
    let chunk = c.args.chunk.now in
    let k = c.keep.ensures in
    let all = sym (take-length chunk) in
    let w = goes_on s.length s.bytes chunk _ _ _ c.in-None.ensures.value (k.length_value ∙ ap (λ (l : List ℕ). lengthened s.length (length l)) all) (k.bytes_after ∙ ap (kept_after s.length s.bytes) all) refl in
    record { taken_value = w.0; length_value = w.1.0; written_value = w.1.1.0; line_after = w.1.1.1.0; out_after = w.1.1.1.1.0; taken_in_bounds = w.1.1.1.1.1.0; counts = w.1.1.1.1.1.1 }

pub returns-in-Some : goal.returns-in-Some
returns-in-Some c =
    let s = c.args.self.now in
    let k = c.keep-in-Some.ensures in
    let p = c.put_answer-written.ensures in
    let feed = c.in-Some.ensures in
    let long : length s.bytes ≡ most_digits = omega arith in
    let w = line_ends s.length s.bytes c.args.chunk.now _ _ _ feed.value k.length_value k.bytes_after long _ (λ e. absurd (omega (arith, feed.in_bounds))) p.value p.out_after p.counts in
    record { taken_value = w.0; length_value = w.1.0; written_value = w.1.1.0; line_after = w.1.1.1.0; out_after = w.1.1.1.1.0; taken_in_bounds = w.1.1.1.1.1.0; counts = w.1.1.1.1.1.1 }
