-- `of_line` meets its contract. Assumes nothing.
use Rattle.std.proofs.Common.{sym, ap, ◌∙◌, take, length, arith}
use Rattle.frames.specs.Limits.{most_counted}
use Rattle.frames.specs.Frame.{coefficients_of}
use Rattle.frames.proofs.Digits.{digits_join, all_digits}
use Rattle.frames.proofs.Coefficients.{coefficient_count}
use Rattle.frames.proofs.Malformed.{well_formed, no_kind, some_kind, wrong_count, right_count}
use Rattle.frames.proofs.Called.{front_padded}
use Rattle.frames.proofs.inner.frame.Frame.of_line.Goals as goal

pub returns-in_err-kind : goal.returns-in_err-kind
returns-in_err-kind c =
    let line = c.args.line.now in
    rw c.from_residual-in_err-kind.ensures (no_kind line _ c.in_ok-byte_at.ensures.decodes.0 c.in_err-kind.ensures)

pub returns-then-line-count : goal.returns-then-line-count
returns-then-line-count c = wrong_count c.args.line.now _ c.in_ok-count.ensures.decodes.0 c.if-line-count.true

pub returns : goal.returns
returns c =
    let line = c.args.line.now in
    let count = c.in_ok-count.field-0 in
    let first = digits_join line 0 2 2 8 8 c.in_ok-byte_at.ensures.decodes.1 c.in_ok-polynomial.ensures.1 (omega arith) (omega arith) in
    let five = digits_join line 0 8 8 10 10 first c.in_ok-count.ensures.decodes.1 (omega arith) (omega arith) in
    let all = digits_join line 0 10 10 (length line) (length line) five c.in_ok-put_coefficients.ensures.1 (omega arith) (omega arith) in
    let kind = some_kind line c.in_ok-kind.kind _ c.in_ok-kind.ensures c.in_ok-byte_at.ensures.decodes.0 in
    let agrees = right_count line count c.in_ok-count.ensures.decodes.0 c.if-line-count.false in
    record {
      accepted = sym (well_formed line (omega arith) (λ e. absurd (omega arith)) (omega arith) (sym (all_digits line all)) (sym kind) (sym agrees));
      kind = c.in_ok-kind.ensures ∙ c.in_ok-byte_at.ensures.decodes.0;
      polynomial = c.in_ok-polynomial.ensures.0;
      coefficients = ap (take count) c.in_ok-put_coefficients.ensures.0 ∙ front_padded most_counted count (coefficients_of line) (coefficient_count line ∙ sym c.in_ok-count.ensures.decodes.0);
    }
