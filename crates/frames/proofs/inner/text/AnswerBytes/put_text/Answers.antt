-- `put_text` meets its contract. Assumes nothing.
use Rattle.std.proofs.Common.{◌≡◌, sym, ap, ◌∙◌, ℕ, length, take, arith, length-take-le}
use Rattle.frames.proofs.Writing.{put_none, put_next, put_text, text-length}
use Rattle.frames.specs.Text.{text, put_bytes}
use lib.Seq.{length-sets}
use Rattle.frames.proofs.Fitting.{counts_within}
use Rattle.frames.proofs.inner.text.AnswerBytes.put_text.Goals as goal

pub loop-i-init : goal.loop-i-init
loop-i-init c = put_none _ _

pub loop-i-preserved : goal.loop-i-preserved
loop-i-preserved c = put_next _ _ c.loop-i.i _ _ (omega arith) c.loop-i.invariant c.capital.ensures c.capital-in-loop-i.ensures

pub returns : goal.returns
returns c =
    let values = c.self.inside.values in
    let bytes = c.args.self.now in
    let all : c.loop-i.i ≡ c.self.inside.count = omega arith in
    let whole = ap (λ (k : ℕ). take k values) all ∙ c.self.view_is in
    let long = ap length (sym c.self.view_is) ∙ length-take-le c.self.inside.count values (omega arith) in
    let stored = put_text _ bytes (c.loop-i.invariant ∙ ap (put_bytes c.args.out.now 0) whole) in
    record {
      value = omega (arith, long, text-length bytes);
      out_after = stored;
      upper_bound = omega arith;
      counts = counts_within _ _ (omega (arith, ap length stored, length-sets c.args.out.now 0 (text bytes)));
    }
