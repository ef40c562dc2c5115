-- `trace` meets its contract. Assumes nothing.
use Rattle.std.proofs.Common.{◌≡◌, refl, sym, ap, ap₂, ◌∙◌, ℕ, ◌+◌, ◌<◌, ◌^◌, add-one, arith, bit_xor}
use Rattle.binary.specs.Xor.{◌⊕◌}
use Rattle.binary.proofs.Xor.{is_xor}
use Rattle.binary.specs.Product.{product}
use Rattle.galois.specs.Field.{Field}
use Rattle.galois.specs.Power.{squares}
use Rattle.galois.proofs.Power.{squares_lt}
use Rattle.galois.specs.Trace.{part_trace}
use Rattle.arithmetic.proofs.inner.field.Field.trace.Invariants.{Traced}
use Rattle.arithmetic.proofs.inner.field.Field.trace.Goals as goal

start : (m p c : ℕ) → c < 2 ^ m → Traced m p c 0 c 0
unfolding squares part_trace
start m p c h = record { turns = omega arith; small = h; now = refl; so_far = refl }

turn : (m p c sum x k r : ℕ) → Field m p → c < 2 ^ m → k < m → Traced m p c sum x k → r ≡ product p x x → Traced m p c (bit_xor sum x) r (k + 1)
unfolding squares part_trace
turn m p c sum x k r F h l S e =
    let n : r ≡ squares p (k + 1) c = e ∙ ap (λ (v : ℕ). product p v v) S.now ∙ ap (λ (j : ℕ). squares p j c) (sym (add-one k)) in
    record {
      turns = omega arith;
      small = rw n (squares_lt m p F (k + 1) c h);
      now = n;
      so_far = sym (is_xor sum x) ∙ ap₂ ◌⊕◌ S.so_far S.now ∙ ap (λ (j : ℕ). part_trace p j c) (sym (add-one k));
    }

pub loop-init : goal.loop-init
loop-init c = start c.args.self.degree c.args.self.polynomial c.args.c c.requires

pub loop-preserved : goal.loop-preserved
loop-preserved c =
    let a = c.args in
    let q = c.requires in
    let l = c.loop in
    turn a.self.degree a.self.polynomial a.c l.sum l.x l.counter _ a.self.is_field.field q (omega arith) l.invariant c.product-x.ensures
