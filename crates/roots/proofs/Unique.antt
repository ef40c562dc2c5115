-- Any two answers that a promise permits are the same one (`one_roots`, `one_built`). Assumes nothing.
use Rattle.std.proofs.Common.{◌≡◌, ◌≢◌, ap, arith, ℕ, List}
use Rattle.std.specs.Prelude.{Result, Ok, Err}
use Rattle.field.specs.declared.refused.Refusal.{Refusal}
use Rattle.field.specs.Refusal.{turned_down, gives}
use Rattle.field.proofs.Unique.{one_value, one_refusal}
use Rattle.roots.specs.Calls.{Answer, Built}
use Rattle.roots.specs.Answers.{of_roots, of_built}
use Rattle.roots.specs.declared.RootsAnswer.{RootsAnswer}

pub one_roots : (r s : RootsAnswer) → of_roots r ≡ of_roots s → r ≡ s
one_roots r s e =
    let c = one_value r.count s.count (ap (λ (a : Answer). a.says) e) in
    let a = ap (λ (a : Answer). a.roots) e in
    let b = ap (λ (a : Answer). a.multiplicities) e in
    λ i. record { count = c i; roots = a i; multiplicities = b i }

-- what an answer is: turned down by a number, or built
kind : Built → ℕ × ℕ
kind a = elim a.says [ turned_down n ↦ (0, n) | gives u ↦ (1, 0) ]

apart : {m n : ℕ} → m ≢ n → {A : Type 0} {j k : ℕ} → ◌≡◌ {A = ℕ × ℕ} (m, j) (n, k) → A
apart h e = absurd (h (ap (λ x. x.0) e))

pub one_built : (r s : Result (List ℕ) Refusal) → of_built r ≡ of_built s → r ≡ s
unfolding kind
one_built (Ok r) (Ok s) e = ap (λ (l : List ℕ). Ok l) (ap (λ (a : Built). a.coefficients) e)
one_built (Ok r) (Err s) e = apart (λ z. omega arith) (ap kind e)
one_built (Err r) (Ok s) e = apart (λ z. omega arith) (ap kind e)
one_built (Err r) (Err s) e = ap (λ (x : Refusal). Err x) (one_refusal r s (ap (λ (a : Built). (kind a).1) e))
