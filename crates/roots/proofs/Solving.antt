-- From the roots found to the answer (`solve_answer_lem`). Assumes nothing.
use mathlib.Core.Path.{◌≡◌, ap₂, ◌∙◌}
use mathlib.Core.List.{List, map}
use Prim.Native.Nat.{ℕ}
use Rattle.algebra.specs.Lists.{padded}
use Rattle.binary.specs.Factor.{degree_of}
use Rattle.galois.specs.Roots.{roots_of}
use Rattle.galois.specs.Multiplicity.{multiplicity}
use Rattle.field.specs.Refusal.{refusal, gives}
use Rattle.field.proofs.Tests.{answered_by}
use Rattle.roots.specs.Limits.{most_coefficients}
use Rattle.roots.specs.Calls.{equation_tests, refused_answer, solved, solve_answer}
use Rattle.roots.specs.ShortList.{Placed}
use Rattle.roots.specs.declared.inner.short_list.ShortList.{ShortList}
use Rattle.roots.proofs.Tests.{solved-padded}

module _ (p : ℕ) (cs : List ℕ) (z : refusal (equation_tests p cs) ≡ 0) (m : ℕ) (d : m ≡ degree_of p) (f : List ℕ)
    (q : f ≡ padded most_coefficients cs) where
  pub solve_answer_lem : (found counts : ShortList) → Placed (roots_of m p f) found → Placed (map (λ k. multiplicity p k f) (roots_of m p f)) counts
      → record { says = gives found.count; roots = found.numbers; multiplicities = counts.numbers } ≡ solve_answer p cs
  solve_answer_lem found counts P Q =
      (λ i. record { says = gives (P.count i); roots = P.numbers i; multiplicities = Q.numbers i })
      ∙ ap₂ (λ (n : ℕ) (l : List ℕ). solved p l (roots_of n p l)) d q
      ∙ solved-padded p cs z
      ∙ answered_by refused_answer (solved p cs (roots_of (degree_of p) p cs)) (equation_tests p cs) z
