-- What has passed the tests of an equation, or those of roots to build from (`equation_passed`, `five_ready`, `build_passed`); the answer is
-- that of the coefficients in five places (`solved-padded`). Assumes nothing.
use mathlib.Core.Path.{◌≡◌, refl, sym, ◌∙◌, subst}
use mathlib.Core.Bool.{false, false≢true}
use mathlib.Core.List.{List}
use Prim.Native.Nat.{ℕ, ◌-◌, ◌≤◌, ◌<◌}
use native.Mathlib.Decide.{dec_lt}
use native.Mathlib.Omega.{arith}
use borrow.Author.Tests.{lt-ltb}
use lib.Dec.{ltb}
use lib.ListN.{length}
use Rattle.algebra.specs.Lists.{padded}
use Rattle.binary.specs.Factor.{degree_of}
use Rattle.galois.specs.Polynomial.{Coeffs, AllZero}
use Rattle.galois.specs.Roots.{roots_of}
use Rattle.galois.proofs.Padding.{coeffs_pad, zero_pad}
use Rattle.field.specs.Accepted.{Accepted}
use Rattle.field.specs.Refusal.{refusal}
use Rattle.field.proofs.Tests.{passes, accepted}
use Rattle.field.proofs.Coefficients.{count_some, count_few, coefficients_small}
use Rattle.field.proofs.Ready.{ready}
use Rattle.roots.specs.Limits.{most_coefficients, most_roots}
use Rattle.roots.specs.Calls.{equation_tests, build_tests, solved}
use Rattle.roots.specs.Equation.{Ready}
use Rattle.roots.proofs.Zeros.{not_all_zero, solved_pad}

-- not above its bound
at_most : (n k : ℕ) → ltb n k ≡ false → k ≤ n
at_most n k e = go (dec_lt n k)
  where
    go : Dec (n < k) → k ≤ n
    go (yes q) = absurd (false≢true (sym e ∙ lt-ltb n k q))
    go (no q) = omega arith

-- an equation that is solved
pub record Passed (p : ℕ) (cs : List ℕ) : Type 0 where
  pub accepted : Accepted p
  pub some : 0 < length cs
  pub few : length cs ≤ most_coefficients
  pub small : Coeffs (degree_of p) cs
  pub nonzero : AllZero cs → ⊥

pub equation_passed : (p : ℕ) (cs : List ℕ) → refusal (equation_tests p cs) ≡ 0 → Passed p cs
equation_passed p cs e =
    let t = passes (equation_tests p cs) tt e in
    record {
      accepted = accepted p (rw (t.0, t.1.0) refl);
      some = count_some most_coefficients (length cs) t.1.1.0;
      few = count_few most_coefficients (length cs) t.1.1.0;
      small = coefficients_small p cs t.1.1.1.0;
      nonzero = not_all_zero cs t.1.1.1.1.0;
    }

pub five_ready : (p : ℕ) (cs : List ℕ) → refusal (equation_tests p cs) ≡ 0 → (m : ℕ) → m ≡ degree_of p → Ready m p (padded most_coefficients cs)
five_ready p cs e m d =
    let P = equation_passed p cs e in
    let l = P.accepted.largest in
    record {
      field = ready m p d P.accepted;
      largest = omega arith;
      small = coeffs_pad m cs (most_coefficients - length cs) (subst (λ (k : ℕ). Coeffs k cs) (sym d) P.small);
      nonzero = λ z. P.nonzero (zero_pad cs (most_coefficients - length cs) z);
    }

pub padded_ready : (m p : ℕ) (cs f : List ℕ) → refusal (equation_tests p cs) ≡ 0 → m ≡ degree_of p → f ≡ padded most_coefficients cs → Ready m p f
padded_ready m p cs f e d q = subst (Ready m p) (sym q) (five_ready p cs e m d)

pub build_passed : (p : ℕ) (rs : List ℕ) → refusal (build_tests p rs) ≡ 0 → Accepted p × (length rs ≤ most_roots) × Coeffs (degree_of p) rs
build_passed p rs e =
    let t = passes (build_tests p rs) tt e in
    (accepted p (rw (t.0, t.1.0) refl), at_most most_roots (length rs) t.1.1.0, coefficients_small p rs t.1.1.1.0)

-- roots and multiplicities are those of the coefficients in five places
pub solved-padded : (p : ℕ) (cs : List ℕ) → refusal (equation_tests p cs) ≡ 0
    → solved p (padded most_coefficients cs) (roots_of (degree_of p) p (padded most_coefficients cs)) ≡ solved p cs (roots_of (degree_of p) p cs)
solved-padded p cs e =
    let P = equation_passed p cs e in
    solved_pad (degree_of p) p P.accepted.ready.field cs (most_coefficients - length cs) P.nonzero
