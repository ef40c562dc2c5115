-- What has passed the tests of an equation (`equation_ready`), and the part of it after its first coefficient. Assumes nothing.
use mathlib.Core.Path.{◌≡◌, refl, sym, subst₂}
use mathlib.Core.List.{List, [], ◌∷◌}
use Prim.Native.Nat.{ℕ, ◌+◌, ◌-◌, ◌≤◌}
use native.Mathlib.Omega.{arith}
use lib.ListN.{length, take, drop, length-drop}
use lib.Seq.{take_all}
use Rattle.binary.specs.Factor.{degree_of}
use Rattle.galois.specs.Polynomial.{Coeffs}
use Rattle.field.specs.Accepted.{Accepted}
use Rattle.field.specs.Refusal.{refusal, outcome, gives}
use Rattle.field.proofs.Tests.{passes, accepted}
use Rattle.arithmetic.specs.declared.inner.field.Field.{Field}
use Rattle.field.specs.Answers.{field_of}
use Rattle.field.proofs.Answered.{field_given}
use Rattle.field.proofs.Coefficients.{count_some, count_few, coefficients_small}
use Rattle.affine.specs.Equation.{Ready}
use Rattle.affine.specs.Calls.{equation_tests}

-- what has passed
equation_accepted : (p : ℕ) (cs : List ℕ) → refusal (equation_tests p cs) ≡ 0 → Accepted p
equation_accepted p cs e =
    let t = passes (equation_tests p cs) tt e in
    accepted p (rw (t.0, t.1.0) refl)

pub equation_ready : (p : ℕ) (cs : List ℕ) → refusal (equation_tests p cs) ≡ 0 → Ready (degree_of p) p cs
equation_ready p cs e =
    let t = passes (equation_tests p cs) tt e in
    let A = equation_accepted p cs e in
    record {
      field = A.ready;
      largest = A.largest;
      some = count_some (degree_of p + 1) (length cs) t.1.1.0;
      few = count_few (degree_of p + 1) (length cs) t.1.1.0;
      small = coefficients_small p cs t.1.1.1.0;
    }

-- a field that was handed on is ready
pub tested_ready : (p : ℕ) (cs : List ℕ) (f : Field) → gives (f.polynomial, f.degree) ≡ outcome (equation_tests p cs) (field_of p)
    → Ready f.degree f.polynomial cs
tested_ready p cs f e =
    let g = field_given p f (equation_tests p cs) e in
    subst₂ (λ (m q : ℕ). Ready m q cs) (sym g.degree) (sym g.polynomial) (equation_ready p cs g.passed)

pub ready_accepted : (p : ℕ) (cs : List ℕ) → Ready (degree_of p) p cs → Accepted p
ready_accepted p cs R = record { ready = R.field; largest = R.largest }

-- the part of the slice after the first coefficient
module _ (m p : ℕ) (cs : List ℕ) (R : Ready m p cs) where
  pub part_is : take (length cs - 1) (drop 1 cs) ≡ drop 1 cs
  part_is = take_all (length cs - 1) (drop 1 cs) (let e = length-drop 1 cs in omega arith)

  part_small : (ds : List ℕ) → Coeffs m ds → Coeffs m (drop 1 ds)
  part_small [] h = tt
  part_small (d ∷ ds) h = h.1

  pub part_ready : (length (take (length cs - 1) (drop 1 cs)) ≤ m) × Coeffs m (take (length cs - 1) (drop 1 cs))
  part_ready =
      rw part_is
      (let e = length-drop 1 cs in omega (arith, R.few), part_small cs R.small)
