-- What has passed the tests of a list of coefficients: the count (`count_some`, `count_few`), and every coefficient is an element
-- (`coefficients_small`; `count_right` and `coefficients_pass` the other way). Assumes nothing.
use mathlib.Core.Path.{◌≡◌, sym, ◌∙◌}
use mathlib.Core.Bool.{false, false≢true, or-true}
use mathlib.Core.List.{List}
use Prim.Native.Nat.{ℕ, zero, suc, ◌^◌, ◌≤◌, ◌<◌}
use native.Mathlib.Decide.{ℕ_discrete, dec_lt}
use native.Mathlib.Omega.{arith}
use borrow.Author.Tests.{eq-eqb, lt-ltb, le-ltb, lt-leb}
use lib.Dec.{eqb, eqb-suc-zero}
use lib.ListN.{length, get_or}
use Rattle.algebra.proofs.Search.{some_not, some_none}
use Rattle.binary.specs.Factor.{degree_of}
use Rattle.galois.specs.Polynomial.{Coeffs}
use Rattle.galois.proofs.Polynomial.{coeff_at, coeffs_of}
use Rattle.field.specs.Refusal.{too_large, any_too_large, wrong_count}
use Rattle.field.proofs.Tests.{element_small}

pub coefficients_small : (p : ℕ) (cs : List ℕ) → any_too_large p cs ≡ false → Coeffs (degree_of p) cs
unfolding any_too_large
coefficients_small p cs e = coeffs_of (degree_of p) cs (λ i l. element_small p (get_or cs i 0) (some_not (λ i. too_large p (get_or cs i 0)) (length cs) e i l))

element_passes : (p a : ℕ) → a < 2 ^ degree_of p → too_large p a ≡ false
unfolding too_large
element_passes p a h = lt-leb (2 ^ degree_of p) a h

pub coefficients_pass : (p : ℕ) (cs : List ℕ) → Coeffs (degree_of p) cs → any_too_large p cs ≡ false
unfolding any_too_large
coefficients_pass p cs h =
    some_none (λ i. too_large p (get_or cs i 0)) (length cs) (λ i l. element_passes p (get_or cs i 0) (coeff_at (degree_of p) cs i h))

-- the count is right: not 0, and not above the most
pub count_some : (most n : ℕ) → wrong_count most n ≡ false → 0 < n
unfolding wrong_count
count_some most n e = go (ℕ_discrete n 0)
  where
    go : Dec (n ≡ 0) → 0 < n
    go (yes q) = absurd (false≢true (sym e ∙ rw (eq-eqb n 0 q)))
    go (no q) = omega arith

pub count_few : (most n : ℕ) → wrong_count most n ≡ false → n ≤ most
unfolding wrong_count
count_few most n e = go (dec_lt most n)
  where
    go : Dec (most < n) → n ≤ most
    go (yes q) = absurd (false≢true (sym e ∙ rw (lt-ltb most n q) (or-true (eqb n 0))))
    go (no q) = omega arith

pub count_right : (most n : ℕ) → 0 < n → n ≤ most → wrong_count most n ≡ false
unfolding wrong_count
count_right most zero h l = absurd (omega arith)
count_right most (suc n) h l = rw (eqb-suc-zero n) (le-ltb most (suc n) l)
