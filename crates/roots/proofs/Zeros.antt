-- Zeros above the coefficients of an equation: no test sees them (`large_pad`, `zero_test_pad`), and the answer is the same (`solved_pad`).
-- What the test of all coefficients says (`all_zero_iff`), and that it never meets the one before it (`large_not_zero`). Assumes nothing.
use mathlib.Core.Path.{◌≡◌, sym, ap, ◌∙◌, subst}
use mathlib.Core.Logic.{◌↔◌}
use mathlib.Core.Bool.{true, false, false≢true}
use mathlib.Core.List.{List, [], ◌∷◌, ◌++◌}
use Prim.Native.Nat.{ℕ}
use borrow.Author.Tests.{eq-eqb}
use lib.Dec.{T, eqb, eqb→eq}
use lib.ListN.{length, get_or, replicate}
use lib.Pow.{pow_pos}
use Rattle.algebra.specs.Lists.{padded}
use Rattle.algebra.proofs.Onto.{map_alike}
use Rattle.algebra.proofs.Search.{every_below_lem, every_at, same_test, same_no}
use Rattle.binary.specs.Factor.{degree_of}
use Rattle.galois.specs.Field.{Field}
use Rattle.galois.specs.Polynomial.{Coeffs, AllZero}
use Rattle.galois.specs.Roots.{roots_of}
use Rattle.galois.specs.Multiplicity.{multiplicity}
use Rattle.galois.proofs.Padding.{roots_pad, multiplicity_pad, coeffs_pad, coeffs_front, pad_zero, zero_pad}
use Rattle.galois.proofs.Polynomial.{zero_at, zero_of}
use Rattle.field.specs.Refusal.{gives, any_too_large}
use Rattle.field.proofs.Coefficients.{coefficients_small, coefficients_pass}
use Rattle.roots.specs.Limits.{most_roots}
use Rattle.roots.specs.Calls.{all_zero, solved}

pub all_zero_iff : (f : List ℕ) → (all_zero f ≡ true) ↔ AllZero f
unfolding all_zero
all_zero_iff f = (
  λ e. zero_of f (λ i l. eqb→eq (get_or f i 0) 0 (subst T (sym (every_at (λ i. eqb (get_or f i 0) 0) (length f) e i l)) tt)),
  λ z. every_below_lem (λ i. eqb (get_or f i 0) 0) (length f) (λ i l. eq-eqb (get_or f i 0) 0 (zero_at f i z)),
)

pub not_all_zero : (f : List ℕ) → all_zero f ≡ false → AllZero f → ⊥
not_all_zero f e z = false≢true (sym e ∙ (all_zero_iff f).1 z)

pub nonzero_passes : (f : List ℕ) → (AllZero f → ⊥) → all_zero f ≡ false
nonzero_passes f n = same_test (all_zero f) false (λ e. absurd (n ((all_zero_iff f).0 e)), λ e. absurd (false≢true e))

pub large_pad : (p : ℕ) (f : List ℕ) (n : ℕ) → any_too_large p (f ++ replicate n 0) ≡ any_too_large p f
large_pad p f n =
    same_no (any_too_large p (f ++ replicate n 0)) (any_too_large p f) (
      λ e. coefficients_pass p f (coeffs_front (degree_of p) f n (coefficients_small p (f ++ replicate n 0) e)),
      λ e. coefficients_pass p (f ++ replicate n 0) (coeffs_pad (degree_of p) f n (coefficients_small p f e)),
    )

pub zero_test_pad : (f : List ℕ) (n : ℕ) → all_zero (f ++ replicate n 0) ≡ all_zero f
zero_test_pad f n =
    same_test (all_zero (f ++ replicate n 0)) (all_zero f) (
      λ e. (all_zero_iff f).1 (zero_pad f n ((all_zero_iff (f ++ replicate n 0)).0 e)),
      λ e. (all_zero_iff (f ++ replicate n 0)).1 (pad_zero f n ((all_zero_iff f).0 e)),
    )

-- roots and multiplicities
pub solved_pad : (m p : ℕ) → Field m p → (f : List ℕ) (n : ℕ) → (AllZero f → ⊥)
    → solved p (f ++ replicate n 0) (roots_of m p (f ++ replicate n 0)) ≡ solved p f (roots_of m p f)
solved_pad m p F f n z =
    let rs = roots_of m p f in
    ap (solved p (f ++ replicate n 0)) (roots_pad m p f n)
    ∙ ap (λ (ks : List ℕ). record { says = gives (length rs); roots = padded most_roots rs; multiplicities = padded most_roots ks })
    (map_alike (λ r. multiplicity p r (f ++ replicate n 0)) (λ r. multiplicity p r f) rs (λ r k. multiplicity_pad m p F r n f z))

-- 4 and 5 never meet: a coefficient that is too large is not 0
pub large_not_zero : (p : ℕ) (f : List ℕ) → any_too_large p f ≡ true → all_zero f ≡ false
large_not_zero p f e =
    nonzero_passes f (λ z. false≢true (sym (coefficients_pass p f (zero_coeffs (degree_of p) f z)) ∙ e))
  where
    zero_coeffs : (m : ℕ) (g : List ℕ) → AllZero g → Coeffs m g
    zero_coeffs m [] z = tt
    zero_coeffs m (c ∷ g) z = (rw z.0 (pow_pos m), zero_coeffs m g z.1)
