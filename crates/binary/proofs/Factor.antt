-- What the test of a field polynomial shows (A4): `degree_is`, `factor_free_lem` and `divisor_found` in terms of the test's definition,
-- `divides-times` that a remainder 0 is a factor, `test_irreducible` that a polynomial which passes is irreducible. Assumes nothing.
use Rattle.std.proofs.Common.{◌≡◌, ℕ, zero, suc, ◌-◌, ◌/◌, ◌^◌, ◌<◌, ◌≤◌, true, false, not, ltb, ◌≢◌, ◌↔◌, sym, ap, ◌∙◌, arith, pow_mono, le-ltb, lt-ltb, eq-eqb, ne_eqb}
use Rattle.std.proofs.lemmas.Bool.{false≢true}
use Rattle.algebra.proofs.Search.{first_is, every_below_lem, not_every_below}
use Rattle.binary.specs.Xor.{◌⊕◌, Degree}
use Rattle.binary.specs.Times.{times}
use Rattle.binary.specs.Remainder.{remainder, quotient, divides}
use Rattle.binary.specs.Factor.{degree_of, factor_free, Irreducible}
use Rattle.binary.proofs.Xor.{xor-zero, self_lt_power}
use Rattle.binary.proofs.Remainder.{division, remainder_of_multiple}

pub degree_is : (k a : ℕ) → Degree k a → degree_of a ≡ k
unfolding degree_of
degree_is k a h =
    first_is (λ k. ltb a (2 ^ suc k)) a k (let w = self_lt_power k in omega (arith, h.0)) (lt-ltb a (2 ^ suc k) h.1)
    (λ j l. le-ltb a (2 ^ suc j) (let w = pow_mono l in omega (arith, h.0)))

-- A4: a remainder 0 is a factor, and the other way round
pub divides-times : (k d p : ℕ) → Degree k d → (remainder p d ≡ 0) ↔ ((q : ℕ) × (times q d ≡ p))
divides-times k d p h = (
  λ z. (quotient p d, sym (xor-zero (times (quotient p d) d)) ∙ ap (λ (x : ℕ). times (quotient p d) d ⊕ x) (sym z) ∙ division k d h p),
  λ r. ap (λ (x : ℕ). remainder x d) (sym r.1) ∙ remainder_of_multiple k d h r.0,
)

-- every divisor tried, none divides
pub factor_free_lem : (m p : ℕ) → ((d : ℕ) → 2 ≤ d → d < 2 ^ suc (m / 2) → remainder p d ≢ 0) → factor_free m p ≡ true
unfolding factor_free
factor_free_lem m p h =
    every_below_lem (λ i. not (divides (suc (suc i)) p)) (2 ^ suc (m / 2) - 2)
    (λ i l. ap not (ne_eqb (remainder p (suc (suc i))) 0 (h (suc (suc i)) (omega arith) (omega arith))))

-- a divisor found
pub divisor_found : (m p d : ℕ) → 2 ≤ d → d < 2 ^ suc (m / 2) → remainder p d ≡ 0 → factor_free m p ≡ false
unfolding factor_free
divisor_found m p (suc (suc i)) l h z =
    not_every_below (λ i. not (divides (suc (suc i)) p)) (2 ^ suc (m / 2) - 2) i (omega arith) (ap not (eq-eqb (remainder p (suc (suc i))) 0 z))
divisor_found m p (suc zero) l h z = absurd (omega arith)
divisor_found m p zero l h z = absurd (omega arith)

pub test_irreducible : (m p : ℕ) → Degree m p → factor_free m p ≡ true → Irreducible m p
test_irreducible m p h t =
    record { degree = h; prime = λ d l k z. false≢true (sym (divisor_found m p d l k z) ∙ t) }
