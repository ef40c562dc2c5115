-- What acceptance means: `accept_exactly`, the range and no divisor of degree 1 to m - 1 at all, and nothing else; `house_accepted`, every
-- entry of the house table is accepted with the degree it stands under. Assumes nothing.
use mathlib.Core.Path.{◌≡◌, refl, sym, ap, ◌∙◌}
use mathlib.Core.Logic.{◌≢◌, ◌↔◌}
use mathlib.Core.Bool.{true}
use Prim.Native.Nat.{ℕ, zero, suc, ◌/◌, ◌≤◌, ◌<◌}
use native.Mathlib.Omega.{arith}
use lib.Pow.{pow_mono}
use Rattle.binary.specs.Xor.{Degree}
use Rattle.binary.specs.Times.{times}
use Rattle.binary.specs.Factor.{degree_of, factor_free}
use Rattle.binary.proofs.Xor.{has_degree, exp_lt}
use Rattle.binary.proofs.Inverse.{no_divisor}
use Rattle.binary.proofs.Factor.{degree_is, divides-times, factor_free_lem}
use Rattle.field.specs.Limits.{smallest_degree, largest_degree, polynomial_floor, polynomial_ceiling}
use Rattle.field.specs.Refusal.{turned_down, gives, answer_by, refusal, polynomial_tests}
use Rattle.field.specs.House.{house_entry}
use Rattle.field.specs.Calls.{accept_outcome}
use Rattle.field.proofs.Tests.{accepted, accepted_range, in_range, has_factor_lem, degree_of_lem, two_le}
use Rattle.field.proofs.HouseTable.{house_irreducible}

-- p in range, and no polynomial of degree 1 to m - 1 divides it
pub record Acceptable (p : ℕ) : Type 0 where
  pub floor : polynomial_floor ≤ p
  pub ceiling : p < polynomial_ceiling
  pub prime : (i d q : ℕ) → Degree i d → 1 ≤ i → i < degree_of p → times q d ≢ p

not_refused : (n v : ℕ) → answer_by n turned_down (gives v) ≡ gives v → n ≡ 0
not_refused zero v e = refl
not_refused (suc n) v e = let z : ◌≡◌ {A = ℕ} 0 1 = cc in absurd (omega arith)

-- no divisor at all is more than the test asks
free : (p : ℕ) → polynomial_floor ≤ p → ((i d q : ℕ) → Degree i d → 1 ≤ i → i < degree_of p → times q d ≢ p) → factor_free (degree_of p) p ≡ true
free p h none =
    let two = two_le p h in
    factor_free_lem (degree_of p) p (λ d l k z.
    let g = has_degree d (λ y. omega arith) in
    let low = exp_lt 1 (suc g.0) d l g.1.1 in
    let high = exp_lt g.0 (suc (degree_of p / 2)) d g.1.0 k in
    let r = (divides-times g.0 d p g.1).0 z in
    none g.0 d r.0 g.1 (omega arith) (omega arith) r.1)

pub accept_exactly : (p : ℕ) → (accept_outcome p ≡ gives (degree_of p)) ↔ Acceptable p
accept_exactly p = (only, if)
  where
    only : accept_outcome p ≡ gives (degree_of p) → Acceptable p
    only e =
        let z = not_refused (refusal (polynomial_tests p)) (degree_of p) e in
        let A = accepted p z in
        let R = accepted_range p z in
        record {
          floor = R.0;
          ceiling = R.1;
          prime = no_divisor (degree_of p) p A.ready.field.irr;
        }

    if : Acceptable p → accept_outcome p ≡ gives (degree_of p)
    if C =
        rw (in_range p C.floor C.ceiling, has_factor_lem (degree_of p) p true (degree_of_lem p C.floor) (sym (free p C.floor C.prime)))

pub house_accepted : (d : ℕ) → smallest_degree ≤ d → d ≤ largest_degree → accept_outcome (house_entry d) ≡ gives d
house_accepted d h l =
    let I = house_irreducible d h l in
    let e = degree_is d (house_entry d) I.degree in
    let low = pow_mono h in
    let g : suc d ≤ suc largest_degree = omega arith in
    let high = pow_mono g in
    let C : Acceptable (house_entry d) =
    record {
      floor = omega (arith, I.degree.0);
      ceiling = omega (arith, I.degree.1);
      prime = λ i c q k u v. no_divisor d (house_entry d) I i c q k u (omega arith);
    } in
    (accept_exactly (house_entry d)).1 C ∙ ap gives e
