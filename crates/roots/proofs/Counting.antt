-- How often x + r divides, one division a turn: k divisions are done, and those still to come make up the multiplicity. Assumes nothing.
use mathlib.Core.Path.{◌≡◌, refl, sym, ap, ◌∙◌}
use mathlib.Core.Logic.{◌≢◌}
use mathlib.Core.List.{List, [], ◌∷◌, ◌++◌}
use Prim.Native.Nat.{ℕ, suc, ◌+◌, ◌-◌, ◌≤◌, ◌<◌}
use native.Mathlib.Omega.{arith}
use lib.ListN.{length, length-append}
use Rattle.galois.specs.Polynomial.{value, without_root}
use Rattle.galois.specs.Multiplicity.{multiplicity_up_to, multiplicity}
use Rattle.galois.proofs.Divide.{without_root-length}
use Rattle.galois.proofs.Multiplicity.{at_root, at_other}
use Rattle.galois.proofs.Padding.{multiplicity_up_to_pad}

pub record Counting (p r : ℕ) (f left : List ℕ) (k : ℕ) : Type 0 where
  pub within : k ≤ length f
  pub long : length left ≡ length f
  pub whole : k + multiplicity_up_to p r (length f - k) left ≡ multiplicity p r f

pub counting_start : (p r : ℕ) (f : List ℕ) → Counting p r f f 0
unfolding multiplicity
counting_start p r f =
    let z : length f - 0 ≡ length f = omega arith in
    record { within = omega arith; long = refl; whole = let w : multiplicity_up_to p r (length f - 0) f ≡ multiplicity_up_to p r (length f) f = rw z in omega arith }

next_length : (p r : ℕ) (left : List ℕ) → 0 < length left → length (without_root p r left ++ 0 ∷ []) ≡ length left
next_length p r [] h = absurd (omega arith)
next_length p r (c ∷ left) h =
    let e = without_root-length p r c left in
    length-append (without_root p r (c ∷ left)) (0 ∷ []) ∙ omega arith

module _ (p r : ℕ) (f left : List ℕ) (k : ℕ) (l : k < length f) (over : ℕ) (e : over ≡ value p left r) (C : Counting p r f left k) where
  turns : length f - k ≡ suc (length f - (k + 1))
  turns = omega arith

  -- x + r does not divide
  pub counting_stop : over ≢ 0 → k ≡ multiplicity p r f
  counting_stop n =
      let z = at_other p r (length f - (k + 1)) left (λ w. n (e ∙ w)) in
      let w = rw turns at C.whole in
      omega (arith, z, w)

  -- it divides once more
  pub counting_next : (next : List ℕ) → over ≡ 0 → next ≡ without_root p r left ++ 0 ∷ [] → Counting p r f next (k + 1)
  counting_next next z n =
      let a = at_root p r (length f - (k + 1)) left (sym e ∙ z) in
      let b = multiplicity_up_to_pad p r (length f - (k + 1)) (without_root p r left) 1 in
      let w = rw turns at C.whole in
      record {
        within = omega arith;
        long = ap length n ∙ next_length p r left (omega (arith, C.long)) ∙ C.long;
        whole = rw n (omega (arith, a, b, w));
      }

pub counting_end : (p r : ℕ) (f left : List ℕ) (k : ℕ) → length f ≤ k → Counting p r f left k → k ≡ multiplicity p r f
unfolding multiplicity_up_to
counting_end p r f left k h C =
    let z : length f - k ≡ 0 = omega arith in
    let w = rw z at C.whole in
    omega (arith, w)
