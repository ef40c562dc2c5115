-- The degree, looked for from the highest place down: above place i every coefficient is 0. Assumes nothing.
use mathlib.Core.Path.{◌≡◌, ap, ◌∙◌}
use mathlib.Core.Logic.{◌≢◌}
use mathlib.Core.List.{List}
use Prim.Native.Nat.{ℕ, zero, suc, ◌≤◌, ◌<◌}
use native.Mathlib.Decide.{ℕ_discrete}
use native.Mathlib.Omega.{arith}
use lib.ListN.{length, get_or, get_or-eq_default}
use Rattle.galois.specs.Polynomial.{AllZero, IsDegree}
use Rattle.galois.proofs.Polynomial.{zero_of}

pub record Above (f : List ℕ) (i : ℕ) : Type 0 where
  pub within : i < length f
  pub zeros : (j : ℕ) → i < j → get_or f j 0 ≡ 0

pub above_start : (f : List ℕ) (i : ℕ) → suc i ≡ length f → Above f i
above_start f i e = record { within = omega arith; zeros = λ j l. get_or-eq_default f 0 (omega arith) }

module _ (f : List ℕ) (i : ℕ) where
  pub above_here : get_or f i 0 ≢ 0 → Above f i → IsDegree i f
  above_here n A = record { within = A.within; top = n; above = A.zeros }

  pub above_next : (k : ℕ) → i ≡ suc k → get_or f i 0 ≡ 0 → Above f i → Above f k
  above_next k e z A = record { within = omega (arith, A.within); zeros = λ j l. go j l (ℕ_discrete j i) }
    where
      go : (j : ℕ) → k < j → Dec (j ≡ i) → get_or f j 0 ≡ 0
      go j l (yes q) = ap (λ (n : ℕ). get_or f n 0) q ∙ z
      go j l (no q) = A.zeros j (omega arith)

  -- the constant, since not all are 0
  pub above_end : i ≤ 0 → (AllZero f → ⊥) → Above f i → IsDegree 0 f
  above_end h n A =
      let e : i ≡ 0 = omega arith in
      record {
        within = omega (arith, A.within);
        top = λ z. n (zero_of f (λ j l. all j z));
        above = λ j l. A.zeros j (omega arith);
      }
    where
      all : (j : ℕ) → get_or f 0 0 ≡ 0 → get_or f j 0 ≡ 0
      all zero z = z
      all (suc j) z = A.zeros (suc j) (omega arith)
