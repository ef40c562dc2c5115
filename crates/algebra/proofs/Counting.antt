-- B4, `fibres_sum`: how often f takes each value below k, added up over the values, is how many arguments there are. And no entry
-- of a list is above their sum (`entry_sum`). Assumes nothing.
use mathlib.Core.Path.{◌≡◌, refl, sym, ap, ap₂, ◌∙◌}
use mathlib.Core.List.{List, [], ◌∷◌}
use Prim.Native.Nat.{ℕ, zero, suc, ◌+◌, ◌≤◌, ◌<◌}
use native.Mathlib.Decide.{ℕ_discrete}
use native.Mathlib.Omega.{arith}
use lib.ListN.{get_or}
use Rattle.algebra.specs.Counts.{same, sum_below, fibre, sum_of}
use Rattle.algebra.proofs.Members.{same_refl, same_apart}

none_same : (v k : ℕ) → k ≤ v → sum_below (λ y. same v y) k ≡ 0
unfolding sum_below
none_same v zero h = refl
none_same v (suc k) h = let e = none_same v k (omega arith) in let s = same_apart v k (λ q. omega arith) in omega arith

one_same : (v k : ℕ) → v < k → sum_below (λ y. same v y) k ≡ 1
unfolding sum_below
one_same v zero h = absurd (omega arith)
one_same v (suc k) h = go (ℕ_discrete v k) (λ l. one_same v k l)
  where
    go : Dec (v ≡ k) → (v < k → sum_below (λ y. same v y) k ≡ 1) → sum_below (λ y. same v y) k + same v k ≡ 1
    go (yes e) ih =
        let s : same v k ≡ 1 = ap (same v) (sym e) ∙ same_refl v in
        let z = none_same v k (omega arith) in
        omega arith
    go (no n) ih = let s = same_apart v k n in let z = ih (omega arith) in omega arith

sum-add : (g h : ℕ → ℕ) (k : ℕ) → sum_below (λ y. g y + h y) k ≡ sum_below g k + sum_below h k
unfolding sum_below
sum-add g h zero = refl
sum-add g h (suc k) = let e = sum-add g h k in omega arith

sum-zero : (k : ℕ) → sum_below (λ y. 0) k ≡ 0
unfolding sum_below
sum-zero zero = refl
sum-zero (suc k) = let e = sum-zero k in omega arith

pub fibres_sum : (f : ℕ → ℕ) (n k : ℕ) → ((i : ℕ) → i < n → f i < k) → sum_below (fibre f n) k ≡ n
unfolding fibre sum_below
fibres_sum f zero k h = sum-zero k
fibres_sum f (suc n) k h =
    let a = sum-add (λ y. fibre f n y) (λ y. same (f n) y) k in
    let b = fibres_sum f n k (λ i l. h i (omega arith)) in
    let c = one_same (f n) k (h n (omega arith)) in
    a ∙ ap₂ ◌+◌ b c ∙ omega arith

pub entry_sum : (xs : List ℕ) (i : ℕ) → get_or xs i 0 ≤ sum_of xs
unfolding sum_of
entry_sum [] i = omega arith
entry_sum (x ∷ xs) zero = omega arith
entry_sum (x ∷ xs) (suc i) = omega (arith, entry_sum xs i)
