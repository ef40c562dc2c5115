-- How many directions there can be: an equation whose highest term is x^(2^i) has at most i (`directions_at_most`). Assumes nothing.
use mathlib.Core.Path.{◌≡◌, sym, ap, ◌∙◌, subst}
use mathlib.Core.Logic.{◌≢◌}
use mathlib.Core.Bool.{true}
use mathlib.Core.List.{List, [], ◌∷◌, ◌++◌}
use Prim.Native.Nat.{ℕ, ◌^◌, ◌≤◌, ◌<◌}
use native.Mathlib.Omega.{arith}
use native.Mathlib.Decide.{dec_le}
use lib.ListN.{length}
use lib.Pow.{pow_pos, pow-lt}
use Rattle.algebra.specs.Search.{some_below}
use Rattle.algebra.proofs.Search.{some_one}
use Rattle.algebra.proofs.Ascending.{ascending_nodup}
use Rattle.binary.specs.Xor.{◌⊕◌}
use Rattle.binary.specs.Factor.{degree_of}
use Rattle.binary.proofs.Xor.{zero_xor}
use Rattle.binary.proofs.Additive.{additive_zero}
use Rattle.galois.specs.Polynomial.{Coeffs, AllZero}
use Rattle.galois.specs.Affine.{affine_at}
use Rattle.galois.proofs.Affine.{linear_at-xor, linear_at_zeros}
use Rattle.galois.proofs.AffineList.{affine_few}
use Rattle.field.specs.Accepted.{Accepted}
use Rattle.affine.specs.Equation.{is_root, is_direction, all_roots, directions_of}
use Rattle.affine.proofs.Matrix.{root_test}
use Rattle.affine.proofs.Theorems.{roots_exactly, roots_ascending, root_count_lem}

power_le : (a b : ℕ) → 2 ^ a ≤ 2 ^ b → a ≤ b
power_le a b h = go (dec_le a b)
  where
    go : Dec (a ≤ b) → a ≤ b
    go (yes l) = l
    go (no n) = let l : b < a = omega arith in absurd (let w = pow-lt l in omega arith)

module _ (p : ℕ) (A : Accepted p) where
  abbrev m : ℕ
  m = degree_of p

  -- highest term l·x^(2^i), i the number of coefficients ks before it; zeros may follow
  module _ (ks : List ℕ) (l : ℕ) (zs : List ℕ) (small : Coeffs m (0 ∷ (ks ++ l ∷ []))) (nonzero : l ≢ 0) (z : AllZero zs) where
    -- the same equation with constant 0, which has the root 0 and the same directions
    abbrev zeroed : List ℕ
    zeroed = 0 ∷ ((ks ++ l ∷ []) ++ zs)

    has_zero : some_below (is_root p zeroed) (2 ^ m) ≡ true
    unfolding affine_at
    has_zero =
        some_one (is_root p zeroed) (2 ^ m) 0 (pow_pos m)
        ((root_test p zeroed 0).1 (ap (λ (v : ℕ). 0 ⊕ v) (additive_zero _ (linear_at-xor m p A.ready.field ((ks ++ l ∷ []) ++ zs))) ∙ zero_xor 0))

    roots_few : length (all_roots m p zeroed) ≤ 2 ^ length ks
    unfolding affine_at
    roots_few =
        affine_few m p A.ready.field 0 ks l small nonzero (all_roots m p zeroed) (ascending_nodup (all_roots m p zeroed) (roots_ascending p A zeroed))
        (λ r h. let e = (roots_exactly p A zeroed r).0 h in
        (e.0, ap (λ (v : ℕ). 0 ⊕ v) (sym (linear_at_zeros p (ks ++ l ∷ []) zs r z)) ∙ e.1))

    pub directions_at_most : (c : ℕ) → length (directions_of m p (c ∷ ((ks ++ l ∷ []) ++ zs))) ≤ length ks
    unfolding directions_of is_direction
    directions_at_most c =
        power_le (length (directions_of m p zeroed)) (length ks) (subst (λ (n : ℕ). n ≤ 2 ^ length ks) (root_count_lem p A zeroed has_zero) roots_few)
