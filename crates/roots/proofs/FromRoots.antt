-- Building from the last root to the first: the roots from place i on are in, and the places above are 0. Assumes nothing.
use mathlib.Core.Path.{◌≡◌, refl, sym, ap, ap₂, ◌∙◌}
use mathlib.Core.List.{List, [], ◌∷◌, ◌++◌}
use Prim.Native.Nat.{ℕ, suc, ◌+◌, ◌-◌, ◌^◌, ◌≤◌, ◌<◌}
use native.Mathlib.Omega.{arith}
use lib.ListN.{length, get_or, take, drop, replicate, length-drop}
use lib.Seq.{drop-cons, drop-length, take_at, drop_at, drop-drop}
use Rattle.algebra.specs.Lists.{padded}
use Rattle.galois.specs.Field.{Field}
use Rattle.galois.specs.Polynomial.{with_root, build}
use Rattle.galois.proofs.Field.{one_lt}
use Rattle.galois.proofs.Polynomial.{coeff_at}
use Rattle.galois.proofs.Build.{build-length}
use Rattle.galois.proofs.Padding.{coeffs_pad}
use Rattle.roots.specs.Limits.{most_roots, most_coefficients}

pub record Built (p : ℕ) (rs f : List ℕ) (i : ℕ) : Type 0 where
  pub within : i ≤ length rs
  pub few : length rs ≤ most_roots
  pub so_far : f ≡ build p (drop i rs) ++ replicate (most_roots - (length rs - i)) 0

pub building_start : (p : ℕ) (rs f : List ℕ) → f ≡ 1 ∷ 0 ∷ 0 ∷ 0 ∷ 0 ∷ [] → length rs ≤ most_roots → Built p rs f (length rs)
unfolding build
building_start p rs f e h =
    let z : length rs - length rs ≡ 0 = omega arith in
    record { within = omega arith; few = h; so_far = e ∙ (rw (z, drop-length rs) refl) }

-- 1, in five places
pub one_small : (m p : ℕ) → Field m p → (i : ℕ) → get_or (1 ∷ 0 ∷ 0 ∷ 0 ∷ 0 ∷ []) i 0 < 2 ^ m
one_small m p F i = coeff_at m (1 ∷ 0 ∷ 0 ∷ 0 ∷ 0 ∷ []) i (coeffs_pad m (1 ∷ []) 4 (one_lt m p F, tt))

module _ (p : ℕ) (rs f : List ℕ) (i : ℕ) (B : Built p rs f i) where
  done_length : length (build p (drop i rs)) ≡ suc (length rs - i)
  done_length = build-length p (drop i rs) ∙ ap suc (length-drop i rs)

  pub building_next : (j : ℕ) (next : List ℕ) → i ≡ suc j
      → next ≡ with_root p (get_or rs j 0) (take (length rs - j) f) ++ drop (suc (length rs - j)) f → Built p rs next j
  unfolding build
  building_next j next e q =
      let n : suc (length rs - i) ≡ length rs - j = omega (arith, B.within) in
      let k : most_roots - (length rs - i) ≡ suc (most_roots - (length rs - j)) = omega (arith, B.within, B.few) in
      let o : length rs - j + 1 ≡ suc (length rs - j) = omega arith in
      let a = get_or rs j 0 in
      let F = build p (drop i rs) in
      let Z : List ℕ = replicate (most_roots - (length rs - i)) 0 in
      let front : take (length rs - j) f ≡ F = ap (take (length rs - j)) B.so_far ∙ take_at F Z (length rs - j) (done_length ∙ n) in
      let back : drop (suc (length rs - j)) f ≡ replicate (most_roots - (length rs - j)) 0 =
      sym (drop-drop 1 (length rs - j) f ∙ ap (λ (x : ℕ). drop x f) o)
      ∙ ap (drop 1) (ap (drop (length rs - j)) B.so_far ∙ drop_at F Z (length rs - j) (done_length ∙ n))
      ∙ ap (λ (x : ℕ). drop 1 (replicate x 0)) k in
      record {
        within = omega (arith, B.within);
        few = B.few;
        so_far = q ∙ ap₂ ◌++◌ (ap (with_root p a) (front ∙ ap (λ (x : ℕ). build p (drop x rs)) e)) back
            ∙ sym (ap (λ (l : List ℕ). build p l ++ replicate (most_roots - (length rs - j)) 0) (drop-cons rs j 0 (omega (arith, B.within))));
      }

  pub building_end : i ≤ 0 → f ≡ padded most_coefficients (build p rs)
  building_end h =
      let z : i ≡ 0 = omega arith in
      let n = build-length p rs in
      let k : most_roots - (length rs - 0) ≡ most_coefficients - length (build p rs) = omega arith in
      (rw z at B.so_far) ∙ ap (λ (x : ℕ). build p rs ++ replicate x 0) k
