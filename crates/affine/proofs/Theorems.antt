-- What the calls' definitions mean, for every accepted field polynomial p, its degree m a parameter, and every list of coefficients: the
-- roots, base and directions (`answer_canonical`, `answer_only`, `base_element`, `direction_element`), how many (`root_count_lem`), the places (`places_in_order`), equations that
-- are all zero (`all_zero_roots`). Assumes nothing.
use mathlib.Core.Path.{◌≡◌, sym, ap, ap₂, ◌∙◌, subst}
use mathlib.Core.Logic.{◌↔◌}
use mathlib.Core.Bool.{true, false}
use mathlib.Core.List.{List, [], ◌∷◌, map}
use Prim.Native.Nat.{ℕ, ◌^◌, ◌<◌}
use native.Mathlib.Omega.{arith}
use borrow.Author.Tests.{ltb-true}
use lib.Dec.{T}
use lib.ListN.{length, get_or, drop}
use Rattle.algebra.specs.Lists.{Member, Ascending, count_up}
use Rattle.algebra.specs.Search.{first, some_below}
use Rattle.algebra.proofs.Search.{is_true}
use Rattle.algebra.proofs.CountUp.{kept_iff, kept_ascending, keep_all, map-count_up}
use Rattle.binary.specs.Xor.{◌⊕◌}
use Rattle.binary.specs.Factor.{degree_of}
use Rattle.binary.proofs.Xor.{zero_xor}
use Rattle.galois.specs.Field.{Field}
use Rattle.galois.specs.Polynomial.{AllZero}
use Rattle.galois.specs.Affine.{affine_at}
use Rattle.galois.proofs.Affine.{linear_at-zero}
use Rattle.linear.proofs.Canonical.{Canonical, is_canonical, canonical_only}
use Rattle.linear.proofs.Listed.{listed_place, listed_search, degree_lt}
use Rattle.linear.proofs.Places as places
use Rattle.field.specs.Accepted.{Accepted}
use Rattle.affine.specs.Equation.{is_root, is_direction, all_roots, base_of, directions_of, root_at}
use Rattle.affine.proofs.Matrix.{root_test}
use Rattle.affine.proofs.Found.{coset}

all_zero_lem : (p : ℕ) (cs : List ℕ) (x : ℕ) → AllZero cs → affine_at p (get_or cs 0 0) (drop 1 cs) x ≡ 0
unfolding affine_at
all_zero_lem p [] x z = ap (λ (v : ℕ). 0 ⊕ v) (linear_at-zero p [] x tt) ∙ zero_xor 0
all_zero_lem p (c ∷ ls) x z = ap₂ ◌⊕◌ z.0 (linear_at-zero p ls x z.1) ∙ zero_xor 0

module _ (p : ℕ) (A : Accepted p) (cs : List ℕ) where
  abbrev m : ℕ
  m = degree_of p

  F : Field m p
  F = A.ready.field

  abbrev HasRoot : Type 0
  HasRoot = some_below (is_root p cs) (2 ^ m) ≡ true

  -- the list of all roots holds the roots and nothing else, ascending
  pub roots_exactly : (x : ℕ) → Member x (all_roots m p cs) ↔ (x < 2 ^ m) × (affine_at p (get_or cs 0 0) (drop 1 cs) x ≡ 0)
  unfolding all_roots
  roots_exactly x =
      let k = kept_iff (is_root p cs) (2 ^ m) x in (
        λ h. ((k.0 h).0, (root_test p cs x).0 (is_true (is_root p cs x) (k.0 h).1)),
        λ h. k.1 (h.0, subst T (sym ((root_test p cs x).1 h.1)) tt),
      )

  pub roots_ascending : Ascending (all_roots m p cs)
  unfolding all_roots
  roots_ascending = kept_ascending (is_root p cs) (2 ^ m)

  -- base and directions are as document 01 describes them: `Canonical` has its sentences one by one
  pub answer_canonical : HasRoot → Canonical m (is_root p cs) (base_of m p cs) (directions_of m p cs)
  unfolding base_of directions_of
  answer_canonical h = is_canonical m (is_root p cs) (is_direction p cs) (coset m p F cs) h

  -- and any base and directions so described are these
  pub answer_only : (b : ℕ) (ds : List ℕ) → Canonical m (is_root p cs) b ds → (b ≡ base_of m p cs) × (ds ≡ directions_of m p cs)
  unfolding base_of directions_of
  answer_only b ds C = canonical_only m (is_root p cs) (is_direction p cs) (coset m p F cs) C

  -- they are elements
  pub base_element : HasRoot → base_of m p cs < 2 ^ m
  unfolding base_of some_below
  base_element h = ltb-true (first (is_root p cs) (2 ^ m)) (2 ^ m) h

  pub direction_element : (i : ℕ) → i < length (directions_of m p cs) → get_or (directions_of m p cs) i 0 < 2 ^ m
  unfolding directions_of
  direction_element i l = let u = listed_place (listed_search (is_direction p cs) m) i l in degree_lt u.2 u.3.degree

  -- "2^k in all", and none where none is found
  pub root_count_lem : HasRoot → length (all_roots m p cs) ≡ 2 ^ length (directions_of m p cs)
  unfolding all_roots
  root_count_lem h = places.root_count_lem (answer_canonical h)

  pub no_root : some_below (is_root p cs) (2 ^ m) ≡ false → all_roots m p cs ≡ []
  unfolding all_roots
  no_root h = places.no_roots m (is_root p cs) h

  -- the places run through all roots, ascending, once
  pub places_in_order : HasRoot → map (root_at m p cs) (count_up 0 (2 ^ length (directions_of m p cs))) ≡ all_roots m p cs
  unfolding all_roots root_at
  places_in_order h = places.places_are_roots (answer_canonical h)

  pub place_of_list : HasRoot → (n : ℕ) → n < length (all_roots m p cs) → root_at m p cs n ≡ get_or (all_roots m p cs) n 0
  place_of_list h n l =
      sym (map-count_up (root_at m p cs) 0 (2 ^ length (directions_of m p cs)) n 0 (let e = root_count_lem h in omega arith) ∙ ap (root_at m p cs) (omega arith))
      ∙ ap (λ (x : List ℕ). get_or x n 0) (places_in_order h)

  pub places_ascend : HasRoot → (n k : ℕ) → n < k → k < length (all_roots m p cs) → root_at m p cs n < root_at m p cs k
  unfolding root_at
  places_ascend h n k l q = places.places_ascend (answer_canonical h) n k l (let e = root_count_lem h in omega arith)

  -- "all of them included: then every element is a root"
  pub all_zero_roots : AllZero cs → all_roots m p cs ≡ count_up 0 (2 ^ m)
  unfolding all_roots
  all_zero_roots z = keep_all (is_root p cs) (count_up 0 (2 ^ m)) (λ x h. (root_test p cs x).1 (all_zero_lem p cs x z))
