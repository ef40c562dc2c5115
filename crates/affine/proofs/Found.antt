-- What the elimination found, in the terms of the calls' definitions: the answer (`none_is`, `some_is`), how many roots (`none_count`,
-- `count_is`), the root at a place (`place_is`), the listing (`listing_is`, `listing_ready`). Assumes nothing.
use mathlib.Core.Path.{◌≡◌, refl, sym, ap, ap₂, ◌∙◌}
use mathlib.Core.Bool.{Bool, true, false}
use mathlib.Core.List.{List, map}
use Prim.Native.Nat.{ℕ, ◌-◌, ◌^◌, ◌≤◌, ◌<◌}
use Rattle.std.specs.Prelude.{Option, Some, None}
use Rattle.std.proofs.lemmas.Option.{none-some}
use native.Mathlib.Omega.{arith}
use lib.Dec.{eqb}
use lib.ListN.{length, get_or, drop, replicate, get_or-append}
use lib.Pow.{pow_mono}
use Rattle.algebra.specs.Lists.{count_up}
use Rattle.algebra.specs.Search.{some_below}
use Rattle.algebra.proofs.CountUp.{map_same}
use Rattle.binary.specs.Xor.{◌⊕◌}
use Rattle.binary.proofs.Xor.{zero_xor}
use Rattle.binary.proofs.Additive.{Additive, additive_zero}
use Rattle.binary.specs.Factor.{degree_of}
use Rattle.field.specs.Refusal.{gives}
use Rattle.galois.specs.Field.{Field}
use Rattle.galois.specs.Affine.{linear_at}
use Rattle.galois.proofs.Affine.{linear_at-xor, affine_at-xor}
use Rattle.linear.specs.Limits.{places, width}
use Rattle.linear.specs.Directions.{choose}
use Rattle.linear.specs.Solution.{placed, Solutions, some_solutions, solution_if, solution_by}
use Rattle.linear.proofs.Choose.{choose_zeros}
use Rattle.linear.proofs.Listed.{degree_lt}
use Rattle.linear.proofs.Canonical.{Coset, Canonical, is_canonical}
use Rattle.linear.proofs.Places.{places_are_roots, root_count_lem, no_roots}
use Rattle.affine.specs.Equation.{is_root, is_direction, all_roots, base_of, directions_of, root_at, solution_of, Ready}
use Rattle.affine.specs.Calls.{solution}
use Rattle.affine.specs.Answers.{no_root}
use Rattle.affine.proofs.Matrix.{root_test, direction_test}

some_same : {A : Type 0} {x y : A} → Some x ≡ Some y → x ≡ y
some_same {A} {x} e = ap (λ (o : Option A). elim o [ Some v ↦ v | None ↦ x ]) e

-- the roots are one of them moved by each direction
pub coset : (m p : ℕ) → Field m p → (cs : List ℕ) → Coset m (is_root p cs) (is_direction p cs)
unfolding is_root is_direction
coset m p F cs =
    record {
      origin = (direction_test p cs 0).1 (additive_zero (linear_at p (drop 1 cs)) L);
      sum = λ x y hx hy a b. (direction_test p cs (x ⊕ y)).1 (L x y ∙ ap₂ ◌⊕◌ ((direction_test p cs x).0 a) ((direction_test p cs y).0 b) ∙ zero_xor 0);
      moved = λ x y hx hy a.
          ap (λ (v : ℕ). eqb v 0)
          (affine_at-xor m p F (get_or cs 0 0) (drop 1 cs) x y ∙ ap (λ (v : ℕ). v ⊕ linear_at p (drop 1 cs) y) ((root_test p cs x).0 a) ∙ zero_xor _);
    }
  where
    L : Additive (linear_at p (drop 1 cs))
    L = linear_at-xor m p F (drop 1 cs)

module _ (p : ℕ) (cs : List ℕ) where
  abbrev m : ℕ
  m = degree_of p

  abbrev found : Bool
  found = some_below (is_root p cs) (2 ^ m)

  abbrev base : ℕ
  base = base_of m p cs

  abbrev ds : List ℕ
  ds = directions_of m p cs

  is : solution_of p cs ≡ solution_if found base ds
  unfolding solution_of solution_by base_of directions_of
  is = refl

  -- no solution
  module _ (e : None ≡ solution_of p cs) where
    not_found : found ≡ false
    unfolding solution_if
    not_found = go found (e ∙ is)
      where
        go : (b : Bool) → None ≡ solution_if b base ds → b ≡ false
        go true h = absurd (none-some _ h)
        go false h = refl

    pub none_is : no_root ≡ solution found base ds
    none_is = ap (λ (b : Bool). solution b base ds) (sym not_found)

    pub none_count : length (all_roots m p cs) ≡ 0
    unfolding all_roots
    none_count = ap length (no_roots m (is_root p cs) not_found)

  -- a base and directions
  module _ (s : Solutions) (e : Some s ≡ solution_of p cs) where
    both : (found ≡ true) × (s ≡ some_solutions base ds)
    unfolding solution_if
    both = go found (e ∙ is)
      where
        go : (b : Bool) → Some s ≡ solution_if b base ds → (b ≡ true) × (s ≡ some_solutions base ds)
        go true h = (refl, some_same h)
        go false h = absurd (none-some _ (sym h))

    is_found : s ≡ some_solutions base ds
    is_found = both.1

    pub some_is : record { says = gives (record { found = true; dimension = s.count }); base = s.base; directions = s.directions } ≡ solution found base ds
    unfolding some_solutions
    some_is = rw (is_found, both.0) refl

    module _ (R : Ready (degree_of p) p cs) where
      F : Field m p
      F = R.field.field

      -- base and directions have the properties that a canonical answer has
      pub canonical : Canonical m (is_root p cs) base ds
      unfolding base_of directions_of
      canonical = is_canonical m (is_root p cs) (is_direction p cs) (coset m p F cs) both.0

      chosen : (k : ℕ) → s.base ⊕ choose s.directions k ≡ base ⊕ choose ds k
      unfolding some_solutions placed
      chosen k = rw is_found (ap (λ (x : ℕ). base ⊕ x) (choose_zeros ds (places - length ds) k))

      pub place_is : (n : ℕ) → s.base ⊕ choose s.directions n ≡ root_at m p cs n
      unfolding root_at
      place_is = chosen

      count_k : s.count ≡ length ds
      unfolding some_solutions
      count_k = ap (λ (s : Solutions). s.count) is_found

      pub listing_is : map (λ k. s.base ⊕ choose s.directions k) (count_up 0 (2 ^ s.count)) ≡ all_roots m p cs
      unfolding all_roots
      listing_is =
          map_same (λ k. s.base ⊕ choose s.directions k) (λ k. base ⊕ choose ds k) 0 (2 ^ s.count) (λ k l. chosen k)
          ∙ ap (λ (j : ℕ). map (λ k. base ⊕ choose ds k) (count_up 0 (2 ^ j))) count_k ∙ places_are_roots canonical

      pub count_is : 2 ^ s.count ≡ length (all_roots m p cs)
      unfolding all_roots
      count_is = ap (λ (j : ℕ). 2 ^ j) count_k ∙ sym (root_count_lem canonical)

      pub listing_ready : (s.base < 2 ^ width) × ((i : ℕ) → i < s.count → get_or s.directions i 0 < 2 ^ width)
      unfolding some_solutions placed
      listing_ready =
          let h : m ≤ width = omega (arith, R.largest) in
          let w = pow_mono h in
          let C = canonical in (
            rw is_found (omega (arith, C.below)),
            λ i l.
                let q : i < length ds = omega (arith, count_k) in
                let t = C.tops i q in
                rw (is_found, get_or-append ds (replicate (places - length ds) 0) 0 i q) (let d = degree_lt t.1 t.2 in omega arith),
          )
