-- The places of a canonical base and directions: they ascend (`places_ascend`), are roots below 2 ^ m (`place_lt`, `place_root`), and are
-- every root (`places_are_roots`), so there are 2 ^ length of them (`root_count_lem`). Without a root: `no_roots`.
-- Assumes nothing.
use mathlib.Core.Path.{◌≡◌, refl, sym, ap, ◌∙◌, subst}
use mathlib.Core.Logic.{inl, inr}
use mathlib.Core.Bool.{Bool, true, false}
use mathlib.Core.List.{List, [], ◌∷◌, map}
use Prim.Native.Nat.{ℕ, ◌%◌, ◌^◌, ◌<◌}
use native.Mathlib.Nat.{mod-lt}
use native.Mathlib.Omega.{arith}
use lib.ListN.{length, length-map}
use lib.Dec.{T}
use lib.Pow.{pow_pos}
use Rattle.algebra.specs.Lists.{Member, count_up, keep}
use Rattle.algebra.specs.Search.{some_below}
use Rattle.algebra.proofs.Search.{some_not, is_true}
use Rattle.algebra.proofs.Onto.{of_map, to_map}
use Rattle.algebra.proofs.Ascending.{same_ascending}
use Rattle.algebra.proofs.CountUp.{of_count_up, to_count_up, count_up_ascending, count_up-length, kept_iff, kept_ascending, map_ascending}
use Rattle.binary.specs.Xor.{◌⊕◌}
use Rattle.binary.proofs.Xor.{xor_lt}
use Rattle.linear.specs.Directions.{choose}
use Rattle.linear.proofs.Choose.{choose_low}
use Rattle.linear.proofs.Echelon.{choices_ascend}
use Rattle.linear.proofs.Canonical.{Canonical, canonical_echelon, base_tops_clear, choice_lt}

module _ {m : ℕ} {g : ℕ → Bool} {b : ℕ} {ds : List ℕ} (a : Canonical m g b ds) where
  pub places_ascend : (k n : ℕ) → k < n → n < 2 ^ length ds → b ⊕ choose ds k < b ⊕ choose ds n
  places_ascend = choices_ascend (canonical_echelon a) b (base_tops_clear a)

  pub place_lt : (k : ℕ) → b ⊕ choose ds k < 2 ^ m
  place_lt k = xor_lt m a.below (choice_lt a k)

  pub place_root : (k : ℕ) → g (b ⊕ choose ds k) ≡ true
  place_root k =
      let n = k % 2 ^ length ds in
      (a.roots (b ⊕ choose ds k) (place_lt k)).1
      (n, mod-lt k (pow_pos (length ds)), ap (λ (x : ℕ). b ⊕ x) (sym (choose_low ds k)))

  pub places_are_roots : map (λ k. b ⊕ choose ds k) (count_up 0 (2 ^ length ds)) ≡ keep g (count_up 0 (2 ^ m))
  places_are_roots =
      same_ascending (map place numbers) (keep g (count_up 0 (2 ^ m)))
      (map_ascending place (2 ^ length ds) places_ascend numbers (count_up_ascending 0 (2 ^ length ds))
      (λ x h. omega (arith, of_count_up 0 (2 ^ length ds) x h)))
      (kept_ascending g (2 ^ m)) there back
    where
      place : ℕ → ℕ
      place k = b ⊕ choose ds k

      numbers : List ℕ
      numbers = count_up 0 (2 ^ length ds)

      there : (x : ℕ) → Member x (map place numbers) → Member x (keep g (count_up 0 (2 ^ m)))
      there x h =
          let q = of_map place numbers x h in
          let e = q.2 in
          (kept_iff g (2 ^ m) x).1 (omega (arith, place_lt q.0), subst T (sym (ap g e ∙ place_root q.0)) tt)

      back : (x : ℕ) → Member x (keep g (count_up 0 (2 ^ m))) → Member x (map place numbers)
      back x h =
          let q = (kept_iff g (2 ^ m) x).0 h in
          let r = (a.roots x q.0).0 (is_true (g x) q.1) in
          subst (λ (v : ℕ). Member v (map place numbers)) (sym r.2)
          (to_map place numbers r.0 (to_count_up 0 (2 ^ length ds) r.0 (omega arith) (omega (arith, r.1))))

  pub root_count_lem : length (keep g (count_up 0 (2 ^ m))) ≡ 2 ^ length ds
  root_count_lem =
      ap length (sym places_are_roots) ∙ length-map (count_up 0 (2 ^ length ds)) (λ k. b ⊕ choose ds k)
      ∙ count_up-length 0 (2 ^ length ds)

-- ---- no root

keep_none : (g : ℕ → Bool) (xs : List ℕ) → ((x : ℕ) → Member x xs → g x ≡ false) → keep g xs ≡ []
keep_none g [] h = refl
keep_none g (x ∷ xs) h = rw (keep, h x (inl refl)) (keep_none g xs (λ y k. h y (inr k)))

pub no_roots : (m : ℕ) (g : ℕ → Bool) → some_below g (2 ^ m) ≡ false → keep g (count_up 0 (2 ^ m)) ≡ []
no_roots m g e =
    keep_none g (count_up 0 (2 ^ m)) (λ x h. some_not g (2 ^ m) e x (omega (arith, of_count_up 0 (2 ^ m) x h)))
