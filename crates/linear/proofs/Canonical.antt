-- The base and the directions of an affine equation (`Canonical`). Where the roots are one of them moved by each direction, and sums of
-- directions are directions (`Coset`): the searches find them (`is_canonical`), and nothing else is them (`canonical_only`). Assumes nothing.
use mathlib.Core.Path.{◌≡◌, refl, sym, ap, ◌∙◌, subst}
use mathlib.Core.Logic.{◌↔◌, ◌≢◌}
use mathlib.Core.Bool.{Bool, true, false, true≢false}
use mathlib.Core.List.{List}
use Prim.Native.Nat.{ℕ, ◌^◌, ◌≤◌, ◌<◌}
use native.Mathlib.Omega.{arith}
use native.Mathlib.Decide.{dec_le}
use lib.ListN.{length, get_or}
use lib.Pow.{pow_pos, pow-lt}
use Rattle.algebra.specs.Lists.{Ascending}
use Rattle.algebra.specs.Search.{first, some_below}
use Rattle.algebra.proofs.Search.{first_is, first_below, some_yes}
use Rattle.binary.specs.Xor.{◌⊕◌, Degree}
use Rattle.binary.specs.Bit.{bit}
use Rattle.binary.proofs.Xor.{xor_twice, xor_lt, degree_unique}
use Rattle.linear.specs.Directions.{directions_from, choose}
use Rattle.linear.proofs.Order.{clear_if_least}
use Rattle.linear.proofs.Choose.{choose_pow, choose_all}
use Rattle.linear.proofs.Listed.{Listed, listed_unique, listed_search, listed_place, degree_lt}
use Rattle.linear.proofs.Echelon.{Echelon, TopsClear, tops_clear, echelon_ascending, echelon_of, choose_degree}
use Rattle.linear.proofs.Subspace.{Entries, Covers, listed_echelon, every_choice, echelon_listed}

-- the roots are one of them, moved by each direction; sums of directions are directions
pub record Coset (m : ℕ) (g f : ℕ → Bool) : Type 0 where
  pub origin : f 0 ≡ true
  pub sum : (x y : ℕ) → x < 2 ^ m → y < 2 ^ m → f x ≡ true → f y ≡ true → f (x ⊕ y) ≡ true
  pub moved : (x y : ℕ) → x < 2 ^ m → y < 2 ^ m → g x ≡ true → g (x ⊕ y) ≡ f y

-- the base is the smallest root; the directions ascend; a direction's highest bit is clear in the base and in the other directions; "the
-- roots are the base combined by exclusive or with each choice of directions"
pub record Canonical (m : ℕ) (g : ℕ → Bool) (b : ℕ) (ds : List ℕ) : Type 0 where
  pub below : b < 2 ^ m
  pub root : g b ≡ true
  pub least : (x : ℕ) → x < 2 ^ m → g x ≡ true → b ≤ x
  pub ascending : Ascending ds
  pub tops : (i : ℕ) → i < length ds → (t : ℕ) × (t < m) × Degree t (get_or ds i 0) × (bit t b ≡ 0)
      × ((j : ℕ) → j < length ds → j ≢ i → bit t (get_or ds j 0) ≡ 0)
  pub roots : (x : ℕ) → x < 2 ^ m → (g x ≡ true) ↔ ((k : ℕ) × (k < 2 ^ length ds) × (x ≡ b ⊕ choose ds k))

-- ---- the searches find them

module _ (g : ℕ → Bool) (n : ℕ) where
  first_least : (x : ℕ) → g x ≡ true → first g n ≤ x
  first_least x e = go (dec_le (first g n) x)
    where
      go : Dec (first g n ≤ x) → first g n ≤ x
      go (yes l) = l
      go (no l) = absurd (true≢false (sym e ∙ (first_below g n).before x (omega arith) (omega arith)))

  first_lt : some_below g n ≡ true → first g n < n
  first_lt e = let r = some_yes g n e in omega (arith, r.1, first_least r.0 r.2)

module _ (m : ℕ) (g f : ℕ → Bool) (c : Coset m g f) where
  abbrev found : List ℕ
  found = directions_from f m 0

  listed : Listed (λ x. f x ≡ true) m 0 found
  listed = listed_search f m

  echelon : Echelon 0 found
  echelon = listed_echelon c.sum listed

  -- a choice of directions is a direction
  direction : (k : ℕ) → (choose found k < 2 ^ m) × (f (choose found k) ≡ true)
  direction =
      choose_all (λ (x : ℕ). (x < 2 ^ m) × (f x ≡ true)) (pow_pos m, c.origin)
      (λ x y p q. (xor_lt m p.0 q.0, c.sum x y p.0 q.0 p.1 q.1)) found
      (λ i l. let q = listed_place listed i l in (degree_lt q.2 q.3.degree, q.3.inside))

  module _ (b : ℕ) (l : b < 2 ^ m) (r : g b ≡ true) (h : (x : ℕ) → x < 2 ^ m → g x ≡ true → b ≤ x) where
    -- a direction moves the base to a root, which is no smaller
    base_clear : (t d : ℕ) → t < m → Degree t d → f d ≡ true → bit t b ≡ 0
    base_clear t d w k e =
        let u = degree_lt w k in
        clear_if_least t b d k (h (b ⊕ d) (xor_lt m l u) (c.moved b d l u r ∙ e))

    -- a root is the base moved by a direction
    to_choice : (x : ℕ) → x < 2 ^ m → g x ≡ true → (k : ℕ) × (k < 2 ^ length found) × (x ≡ b ⊕ choose found k)
    to_choice x w e =
        let u = xor_lt m l w in
        let q = every_choice c.sum listed (b ⊕ x) u (sym (c.moved b (b ⊕ x) l u r) ∙ ap g (xor_twice b x) ∙ e) in
        (q.0, q.1, sym (xor_twice b x) ∙ ap (λ (v : ℕ). b ⊕ v) q.2)

    of_choice : (k : ℕ) → g (b ⊕ choose found k) ≡ true
    of_choice k = c.moved b (choose found k) l (direction k).0 r ∙ (direction k).1

    canonical : Canonical m g b found
    canonical =
        record {
          below = l;
          root = r;
          least = h;
          ascending = echelon_ascending echelon;
          tops = λ i w. let q = listed_place listed i w in let d = q.3.degree in
              (q.0, q.2, d, base_clear q.0 (get_or found i 0) q.2 d q.3.inside, λ j u n. tops_clear echelon i j q.0 w u n d);
          roots = λ x w. (to_choice x w, λ q. ap g q.2 ∙ of_choice q.0);
        }

  pub is_canonical : some_below g (2 ^ m) ≡ true → Canonical m g (first g (2 ^ m)) (directions_from f m 0)
  is_canonical e =
      let l = first_lt g (2 ^ m) e in
      canonical (first g (2 ^ m)) l ((first_below g (2 ^ m)).holds (omega arith)) (λ x w k. first_least g (2 ^ m) x k)

-- ---- nothing else is them

module _ {m : ℕ} {g : ℕ → Bool} {b : ℕ} {ds : List ℕ} (a : Canonical m g b ds) where
  pub canonical_echelon : Echelon 0 ds
  canonical_echelon =
      echelon_of 0 ds a.ascending (λ i l. let q = a.tops i l in (q.0, omega arith, q.2, q.4))

  pub canonical_top : (i t : ℕ) → i < length ds → Degree t (get_or ds i 0) → t < m
  canonical_top i t l d = let q = a.tops i l in omega (arith, q.1, degree_unique t q.0 (get_or ds i 0) d q.2)

  pub base_tops_clear : TopsClear ds b
  base_tops_clear i t l d = let q = a.tops i l in rw (degree_unique t q.0 (get_or ds i 0) d q.2) q.3

  pub choice_lt : (k : ℕ) → choose ds k < 2 ^ m
  choice_lt =
      choose_all (λ (x : ℕ). x < 2 ^ m) (pow_pos m) (λ x y p q. xor_lt m p q) ds
      (λ i l. let q = a.tops i l in degree_lt q.1 q.2)

pub canonical_only : (m : ℕ) (g f : ℕ → Bool) → Coset m g f → {b : ℕ} {ds : List ℕ} → Canonical m g b ds
    → (b ≡ first g (2 ^ m)) × (ds ≡ directions_from f m 0)
canonical_only m g f c {b} {ds} a = (
  sym (first_is g (2 ^ m) b a.below a.root (λ j l. no_root j l (g j) refl)),
  listed_unique (echelon_listed c.sum (canonical_echelon a) entries covers) (listed_search f m),
)
  where
    no_root : (j : ℕ) → j < b → (v : Bool) → g j ≡ v → v ≡ false
    no_root j l true e = absurd (omega (arith, a.least j (omega (arith, a.below)) e))
    no_root j l false e = refl

    entries : Entries (λ x. f x ≡ true) m ds
    entries i u l d = (
      canonical_top a i u l d,
      subst (λ (x : ℕ). f x ≡ true) (choose_pow ds i l)
          (sym (c.moved b (choose ds (2 ^ i)) a.below (choice_lt a (2 ^ i)) a.root)
          ∙ (a.roots (b ⊕ choose ds (2 ^ i)) (xor_lt m a.below (choice_lt a (2 ^ i)))).1 (2 ^ i, pow-lt l, refl)),
    )

    covers : Covers (λ x. f x ≡ true) m 0 ds
    covers x s k d h l =
        let w = degree_lt l d in
        let q = (a.roots (b ⊕ x) (xor_lt m a.below w)).0 (c.moved b x a.below w a.root ∙ k) in
        let e : x ≡ choose ds q.0 = sym (xor_twice b x) ∙ ap (λ (v : ℕ). b ⊕ v) q.2 ∙ xor_twice b (choose ds q.0) in
        choose_degree (canonical_echelon a) s q.0 q.1 (subst (Degree s) e d)
