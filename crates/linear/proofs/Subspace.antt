-- Where sums of members of K are members (`Sums`): the list of the smallest members is an echelon (`listed_echelon`) and each member is
-- one choice of it (`every_choice`); an echelon of members that has each member's highest bit is that list (`echelon_listed`).
-- Assumes nothing.
use mathlib.Core.Path.{◌≡◌, sym, ap₂, ◌∙◌, subst}
use mathlib.Core.List.{List, ◌∷◌}
use Prim.Native.Nat.{ℕ, zero, suc, ◌+◌, ◌-◌, ◌^◌, ◌≤◌, ◌<◌}
use native.Mathlib.Nat.{le_refl}
use native.Mathlib.Omega.{arith}
use native.Mathlib.Decide.{ℕ_discrete, dec_lt}
use lib.ListN.{length, get_or}
use lib.Pow.{pow_pos, pow-lt}
use Rattle.binary.specs.Xor.{◌⊕◌, Degree}
use Rattle.binary.specs.Bit.{bit}
use Rattle.binary.proofs.Xor.{ac, xor_twice, xor_lt, keep-top, same-top, exp_lt, degree_unique, has_degree, equal_of_xor}
use Rattle.binary.proofs.Bit.{lt_xor}
use Rattle.linear.specs.Directions.{choose}
use Rattle.linear.proofs.Order.{clear_if_least}
use Rattle.linear.proofs.Choose.{choose-zero, choose-xor, choose_pow}
use Rattle.linear.proofs.Listed.{Smallest, Listed, done, skip, keep, listed_place, listed_entry, degree_lt}
use Rattle.linear.proofs.Echelon.{Echelon, none, next, top_ge, tops_clear}

-- sums of members below 2 ^ m are members
abbrev pub Sums : ℕ → (ℕ → Type 0) → Type 0
Sums m K = (x y : ℕ) → x < 2 ^ m → y < 2 ^ m → K x → K y → K (x ⊕ y)

-- x is a sum of entries, those that the bits of k choose
abbrev pub Choice : List ℕ → ℕ → Type 0
Choice ds x = (k : ℕ) × (k < 2 ^ length ds) × (x ≡ choose ds k)

-- the highest bit of each member, from t on, is an entry's
abbrev pub Covers : (ℕ → Type 0) → ℕ → ℕ → List ℕ → Type 0
Covers K m t ds = (x s : ℕ) → K x → Degree s x → t ≤ s → s < m → (i : ℕ) × (i < length ds) × Degree s (get_or ds i 0)

-- each entry has its highest bit below m, and is a member
abbrev pub Entries : (ℕ → Type 0) → ℕ → List ℕ → Type 0
Entries K m ds = (i u : ℕ) → i < length ds → Degree u (get_or ds i 0) → (u < m) × K (get_or ds i 0)

-- each entry is the smallest member with its highest bit
abbrev Least : (ℕ → Type 0) → ℕ → List ℕ → Type 0
Least K m ds = (i u : ℕ) → i < length ds → Degree u (get_or ds i 0) → (u < m) × Smallest K u (get_or ds i 0)

module _ {K : ℕ → Type 0} {m : ℕ} (sums : Sums m K) where
  -- ---- from the list to the echelon

  smallest_clear : {t d u y : ℕ} → Smallest K t d → Smallest K u y → t < u → u < m → bit t y ≡ 0
  smallest_clear {t} {d} {u} {y} p q h l =
      let w : t < m = omega arith in
      clear_if_least t y d p.degree
      (q.least (y ⊕ d) (sums y d (degree_lt l q.degree) (degree_lt w p.degree) q.inside p.inside) (
        keep-top u y d q.degree.0 (degree_lt h p.degree),
        xor_lt (suc u) q.degree.1 (omega (arith, p.degree, pow-lt h)),
      ))

  pub listed_echelon : {t : ℕ} {ds : List ℕ} → Listed K m t ds → Echelon t ds
  listed_echelon r = go r (omega arith)
    where
      go : {t u : ℕ} {ds : List ℕ} → Listed K m u ds → t ≤ u → Echelon t ds
      go done h = none
      go (skip n r) h = go r (omega arith)
      go (keep s r) h =
          next h s.degree (λ i l. let q = listed_place r i l in smallest_clear s q.3 q.1 q.2) (go r (omega arith))

  -- below 2 ^ n: the highest bit is an entry's, and with that entry added x is smaller
  choice_below : {ds : List ℕ} → Listed K m 0 ds → (n x : ℕ) → n ≤ m → x < 2 ^ n → K x → Choice ds x
  choice_below {ds} r zero x h l k = let z = choose-zero ds in (0, pow_pos (length ds), omega arith)
  choice_below {ds} r (suc n) x h l k = go (dec_lt x (2 ^ n)) (choice_below r n)
    where
      moved : (i : ℕ) → i < length ds → Choice ds (x ⊕ get_or ds i 0) → Choice ds x
      moved i p q = (
        q.0 ⊕ 2 ^ i,
        xor_lt (length ds) q.1 (pow-lt p),
        sym (choose-xor ds q.0 (2 ^ i) ∙ ap₂ ◌⊕◌ (sym q.2) (choose_pow ds i p) ∙ (simp ac)),
      )

      go : Dec (x < 2 ^ n) → ((y : ℕ) → n ≤ m → y < 2 ^ n → K y → Choice ds y) → Choice ds x
      go (yes w) ih = ih x (omega arith) w k
      go (no w) ih =
          let e = listed_entry r x n k (omega arith, l) (omega arith) h in
          let d = e.2.degree in
          moved e.0 e.1
          (ih _ (omega arith) (same-top n x _ (omega arith, l) d)
          (sums x _ (degree_lt h (omega arith, l)) (degree_lt h d) k e.2.inside))

  pub every_choice : {ds : List ℕ} → Listed K m 0 ds → (x : ℕ) → x < 2 ^ m → K x → Choice ds x
  every_choice r x = choice_below r m x (le_refl m)

  -- ---- from the echelon to the list

  -- no member has its highest bit at t .. u - 1
  skips : {u : ℕ} {ds : List ℕ} → Listed K m u ds → (n t : ℕ) → t + n ≡ u → ((x s : ℕ) → K x → Degree s x → t ≤ s → s < u → ⊥) → Listed K m t ds
  skips {u} {ds} r zero t e h = let w : u ≡ t = omega arith in subst (λ (x : ℕ). Listed K m x ds) w r
  skips r (suc n) t e h =
      skip (λ x k d. h x t k d (omega arith) (omega arith)) (skips r n (suc t) (omega arith) (λ x s k d l w. h x s k d (omega arith) w))

  listed_by : {t : ℕ} {ds : List ℕ} → Echelon t ds → t ≤ m → Least K m ds → Covers K m t ds → Listed K m t ds
  listed_by {t} none h a c = skips done (m - t) t (omega arith) (λ x s k d l w. let q = c x s k d l w in omega arith)
  listed_by {t} (next {u = u} {d = v} {ds = ds} l d z r) h a c =
      let p = a 0 u (omega arith) d in
      skips (keep p.1 (listed_by r p.0 (λ i s j g. a (suc i) s (omega arith) g) (λ x s k g j w. later s j (c x s k g (omega arith) w))))
      (u - t) t (omega arith)
      (λ x s k g j w. let q = c x s k g j (omega (arith, p.0)) in
      omega (arith, top_ge (next {t = u} (omega arith) d z r) q.0 s q.1 q.2))
    where
      later : (s : ℕ) → u < s → (i : ℕ) × (i < suc (length ds)) × Degree s (get_or (v ∷ ds) i 0)
          → (i : ℕ) × (i < length ds) × Degree s (get_or ds i 0)
      later s j (zero, p, q) = absurd (omega (arith, degree_unique s u v q d))
      later s j (suc i, p, q) = (i, omega arith, q)

  module _ {ds : List ℕ} (e : Echelon 0 ds) (c : Covers K m 0 ds) (i u : ℕ) (l : i < length ds) (d : Degree u (get_or ds i 0)) (w : u < m)
      (k : K (get_or ds i 0)) where
    -- a member with the same highest bit differs from the entry at the highest bit s of another, which is clear in the entry
    differs : (x s j : ℕ) → Degree s (get_or ds i 0 ⊕ x) → s < u → j < length ds → Degree s (get_or ds j 0) → get_or ds i 0 < x
    differs x s j p h q g =
        let z = tops_clear e j i s q l (λ (f : i ≡ j). omega (arith, degree_unique s u (get_or ds i 0) (rw f g) d)) g in
        rw xor_twice at (lt_xor s (get_or ds i 0) (get_or ds i 0 ⊕ x) p z)

    entry_least : (x : ℕ) → K x → Degree u x → get_or ds i 0 ≤ x
    entry_least x n g = go (ℕ_discrete (get_or ds i 0 ⊕ x) 0)
      where
        go : Dec (get_or ds i 0 ⊕ x ≡ 0) → get_or ds i 0 ≤ x
        go (yes z) = omega (arith, equal_of_xor (get_or ds i 0) x z)
        go (no z) =
            let p = has_degree (get_or ds i 0 ⊕ x) z in
            let h = exp_lt p.0 u (get_or ds i 0 ⊕ x) p.1.0 (same-top u (get_or ds i 0) x d g) in
            let q = c (get_or ds i 0 ⊕ x) p.0 (sums (get_or ds i 0) x (degree_lt w d) (degree_lt w g) k n) p.1 (omega arith) (omega arith) in
            omega (arith, differs x p.0 q.0 p.1 h q.1 q.2)

  pub echelon_listed : {ds : List ℕ} → Echelon 0 ds → Entries K m ds → Covers K m 0 ds → Listed K m 0 ds
  echelon_listed {ds} e h c = listed_by e (omega arith) least c
    where
      least : Least K m ds
      least i u l d =
          let p = h i u l d in
          (p.0, record { inside = p.1; degree = d; least = entry_least e c i u l d p.0 p.1 })
