-- The smallest member of K for each highest bit below m that has one, in order (`Listed`): only one list is that (`listed_unique`); it
-- turns on the numbers below 2 ^ m alone (`listed_same`); the search for directions finds it (`listed_search`, `directions_same`). Its
-- entries: `listed_length`, `listed_place`, `listed_entry`. Assumes nothing.
use mathlib.Core.Path.{◌≡◌, refl, sym, ap, ◌∙◌, subst}
use mathlib.Core.Logic.{◌↔◌}
use mathlib.Core.Bool.{Bool, true, false, not, true≢false}
use mathlib.Core.List.{List, [], ◌∷◌}
use Prim.Native.Nat.{ℕ, zero, suc, ◌+◌, ◌^◌, ◌≤◌, ◌<◌}
use native.Mathlib.Omega.{arith}
use native.Mathlib.Decide.{ℕ_discrete, dec_le}
use lib.ListN.{length, get_or}
use lib.Dec.{T, ltb, ltb→lt, nltb→le}
use lib.Pow.{pow_mono}
use Rattle.algebra.proofs.Search.{First, first_from_lem}
use Rattle.binary.specs.Xor.{Degree}
use Rattle.linear.specs.Directions.{smallest_at, in_front, directions_from}

-- d is the smallest of the numbers in K with the highest bit t
pub record Smallest (K : ℕ → Type 0) (t d : ℕ) : Type 0 where
  pub inside : K d
  pub degree : Degree t d
  pub least : (x : ℕ) → K x → Degree t x → d ≤ x

-- ds has the smallest one for each highest bit t .. m - 1 that has any, in order
pub data Listed (K : ℕ → Type 0) (m : ℕ) : ℕ → List ℕ → Type 0 where
  done : Listed K m m []
  skip : {t : ℕ} {ds : List ℕ} → ((x : ℕ) → K x → Degree t x → ⊥) → Listed K m (suc t) ds → Listed K m t ds
  keep : {t d : ℕ} {ds : List ℕ} → Smallest K t d → Listed K m (suc t) ds → Listed K m t (d ∷ ds)

pub listed_le : {K : ℕ → Type 0} {m t : ℕ} {ds : List ℕ} → Listed K m t ds → t ≤ m
listed_le done = omega arith
listed_le (skip n r) = omega (arith, listed_le r)
listed_le (keep s r) = omega (arith, listed_le r)

pub listed_length : {K : ℕ → Type 0} {m t : ℕ} {ds : List ℕ} → Listed K m t ds → length ds + t ≤ m
listed_length done = omega arith
listed_length (skip n r) = omega (arith, listed_length r)
listed_length (keep s r) = omega (arith, listed_length r)

-- the entry at place i is the smallest with its highest bit
pub listed_place : {K : ℕ → Type 0} {m t : ℕ} {ds : List ℕ} → Listed K m t ds → (i : ℕ) → i < length ds
    → (u : ℕ) × (t ≤ u) × (u < m) × Smallest K u (get_or ds i 0)
listed_place done i h = absurd (omega arith)
listed_place (skip n r) i h = let q = listed_place r i h in (q.0, omega (arith, q.1), q.2, q.3)
listed_place (keep {t = t} s r) zero h = (t, omega arith, listed_le r, s)
listed_place (keep s r) (suc i) h = let q = listed_place r i (omega arith) in (q.0, omega (arith, q.1), q.2, q.3)

-- a member's highest bit is an entry's
pub listed_entry : {K : ℕ → Type 0} {m t : ℕ} {ds : List ℕ} → Listed K m t ds → (x s : ℕ) → K x → Degree s x → t ≤ s → s < m
    → (i : ℕ) × (i < length ds) × Smallest K s (get_or ds i 0)
listed_entry done x s k d h l = absurd (omega arith)
listed_entry {K} {m} {t} {ds} (skip n r) x s k d h l = go (ℕ_discrete s t) (λ w. listed_entry r x s k d w l)
  where
    go : Dec (s ≡ t) → (t < s → (i : ℕ) × (i < length ds) × Smallest K s (get_or ds i 0)) → (i : ℕ) × (i < length ds) × Smallest K s (get_or ds i 0)
    go (yes e) w = absurd (n x k (subst (λ (u : ℕ). Degree u x) e d))
    go (no e) w = w (omega arith)
listed_entry {K} {m} {t} (keep {d = c} {ds = ds} p r) x s k d h l = go (ℕ_discrete s t) (λ w. listed_entry r x s k d w l)
  where
    go : Dec (s ≡ t) → (t < s → (i : ℕ) × (i < length ds) × Smallest K s (get_or ds i 0))
        → (i : ℕ) × (i < suc (length ds)) × Smallest K s (get_or (c ∷ ds) i 0)
    go (yes e) w = (0, omega arith, subst (λ (u : ℕ). Smallest K u c) (sym e) p)
    go (no e) w = let q = w (omega arith) in (suc q.0, omega (arith, q.1), q.2)

-- ---- one list only

at_end : {K : ℕ → Type 0} {m t : ℕ} {ds : List ℕ} → Listed K m t ds → t ≡ m → ds ≡ []
at_end done e = refl
at_end (skip n r) e = absurd (omega (arith, listed_le r))
at_end (keep s r) e = absurd (omega (arith, listed_le r))

after_skip : {K : ℕ → Type 0} {m t : ℕ} {ds : List ℕ} → Listed K m t ds → t < m → ((x : ℕ) → K x → Degree t x → ⊥) → Listed K m (suc t) ds
after_skip done h n = absurd (omega arith)
after_skip (skip _ r) h n = r
after_skip (keep s r) h n = absurd (n _ s.inside s.degree)

after-keep : {K : ℕ → Type 0} {m t d : ℕ} {ds : List ℕ} → Listed K m t ds → t < m → Smallest K t d
    → (es : List ℕ) × (ds ≡ d ∷ es) × Listed K m (suc t) es
after-keep done h s = absurd (omega arith)
after-keep (skip n r) h s = absurd (n _ s.inside s.degree)
after-keep {d = d} (keep {d = c} {ds = es} k r) h s =
    let e : c ≡ d = omega (arith, k.least d s.inside s.degree, s.least c k.inside k.degree) in
    (es, ap (λ (x : ℕ). x ∷ es) e, r)

pub listed_unique : {K : ℕ → Type 0} {m t : ℕ} {ds es : List ℕ} → Listed K m t ds → Listed K m t es → ds ≡ es
listed_unique done q = sym (at_end q refl)
listed_unique (skip n r) q = listed_unique r (after_skip q (listed_le r) n)
listed_unique (keep {d = d} s r) q =
    let p = after-keep q (listed_le r) s in
    ap (λ (l : List ℕ). d ∷ l) (listed_unique r p.2) ∙ sym p.1

-- ---- what is below 2 ^ m decides

pub degree_lt : {t m x : ℕ} → t < m → Degree t x → x < 2 ^ m
degree_lt h d = omega (arith, pow_mono h)

smallest_same : {K L : ℕ → Type 0} {m t d : ℕ} → t < m → ((x : ℕ) → x < 2 ^ m → K x ↔ L x) → Smallest K t d → Smallest L t d
smallest_same {d = d} h f s =
    record {
      inside = (f d (degree_lt h s.degree)).0 s.inside;
      degree = s.degree;
      least = λ x l k. s.least x ((f x (degree_lt h k)).1 l) k;
    }

pub listed_same : {K L : ℕ → Type 0} {m t : ℕ} {ds : List ℕ} → ((x : ℕ) → x < 2 ^ m → K x ↔ L x) → Listed K m t ds → Listed L m t ds
listed_same f done = done
listed_same f (skip n r) = skip (λ x l k. n x ((f x (degree_lt (listed_le r) k)).1 l) k) (listed_same f r)
listed_same f (keep s r) = keep (smallest_same (listed_le r) f s) (listed_same f r)

-- ---- the search

module _ (f : ℕ → Bool) where
  listed_from : (m n t : ℕ) → t + n ≡ m → Listed (λ x. f x ≡ true) m t (directions_from f n t)
  unfolding directions_from smallest_at in_front
  listed_from m zero t h = let e : m ≡ t = omega arith in subst (λ (x : ℕ). Listed (λ x. f x ≡ true) m x []) e done
  listed_from m (suc n) t h =
      go (ltb (smallest_at f t) (2 ^ suc t)) refl (first_from_lem f (2 ^ t) (2 ^ t)) (listed_from m n (suc t) (omega arith))
    where
      go : (b : Bool) → ltb (smallest_at f t) (2 ^ suc t) ≡ b → First f (2 ^ t) (2 ^ t) (smallest_at f t)
          → Listed (λ x. f x ≡ true) m (suc t) (directions_from f n (suc t))
          → Listed (λ x. f x ≡ true) m t (in_front b (smallest_at f t) (directions_from f n (suc t)))
      go true e s r =
          let l = ltb→lt (smallest_at f t) (2 ^ suc t) (subst T (sym e) tt) in
          keep
          (record {
            inside = s.holds (omega arith);
            degree = (s.from, l);
            least = λ x k d. pick x k d (dec_le (smallest_at f t) x);
          })
          r
        where
          pick : (x : ℕ) → f x ≡ true → Degree t x → Dec (smallest_at f t ≤ x) → smallest_at f t ≤ x
          pick x k d (yes l) = l
          pick x k d (no l) = absurd (true≢false (sym k ∙ s.before x d.0 (omega arith)))
      go false e s r =
          let l = nltb→le (smallest_at f t) (2 ^ suc t) (subst (λ (b : Bool). T (not b)) (sym e) tt) in
          skip (λ x k d. true≢false (sym k ∙ s.before x d.0 (omega arith))) r

  pub listed_search : (m : ℕ) → Listed (λ x. f x ≡ true) m 0 (directions_from f m 0)
  listed_search m = listed_from m m 0 (omega arith)

-- tests that agree below 2 ^ m find the same directions
pub directions_same : (f g : ℕ → Bool) (m : ℕ) → ((x : ℕ) → x < 2 ^ m → f x ≡ g x) → directions_from f m 0 ≡ directions_from g m 0
directions_same f g m h =
    listed_unique (listed_same (λ x l. (λ e. sym (h x l) ∙ e, λ e. h x l ∙ e)) (listed_search f m)) (listed_search g m)

pub directions_length : (f : ℕ → Bool) (m : ℕ) → length (directions_from f m 0) ≤ m
directions_length f m = omega (arith, listed_length (listed_search f m))
