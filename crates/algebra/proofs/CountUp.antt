-- The numbers from k on, ascending: their entries, their order; what a test keeps of an ascending list and what an increasing function
-- makes of one. Assumes nothing.
use mathlib.Core.Path.{◌≡◌, refl, ap, ap₂, ◌∙◌}
use mathlib.Core.Logic.{◌⊎◌, inl, inr, ◌↔◌}
use mathlib.Core.Bool.{Bool, true, false}
use mathlib.Core.List.{List, [], ◌∷◌, map}
use Prim.Native.Nat.{ℕ, zero, suc, ◌+◌, ◌≤◌, ◌<◌}
use native.Mathlib.Decide.{ℕ_discrete}
use native.Mathlib.Omega.{arith}
use lib.Dec.{T}
use lib.ListN.{length, get_or}
use Rattle.algebra.specs.Lists.{Member, Ascending, count_up, keep}
use Rattle.algebra.proofs.Onto.{of_map, of_keep, to_keep}

pub of_count_up : (k n x : ℕ) → Member x (count_up k n) → (k ≤ x) × (x < k + n)
of_count_up k zero x h = absurd h
of_count_up k (suc n) x (inl e) = (omega arith, omega arith)
of_count_up k (suc n) x (inr h) = let r = of_count_up (suc k) n x h in (omega arith, omega arith)

pub to_count_up : (k n x : ℕ) → k ≤ x → x < k + n → Member x (count_up k n)
to_count_up k zero x h l = absurd (omega arith)
to_count_up k (suc n) x h l = go (ℕ_discrete x k) (λ g. to_count_up (suc k) n x g (omega arith))
  where
    go : Dec (x ≡ k) → (suc k ≤ x → Member x (count_up (suc k) n)) → (x ≡ k) ⊎ Member x (count_up (suc k) n)
    go (yes e) rest = inl e
    go (no f) rest = inr (rest (omega arith))

pub count_up_ascending : (k n : ℕ) → Ascending (count_up k n)
count_up_ascending k zero = tt
count_up_ascending k (suc n) = (λ y h. (of_count_up (suc k) n y h).0, count_up_ascending (suc k) n)

pub count_up-length : (k n : ℕ) → length (count_up k n) ≡ n
count_up-length k zero = refl
count_up-length k (suc n) = ap suc (count_up-length (suc k) n)

-- the entry at place i of a list made from them
pub map-count_up : (f : ℕ → ℕ) (k n i d : ℕ) → i < n → get_or (map f (count_up k n)) i d ≡ f (k + i)
map-count_up f k zero i d h = absurd (omega arith)
map-count_up f k (suc n) zero d h = ap f (omega arith)
map-count_up f k (suc n) (suc i) d h = map-count_up f (suc k) n i d (omega arith) ∙ ap f (omega arith)

-- two functions that agree on them make the same list
pub map_same : (f g : ℕ → ℕ) (k n : ℕ) → ((i : ℕ) → i < k + n → f i ≡ g i) → map f (count_up k n) ≡ map g (count_up k n)
map_same f g k zero h = refl
map_same f g k (suc n) h = ap₂ ◌∷◌ (h k (omega arith)) (map_same f g (suc k) n (λ i l. h i (omega arith)))

pub keep_ascending : (t : ℕ → Bool) (xs : List ℕ) → Ascending xs → Ascending (keep t xs)
keep_ascending t [] a = tt
keep_ascending t (x ∷ xs) a = go (t x) (keep_ascending t xs a.1)
  where
    go : (b : Bool) → Ascending (keep t xs) → Ascending (elim b as (λ (_ : Bool). List ℕ) [ true ↦ x ∷ keep t xs | false ↦ keep t xs ])
    go true r = (λ y h. a.0 y (of_keep t xs y h).0, r)
    go false r = r

-- the numbers below n that pass a test
pub kept_iff : (t : ℕ → Bool) (n x : ℕ) → Member x (keep t (count_up 0 n)) ↔ (x < n) × T (t x)
kept_iff t n x = (
  λ h. let r = of_keep t (count_up 0 n) x h in let b = of_count_up 0 n x r.0 in (omega arith, r.1),
  λ h. let l = h.0 in to_keep t (count_up 0 n) x (to_count_up 0 n x (omega arith) (omega arith)) h.1,
)

pub kept_ascending : (t : ℕ → Bool) (n : ℕ) → Ascending (keep t (count_up 0 n))
kept_ascending t n = keep_ascending t (count_up 0 n) (count_up_ascending 0 n)

-- a test that every entry passes
pub keep_all : (t : ℕ → Bool) (xs : List ℕ) → ((x : ℕ) → Member x xs → t x ≡ true) → keep t xs ≡ xs
keep_all t [] h = refl
keep_all t (x ∷ xs) h =
    ap₂ (λ (b : Bool) (l : List ℕ). elim b as (λ (_ : Bool). List ℕ) [ true ↦ x ∷ l | false ↦ l ]) (h x (inl refl))
    (keep_all t xs (λ y k. h y (inr k)))

-- tests that agree on every entry keep the same
pub keep_alike : (t u : ℕ → Bool) (xs : List ℕ) → ((x : ℕ) → Member x xs → t x ≡ u x) → keep t xs ≡ keep u xs
keep_alike t u [] h = refl
keep_alike t u (x ∷ xs) h =
    ap₂ (λ (b : Bool) (l : List ℕ). elim b as (λ (_ : Bool). List ℕ) [ true ↦ x ∷ l | false ↦ l ]) (h x (inl refl))
    (keep_alike t u xs (λ y k. h y (inr k)))

-- a function that keeps the order keeps a list ascending
pub map_ascending : (f : ℕ → ℕ) (n : ℕ) → ((k j : ℕ) → k < j → j < n → f k < f j) → (xs : List ℕ) → Ascending xs
    → ((x : ℕ) → Member x xs → x < n) → Ascending (map f xs)
map_ascending f n h [] a b = tt
map_ascending f n h (x ∷ xs) a b = (
  λ y k. let r = of_map f xs y k in let l = h x r.0 (a.0 r.0 r.1) (b r.0 (inr r.1)) in let e = r.2 in omega arith,
  map_ascending f n h xs a.1 (λ z k. b z (inr k)),
)
