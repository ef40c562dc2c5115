-- Finite sets as lists without repetition (B1, B2). `no_longer`: the pigeonhole; `fills`: as long as what holds it, it has every entry;
-- `total-same`: a total taken in any order is the same. Assumes nothing.
use mathlib.Core.Path.{◌≡◌, refl, sym, ap, ◌∙◌, subst}
use mathlib.Core.Logic.{◌≢◌, ◌⊎◌, inl, inr}
use mathlib.Core.List.{List, [], ◌∷◌}
use Prim.Native.Nat.{ℕ, suc, ◌≤◌}
use native.Mathlib.Decide.{ℕ_discrete}
use native.Mathlib.Omega.{arith}
use lib.ListN.{length}
use Rattle.algebra.specs.Lists.{Member, Nodup, Within}
use Rattle.algebra.specs.Counts.{same}

-- ys without its first x
unfoldable pub without : ℕ → List ℕ → List ℕ
without x [] = []
without x (y ∷ ys) = elim (ℕ_discrete x y) [ yes e ↦ ys | no n ↦ y ∷ without x ys ]

pub without_length : (x : ℕ) (ys : List ℕ) → Member x ys → length ys ≡ suc (length (without x ys))
unfolding without
without_length x [] h = absurd h
without_length x (y ∷ ys) h = go (ℕ_discrete x y) h (λ k. without_length x ys k)
  where
    go : (d : Dec (x ≡ y)) → (x ≡ y) ⊎ Member x ys → (Member x ys → length ys ≡ suc (length (without x ys)))
        → suc (length ys) ≡ suc (length {A = ℕ} (elim d as (λ (_ : Dec (x ≡ y)). List ℕ) [ yes e ↦ ys | no n ↦ y ∷ without x ys ]))
    go (yes e) k ih = refl
    go (no n) (inl e) ih = absurd (n e)
    go (no n) (inr k) ih = ap suc (ih k)

pub without_keeps : (x z : ℕ) (ys : List ℕ) → z ≢ x → Member z ys → Member z (without x ys)
unfolding without
without_keeps x z [] f h = h
without_keeps x z (y ∷ ys) f h = go (ℕ_discrete x y) h (λ k. without_keeps x z ys f k)
  where
    go : (d : Dec (x ≡ y)) → (z ≡ y) ⊎ Member z ys → (Member z ys → Member z (without x ys))
        → Member z (elim d as (λ (_ : Dec (x ≡ y)). List ℕ) [ yes e ↦ ys | no n ↦ y ∷ without x ys ])
    go (yes e) (inl k) ih = absurd (f (k ∙ sym e))
    go (yes e) (inr k) ih = k
    go (no n) (inl k) ih = inl k
    go (no n) (inr k) ih = inr (ih k)

-- the rest of a list without repetition, in the rest of what holds it
pub rest_within : (x : ℕ) (xs ys : List ℕ) → Nodup (x ∷ xs) → Within (x ∷ xs) ys → Within xs (without x ys)
rest_within x xs ys d w z h = without_keeps x z ys (λ e. d.0 (subst (λ (v : ℕ). Member v xs) e h)) (w z (inr h))

-- pigeons
pub no_longer : (xs ys : List ℕ) → Nodup xs → Within xs ys → length xs ≤ length ys
no_longer [] ys d w = omega arith
no_longer (x ∷ xs) ys d w =
    let e = without_length x ys (w x (inl refl)) in
    let r = no_longer xs (without x ys) d.1 (rest_within x xs ys d w) in
    omega arith

-- as long as what holds it: it has every entry
pub fills : (xs ys : List ℕ) → Nodup xs → Within xs ys → length ys ≤ length xs → Within ys xs
fills [] [] d w l y h = h
fills [] (z ∷ ys) d w l y h = absurd (omega arith)
fills (x ∷ xs) ys d w l y h =
    go (ℕ_discrete y x)
    (λ n. let e = without_length x ys (w x (inl refl)) in
    fills xs (without x ys) d.1 (rest_within x xs ys d w) (omega arith) y (without_keeps x y ys n h))
  where
    go : Dec (y ≡ x) → (y ≢ x → Member y xs) → (y ≡ x) ⊎ Member y xs
    go (yes e) k = inl e
    go (no n) k = inr (k n)

-- B2: the sum of h over a list, in any type with an operation that may be taken in any order
module _ (A : Type 0) (op : A → A → A) (unit : A) (h : ℕ → A) where
  abbrev pub total : List ℕ → A
  total [] = unit
  total (x ∷ xs) = op (h x) (total xs)

  module _ (swap : (a b c : A) → op a (op b c) ≡ op b (op a c)) where
    total_without : (x : ℕ) (ys : List ℕ) → Member x ys → total ys ≡ op (h x) (total (without x ys))
    unfolding without
    total_without x [] k = absurd k
    total_without x (y ∷ ys) k = go (ℕ_discrete x y) k (λ j. total_without x ys j)
      where
        go : (d : Dec (x ≡ y)) → (x ≡ y) ⊎ Member x ys → (Member x ys → total ys ≡ op (h x) (total (without x ys)))
            → op (h y) (total ys) ≡ op (h x) (total (elim d as (λ (_ : Dec (x ≡ y)). List ℕ) [ yes e ↦ ys | no n ↦ y ∷ without x ys ]))
        go (yes e) j ih = ap (λ (v : ℕ). op (h v) (total ys)) (sym e)
        go (no n) (inl e) ih = absurd (n e)
        go (no n) (inr j) ih = ap (op (h y)) (ih j) ∙ swap (h y) (h x) (total (without x ys))

    -- the same entries, none twice: the same sum
    pub total-same : (xs ys : List ℕ) → Nodup xs → Within xs ys → length ys ≤ length xs → total xs ≡ total ys
    total-same [] [] d w l = refl
    total-same [] (z ∷ ys) d w l = absurd (omega arith)
    total-same (x ∷ xs) ys d w l =
        let m = w x (inl refl) in
        let e = without_length x ys m in
        ap (op (h x)) (total-same xs (without x ys) d.1 (rest_within x xs ys d w) (omega arith)) ∙ sym (total_without x ys m)

pub same_refl : (a : ℕ) → same a a ≡ 1
unfolding same
same_refl a = go (ℕ_discrete a a)
  where
    go : (d : Dec (a ≡ a)) → ◌≡◌ {A = ℕ} (elim d as (λ (_ : Dec (a ≡ a)). ℕ) [ yes e ↦ 1 | no n ↦ 0 ]) 1
    go (yes e) = refl
    go (no n) = absurd (n refl)

pub same_apart : (a b : ℕ) → a ≢ b → same a b ≡ 0
unfolding same
same_apart a b f = go (ℕ_discrete a b)
  where
    go : (d : Dec (a ≡ b)) → ◌≡◌ {A = ℕ} (elim d as (λ (_ : Dec (a ≡ b)). ℕ) [ yes e ↦ 1 | no n ↦ 0 ]) 0
    go (yes e) = absurd (f e)
    go (no n) = refl
