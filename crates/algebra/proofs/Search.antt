-- What a search finds (`first_from_lem`, `first_is`, `first_none`, `found`), and what a test of some or of all numbers below n shows
-- (`some_yes`, `some_not`, `some_one`, `some_none`, `every_below_lem`, `not_every_below`, `every_at`). Assumes nothing.
use mathlib.Core.Path.{◌≡◌, refl, sym, ap, ap₂, ◌∙◌, subst}
use mathlib.Core.Bool.{Bool, true, false, not, ◌&&◌, and-false, false≢true}
use mathlib.Core.Logic.{◌⊎◌, inl, inr, ◌↔◌}
use Prim.Native.Nat.{ℕ, zero, suc, ◌+◌, ◌≤◌, ◌<◌}
use native.Mathlib.Nat.{eq-or-lt_of_le}
use native.Mathlib.Decide.{ℕ_discrete, dec_lt}
use native.Mathlib.Omega.{arith}
use lib.Dec.{T, ltb, ltb→lt, nltb→le}
use Rattle.algebra.specs.Search.{first_from, first, some_below, every_below}

module _ (f : ℕ → Bool) where
  from_is : (n i k : ℕ) → i ≤ k → k < i + n → f k ≡ true → ((j : ℕ) → j < k → f j ≡ false) → first_from f n i ≡ k
  unfolding first_from
  from_is zero i k h l t b = absurd (omega arith)
  from_is (suc n) i k h l t b = go (eq-or-lt_of_le h) (λ w. from_is n (suc i) k w (omega arith) t b)
    where
      go : (i ≡ k) ⊎ (i < k) → (suc i ≤ k → first_from f n (suc i) ≡ k) → first_from f (suc n) i ≡ k
      go (inl e) rest = rw (first_from, ap f e ∙ t) e
      go (inr w) rest = rw (first_from, b i w) (rest w)

  from_none : (n i : ℕ) → ((j : ℕ) → j < i + n → f j ≡ false) → first_from f n i ≡ i + n
  unfolding first_from
  from_none zero i b = omega arith
  from_none (suc n) i b =
      let e = from_none n (suc i) (λ j l. b j (omega arith)) in
      rw (first_from, b i (omega arith)) (e ∙ omega arith)

  pub first_is : (n k : ℕ) → k < n → f k ≡ true → ((j : ℕ) → j < k → f j ≡ false) → first f n ≡ k
  unfolding first
  first_is n k l t b = from_is n 0 k (omega arith) (omega arith) t b

  pub first_none : (n : ℕ) → ((j : ℕ) → j < n → f j ≡ false) → first f n ≡ n
  unfolding first
  first_none n b = from_none n 0 (λ j l. b j (omega arith)) ∙ omega arith

  -- p is the first of the n numbers from i on that passes, or i + n
  pub record First (i n p : ℕ) : Type 0 where
    pub from : i ≤ p
    pub within : p ≤ i + n
    pub holds : p < i + n → f p ≡ true
    pub before : (j : ℕ) → i ≤ j → j < p → f j ≡ false

  pub first_from_lem : (n i : ℕ) → First i n (first_from f n i)
  unfolding first_from
  first_from_lem zero i =
      record { from = omega arith; within = omega arith; holds = λ h. absurd (omega arith); before = λ j h l. absurd (omega arith) }
  first_from_lem (suc n) i = go (f i) refl (first_from_lem n (suc i))
    where
      go : (b : Bool) → f i ≡ b → First (suc i) n (first_from f n (suc i)) → First i (suc n) (elim b [ true ↦ i | false ↦ first_from f n (suc i) ])
      go true e r =
          record { from = omega arith; within = omega arith; holds = λ h. e; before = λ j h l. absurd (omega arith) }
      go false e r =
          record {
            from = omega (arith, r.from);
            within = omega (arith, r.within);
            holds = λ h. r.holds (omega arith);
            before = λ j h l. here j h l (ℕ_discrete j i);
          }
        where
          here : (j : ℕ) → i ≤ j → j < first_from f n (suc i) → Dec (j ≡ i) → f j ≡ false
          here j h l (yes q) = ap f q ∙ e
          here j h l (no q) = r.before j (omega arith) l

  pub first_below : (n : ℕ) → First 0 n (first f n)
  unfolding first
  first_below n = first_from_lem n 0

  pub some_yes : (n : ℕ) → some_below f n ≡ true → (i : ℕ) × (i < n) × (f i ≡ true)
  unfolding some_below
  some_yes n e =
      let l : first f n < n = ltb→lt (first f n) n (subst T (sym e) tt) in
      (first f n, l, (first_below n).holds (omega arith))

  pub some_not : (n : ℕ) → some_below f n ≡ false → (i : ℕ) → i < n → f i ≡ false
  unfolding some_below
  some_not n e i l =
      let h : n ≤ first f n = nltb→le (first f n) n (subst (λ (b : Bool). T (not b)) (sym e) tt) in
      (first_below n).before i (omega arith) (omega arith)

  pub some_one : (n i : ℕ) → i < n → f i ≡ true → some_below f n ≡ true
  some_one n i l e = go (some_below f n) refl
    where
      go : (b : Bool) → some_below f n ≡ b → some_below f n ≡ true
      go true q = q
      go false q = absurd (false≢true (sym (some_not n q i l) ∙ e))

  pub some_none : (n : ℕ) → ((j : ℕ) → j < n → f j ≡ false) → some_below f n ≡ false
  some_none n h = go (some_below f n) refl
    where
      go : (b : Bool) → some_below f n ≡ b → some_below f n ≡ false
      go false q = q
      go true q = let r = some_yes n q in absurd (false≢true (sym (h r.0 r.1) ∙ r.2))

  -- what there is to find: the first that passes, or that none does
  pub found : (n : ℕ) → ((k : ℕ) × (k < n) × (f k ≡ true) × ((j : ℕ) → j < k → f j ≡ false)) ⊎ ((j : ℕ) → j < n → f j ≡ false)
  found n = go (dec_lt (first f n) n)
    where
      go : Dec (first f n < n) → ((k : ℕ) × (k < n) × (f k ≡ true) × ((j : ℕ) → j < k → f j ≡ false)) ⊎ ((j : ℕ) → j < n → f j ≡ false)
      go (yes l) = inl (first f n, l, (first_below n).holds (omega arith), λ j h. (first_below n).before j (omega arith) h)
      go (no h) = inr (λ j l. (first_below n).before j (omega arith) (omega arith))

  -- every one passes
  pub every_below_lem : (n : ℕ) → ((j : ℕ) → j < n → f j ≡ true) → every_below f n ≡ true
  unfolding every_below
  every_below_lem zero h = refl
  every_below_lem (suc n) h = rw (h n (omega arith)) (every_below_lem n (λ j l. h j (omega arith)))

  -- one does not
  pub not_every_below : (n k : ℕ) → k < n → f k ≡ false → every_below f n ≡ false
  unfolding every_below
  not_every_below zero k l e = absurd (omega arith)
  not_every_below (suc n) k l e = go (eq-or-lt_of_le l) (λ w. not_every_below n k w e)
    where
      go : (suc k ≡ suc n) ⊎ (suc k < suc n) → (k < n → every_below f n ≡ false) → (f n && every_below f n) ≡ false
      go (inl q) rest = let w : n ≡ k = omega arith in rw (ap f w ∙ e)
      go (inr w) rest = rw (rest (omega arith)) (and-false (f n))

  pub every_at : (n : ℕ) → every_below f n ≡ true → (j : ℕ) → j < n → f j ≡ true
  every_at n e j l = go (f j) refl
    where
      go : (b : Bool) → f j ≡ b → f j ≡ true
      go true q = q
      go false q = absurd (false≢true (sym (not_every_below n j l q) ∙ e))

-- two tests that agree on what is searched find the same
from_same : (f g : ℕ → Bool) (n i : ℕ) → ((j : ℕ) → j < i + n → f j ≡ g j) → first_from f n i ≡ first_from g n i
unfolding first_from
from_same f g zero i h = refl
from_same f g (suc n) i h =
    ap₂ (λ (b : Bool) (k : ℕ). elim b as (λ (_ : Bool). ℕ) [ true ↦ i | false ↦ k ]) (h i (omega arith))
    (from_same f g n (suc i) (λ j l. h j (omega arith)))

pub first-same : (f g : ℕ → Bool) (n : ℕ) → ((j : ℕ) → j < n → f j ≡ g j) → first f n ≡ first g n
unfolding first
first-same f g n h = from_same f g n 0 (λ j l. h j (omega arith))

pub some_same : (f g : ℕ → Bool) (n : ℕ) → ((j : ℕ) → j < n → f j ≡ g j) → some_below f n ≡ some_below g n
unfolding some_below
some_same f g n h = ap (λ (k : ℕ). ltb k n) (first-same f g n h)

-- a test that holds says yes
pub is_true : (b : Bool) → T b → b ≡ true
is_true true t = refl
is_true false t = absurd t

-- tests that say yes to the same
pub same_test : (a b : Bool) → (a ≡ true) ↔ (b ≡ true) → a ≡ b
same_test true b h = sym (h.0 refl)
same_test false true h = h.1 refl
same_test false false h = refl

-- tests that say no to the same
pub same_no : (a b : Bool) → (a ≡ false) ↔ (b ≡ false) → a ≡ b
same_no false b h = sym (h.0 refl)
same_no true false h = h.1 refl
same_no true true h = refl
