-- Lent lists: which have room (`fits_long`, `fits_short`), what a call that is turned down leaves (`kept`), and how the answer of a call with
-- one value becomes its number and its list (`one_down`, `one_same`). Assumes nothing.
use mathlib.Core.Path.{◌≡◌, refl, sym, ap, subst}
use mathlib.Core.Logic.{◌≢◌}
use mathlib.Core.Bool.{Bool, true, false, ◌&&◌, false≢true}
use mathlib.Core.List.{List, [], ◌∷◌}
use Prim.Native.Nat.{ℕ, zero, suc, ◌≤◌, ◌<◌}
use borrow.Author.Tests.{le-leb, lt-leb}
use lib.ListN.{length, drop, set}
use Rattle.field.specs.Refusal.{Outcome, turned_down}
use Rattle.firmware.specs.Lent.{fits, returned, after, value_of, Refuses}

pub fits_long : (n : ℕ) (list : List ℕ) → n ≤ length list → fits n list ≡ true
fits_long n list l = le-leb n (length list) l

pub fits_short : (n : ℕ) (list : List ℕ) → length list < n → fits n list ≡ false
fits_short n list l = lt-leb n (length list) l

-- room in all lists: not where one is short; and by the last where the others have it
pub no_first : (a b : Bool) → a ≡ false → (a && b) ≡ false
no_first true b e = absurd (false≢true (sym e))
no_first false b e = refl

pub no_second : (a b : Bool) → b ≡ false → (a && b) ≡ false
no_second true b e = e
no_second false b e = refl

pub by_second : (a b : Bool) → a ≡ true → (a && b) ≡ b
by_second true b e = refl
by_second false b e = absurd (false≢true e)

-- turned down, a call leaves a list as it was
pub kept : (n : ℕ) (values list : List ℕ) → n ≢ 0 → list ≡ after n values list
kept zero values list h = absurd (h refl)
kept (suc n) values list h = refl

-- done, it leaves the values at the front
pub put_done : (r : ℕ) (left values list : List ℕ) → r ≡ 0 → left ≡ after r values list → left ≡ after 0 values list
put_done r left values list e h = subst (λ (k : ℕ). left ≡ after k values list) e h

-- one value stored is that value before the rest
pub first_set : (list : List ℕ) (v : ℕ) → length list ≢ 0 → set list 0 v ≡ v ∷ drop 1 list
first_set [] v h = absurd (h refl)
first_set (x ∷ xs) v h = refl

module _ (o : Outcome ℕ) (list : List ℕ) where
  pub one_down : (n : ℕ) → turned_down n ≡ o → Refuses o → (n ≡ returned o (fits 1 list)) × (list ≡ after n (value_of o) list)
  one_down n e R = (ap (λ (q : Outcome ℕ). returned q (fits 1 list)) e, kept n (value_of o) list (subst Refuses (sym e) R))

  -- the same answer in other words
  pub one_same : (said : Outcome ℕ) (r : ℕ) (left : List ℕ) → said ≡ o → (r ≡ returned said (fits 1 list)) × (left ≡ after r (value_of said) list)
      → (r ≡ returned o (fits 1 list)) × (left ≡ after r (value_of o) list)
  one_same said r left e h = subst (λ (q : Outcome ℕ). (r ≡ returned q (fits 1 list)) × (left ≡ after r (value_of q) list)) e h
