-- The first i entries of a list: the last of them (`front_here`), those of the whole (`front_within`), and those of a list that is made from
-- numbers (`front_map`). Assumes nothing.
use mathlib.Core.Path.{◌≡◌, refl, ap₂}
use mathlib.Core.Logic.{inl, inr}
use mathlib.Core.List.{List, [], ◌∷◌, map}
use Prim.Native.Nat.{ℕ, zero, suc, ◌≤◌, ◌<◌}
use native.Mathlib.Omega.{arith}
use lib.ListN.{length, get_or, take}
use Rattle.algebra.specs.Lists.{Member, count_up}

pub front_here : (l : List ℕ) (i : ℕ) → i < length l → Member (get_or l i 0) (take (suc i) l)
front_here [] i h = absurd (omega arith)
front_here (x ∷ l) zero h = inl refl
front_here (x ∷ l) (suc i) h = inr (front_here l i (omega arith))

pub front_within : (l : List ℕ) (i z : ℕ) → Member z (take i l) → Member z l
front_within l zero z k = absurd k
front_within [] (suc i) z k = absurd k
front_within (x ∷ l) (suc i) z (inl e) = inl e
front_within (x ∷ l) (suc i) z (inr k) = inr (front_within l i z k)

pub entry_member : (l : List ℕ) (i : ℕ) → i < length l → Member (get_or l i 0) l
entry_member l i h = front_within l (suc i) (get_or l i 0) (front_here l i h)

-- of a list made from the numbers from k on
pub front_map : (f : ℕ → ℕ) (k n w : ℕ) → n ≤ w → take n (map f (count_up k w)) ≡ map f (count_up k n)
front_map f k zero w h = refl
front_map f k (suc n) zero h = absurd (omega arith)
front_map f k (suc n) (suc w) h = ap₂ ◌∷◌ refl (front_map f (suc k) n w (omega arith))
