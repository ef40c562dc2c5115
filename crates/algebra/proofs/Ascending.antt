-- B3, `same_ascending`: two strictly ascending lists with the same entries are equal. Assumes nothing.
use mathlib.Core.Path.{◌≡◌, refl, sym, ap₂}
use mathlib.Core.Logic.{◌⊎◌, inl, inr}
use mathlib.Core.List.{List, [], ◌∷◌}
use Prim.Native.Nat.{ℕ, ◌<◌}
use native.Mathlib.Omega.{arith}
use Rattle.algebra.specs.Lists.{Member, Nodup, Within, Ascending, Rising}

pub above : (b : ℕ) (xs : List ℕ) → Rising b xs → (y : ℕ) → Member y xs → b < y
above b [] r y h = absurd h
above b (x ∷ xs) r y (inl e) = let l = r.0 in omega arith
above b (x ∷ xs) r y (inr h) = let l = r.0 in let k = above x xs r.1 y h in omega arith

pub rising_ascending : (b : ℕ) (xs : List ℕ) → Rising b xs → Ascending xs
rising_ascending b [] r = tt
rising_ascending b (x ∷ xs) r = (above x xs r.1, rising_ascending x xs r.1)

pub ascending_nodup : (xs : List ℕ) → Ascending xs → Nodup xs
ascending_nodup [] a = tt
ascending_nodup (x ∷ xs) a = (λ h. let l = a.0 x h in omega arith, ascending_nodup xs a.1)

heads : (x y : ℕ) (xs ys : List ℕ) → Ascending (x ∷ xs) → Ascending (y ∷ ys) → Within (x ∷ xs) (y ∷ ys) → Within (y ∷ ys) (x ∷ xs) → x ≡ y
heads x y xs ys a b v w = go (v x (inl refl)) (w y (inl refl))
  where
    go : (x ≡ y) ⊎ Member x ys → (y ≡ x) ⊎ Member y xs → x ≡ y
    go (inl e) k = e
    go (inr h) (inl e) = sym e
    go (inr h) (inr k) = let l = a.0 y k in let r = b.0 x h in absurd (omega arith)

tails : (x y : ℕ) (xs ys : List ℕ) → Ascending (x ∷ xs) → x ≡ y → Within (x ∷ xs) (y ∷ ys) → Within xs ys
tails x y xs ys a e v z h = go (v z (inr h))
  where
    go : (z ≡ y) ⊎ Member z ys → Member z ys
    go (inl k) = let l = a.0 z h in absurd (omega arith)
    go (inr k) = k

pub same_ascending : (xs ys : List ℕ) → Ascending xs → Ascending ys → Within xs ys → Within ys xs → xs ≡ ys
same_ascending [] [] a b v w = refl
same_ascending [] (y ∷ ys) a b v w = absurd (w y (inl refl))
same_ascending (x ∷ xs) [] a b v w = absurd (v x (inl refl))
same_ascending (x ∷ xs) (y ∷ ys) a b v w =
    let e = heads x y xs ys a b v w in
    ap₂ ◌∷◌ e (same_ascending xs ys a.1 b.1 (tails x y xs ys a e v) (tails y x ys xs b (sym e) w))
