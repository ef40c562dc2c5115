-- One entry after the others: its members (`to_first`, `to_last`, `of_last`), and that no entry stands twice (`last_nodup`). Assumes nothing.
use mathlib.Core.Path.{◌≡◌, sym}
use mathlib.Core.Logic.{◌⊎◌, inl, inr}
use mathlib.Core.List.{List, [], ◌∷◌, ◌++◌}
use Prim.Native.Nat.{ℕ}
use Rattle.algebra.specs.Lists.{Member, Nodup}

pub to_first : (xs : List ℕ) (s x : ℕ) → Member x xs → Member x (xs ++ s ∷ [])
to_first [] s x k = absurd k
to_first (y ∷ xs) s x (inl e) = inl e
to_first (y ∷ xs) s x (inr k) = inr (to_first xs s x k)

pub to_last : (xs : List ℕ) (s x : ℕ) → x ≡ s → Member x (xs ++ s ∷ [])
to_last [] s x e = inl e
to_last (y ∷ xs) s x e = inr (to_last xs s x e)

pub of_last : (xs : List ℕ) (s x : ℕ) → Member x (xs ++ s ∷ []) → (x ≡ s) ⊎ Member x xs
of_last [] s x k = k
of_last (y ∷ xs) s x (inl e) = inr (inl e)
of_last (y ∷ xs) s x (inr k) = go (of_last xs s x k)
  where
    go : (x ≡ s) ⊎ Member x xs → (x ≡ s) ⊎ ((x ≡ y) ⊎ Member x xs)
    go (inl e) = inl e
    go (inr j) = inr (inr j)

pub last_nodup : (xs : List ℕ) (s : ℕ) → Nodup xs → (Member s xs → ⊥) → Nodup (xs ++ s ∷ [])
last_nodup [] s d n = (λ k. k, tt)
last_nodup (x ∷ xs) s d n = (λ k. go (of_last xs s x k), last_nodup xs s d.1 (λ k. n (inr k)))
  where
    go : (x ≡ s) ⊎ Member x xs → ⊥
    go (inl e) = n (inl (sym e))
    go (inr k) = d.0 k
