-- Lists of numbers as finite sets: membership, no entry twice, ascending order; the numbers below n; those that pass a test; and a list in
-- so many places. Assumes nothing.
use Rattle.std.specs.Prelude.{◌≡◌, ◌⊎◌, List, [], ◌∷◌, ◌++◌, Bool, true, false, ℕ, suc, ◌-◌, ◌<◌, zero, length, replicate}

-- x is an entry
abbrev pub Member : ℕ → List ℕ → Type 0
Member x [] = ⊥
Member x (y ∷ ys) = (x ≡ y) ⊎ Member x ys

-- no entry stands twice
abbrev pub Nodup : List ℕ → Type 0
Nodup [] = Unit {0}
Nodup (x ∷ xs) = (Member x xs → ⊥) × Nodup xs

-- every entry of xs is one of ys
abbrev pub Within : List ℕ → List ℕ → Type 0
Within xs ys = (x : ℕ) → Member x xs → Member x ys

-- each entry is below all that follow
abbrev pub Ascending : List ℕ → Type 0
Ascending [] = Unit {0}
Ascending (x ∷ xs) = ((y : ℕ) → Member y xs → x < y) × Ascending xs

-- each entry is below the next: what a loop checks
abbrev pub Rising : ℕ → List ℕ → Type 0
Rising b [] = Unit {0}
Rising b (x ∷ xs) = (b < x) × Rising x xs

-- the numbers below n
abbrev pub below : ℕ → List ℕ
below zero = []
below (suc n) = n ∷ below n

-- the n numbers from k on, ascending
abbrev pub count_up : ℕ → ℕ → List ℕ
count_up k zero = []
count_up k (suc n) = k ∷ count_up (suc k) n

-- the entries that pass a test
abbrev pub keep : (ℕ → Bool) → List ℕ → List ℕ
keep t [] = []
keep t (x ∷ xs) = elim (t x) [ true ↦ x ∷ keep t xs | false ↦ keep t xs ]

-- in n places, "the unused places 0" (01)
abbrev pub padded : ℕ → List ℕ → List ℕ
padded n xs = xs ++ replicate (n - length xs) 0
