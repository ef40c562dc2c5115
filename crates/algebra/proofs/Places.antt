-- Lists in so many places: the entries of a padded list (`padded_at`, `padded-length`); one filled in order (`filled_padded`)
-- or changed in order (`filled_mapped`); one written
-- from the front (`put_next`, `put_last`) or from the end (`put_before`). Assumes nothing.
use mathlib.Core.Path.{◌≡◌, refl, sym, ap, ◌∙◌}
use mathlib.Core.List.{List, [], ◌∷◌, ◌++◌, map}
use Prim.Native.Nat.{ℕ, zero, suc, ◌+◌, ◌-◌, ◌≤◌, ◌<◌}
use native.Mathlib.Decide.{dec_lt}
use native.Mathlib.Omega.{arith}
use lib.ListN.{length, get_or, set, take, drop, replicate, length-set, length-append, length-replicate, length-map, get_or-eq_default}
use lib.Seq.{ext_get_or, length-take-le, get_or-take, append_snoc, take-suc-set, set_split, drop-cons, drop-set-lt, get_or-set_same}
use Rattle.algebra.specs.Lists.{padded}
use Rattle.algebra.proofs.Filled.{Filled}

pub map_at : (g : ℕ → ℕ) (xs : List ℕ) (i : ℕ) → i < length xs → get_or (map g xs) i 0 ≡ g (get_or xs i 0)
map_at g [] i h = absurd (omega arith)
map_at g (x ∷ xs) zero h = refl
map_at g (x ∷ xs) (suc i) h = map_at g xs i (omega arith)

pub zeros_at : (n j : ℕ) → ◌≡◌ {A = ℕ} (get_or (replicate n 0) j 0) 0
zeros_at zero j = refl
zeros_at (suc n) zero = refl
zeros_at (suc n) (suc j) = zeros_at n j

-- zeros after a list are what is read past its end
pub append_zeros_at : (xs : List ℕ) (n j : ℕ) → get_or (xs ++ replicate n 0) j 0 ≡ get_or xs j 0
append_zeros_at [] n j = zeros_at n j
append_zeros_at (x ∷ xs) n zero = refl
append_zeros_at (x ∷ xs) n (suc j) = append_zeros_at xs n j

pub padded_at : (n : ℕ) (xs : List ℕ) (j : ℕ) → get_or (padded n xs) j 0 ≡ get_or xs j 0
padded_at n xs j = append_zeros_at xs (n - length xs) j

pub padded-length : (n : ℕ) (xs : List ℕ) → length xs ≤ n → length (padded n xs) ≡ n
padded-length n xs h = length-append xs (replicate (n - length xs) 0) ∙ ap (λ (k : ℕ). length xs + k) (length-replicate (n - length xs) 0) ∙ omega arith

pub filled_padded : (n : ℕ) (xs out : List ℕ) (k : ℕ) → length xs ≤ n → length xs ≡ k → Filled (λ j. get_or xs j 0) (replicate n 0) out k → out ≡ padded n xs
filled_padded n xs out k h e i =
    ext_get_or 0 out (padded n xs) (i.long ∙ length-replicate n 0 ∙ sym (padded-length n xs h))
    (λ j l. at j (dec_lt j k) ∙ sym (padded_at n xs j))
  where
    at : (j : ℕ) → Dec (j < k) → get_or out j 0 ≡ get_or xs j 0
    at j (yes l) = i.done j l
    at j (no l) = i.rest j (omega arith) ∙ zeros_at n j ∙ sym (get_or-eq_default xs 0 (omega arith))

-- one changed entry by entry: its front is what the function makes of the old front
pub filled_mapped : (g : ℕ → ℕ) (old out : List ℕ) (k : ℕ) → Filled (λ j. g (get_or old j 0)) old out k → take k out ≡ map g (take k old)
filled_mapped g old out k i =
    ext_get_or 0 (take k out) (map g (take k old)) (a ∙ sym (length-map (take k old) g ∙ b))
    (λ j l. at j (omega (arith, a)))
  where
    a : length (take k out) ≡ k
    a = length-take-le k out (omega (arith, i.within, i.long))

    b : length (take k old) ≡ k
    b = length-take-le k old i.within

    at : (j : ℕ) → j < k → get_or (take k out) j 0 ≡ get_or (map g (take k old)) j 0
    at j l =
        get_or-take k out j 0 l ∙ i.done j l
        ∙ sym (map_at g (take k old) j (omega (arith, b)) ∙ ap g (get_or-take k old j 0 l))

-- the front is done, v is next, and t is to come
pub put_next : (l t w : List ℕ) (i v : ℕ) → i < length l → take i l ++ v ∷ t ≡ w → take (suc i) (set l i v) ++ t ≡ w
put_next l t w i v h e = ap (λ (s : List ℕ). s ++ t) (take-suc-set l i v h) ∙ append_snoc (take i l) v t ∙ e

-- and nothing is to come
pub put_last : (l w : List ℕ) (i v : ℕ) → i < length l → take i l ++ v ∷ [] ≡ w → set l i v ≡ w ++ drop (suc i) l
put_last l w i v h e =
    set_split l i v h ∙ sym (append_snoc (take i l) v (drop (suc i) l)) ∙ ap (λ (s : List ℕ). s ++ drop (suc i) l) e

-- the end is done, and v comes before it
pub put_before : (l t : List ℕ) (i v : ℕ) → i < length l → drop (suc i) l ≡ t → drop i (set l i v) ≡ v ∷ t
put_before l t i v h e =
    drop-cons (set l i v) i 0 (omega (arith, length-set l i v))
    ∙ (λ j. get_or-set_same l i v 0 h j ∷ (drop-set-lt (suc i) l i v (omega arith) ∙ e) j)
