-- All solutions by doubling. A part of a list repeated after itself with d added, one entry a turn (`Doubled`); choices of the first
-- j + 1 directions from those of the first j (`choose_above`); and the list after j directions (`Listing`). Assumes nothing.
use mathlib.Core.Path.{◌≡◌, refl, sym, ap, ap₂, ◌∙◌}
use mathlib.Core.List.{List, ◌∷◌, ◌++◌, map, map-append}
use Prim.Native.Nat.{ℕ, zero, suc, ◌+◌, ◌*◌, ◌^◌, ◌≤◌, ◌<◌}
use native.Mathlib.Nat.{one-mul}
use native.Mathlib.Omega.{arith}
use lib.Bits.{bit_xor, xor_shifted}
use lib.Pow.{pow_pos, pow_mono}
use lib.ListN.{length, get_or, set, take, drop, length-set, length-append, length-map, get_or-append, get_or-map}
use lib.Seq.{paste, paste-suc, length-take-le, get_or-take, take_at, drop_at, drop-drop, drop-set-lt, set_split}
use Rattle.algebra.specs.Lists.{count_up}
use Rattle.algebra.proofs.CountUp.{count_up-length}
use Rattle.binary.specs.Xor.{◌⊕◌}
use Rattle.binary.proofs.Xor.{is_xor, xor-zero, xor_comm, xor_assoc}
use Rattle.linear.specs.Directions.{choose}
use Rattle.linear.proofs.Choose.{choose-zero, choose-xor, choose_pow}

-- ---- a part repeated after itself

-- after i turns: the first i of n entries stand once more after the n, each with d added
pub record Doubled (d n : ℕ) (old out : List ℕ) (i : ℕ) : Type 0 where
  pub within : i ≤ n
  pub long : length out ≡ length old
  pub is : out ≡ paste old n (map (λ x. x ⊕ d) old) i

module _ {d n : ℕ} {old out : List ℕ} {i : ℕ} (D : Doubled d n old out i) where
  -- the first n entries are as they were
  kept : n ≤ length old → i < n → get_or out i 0 ≡ get_or old i 0
  kept fits h =
      let t = take i (map (λ x. x ⊕ d) old) in
      let e = length-take-le n old fits in
      ap (λ (l : List ℕ). get_or l i 0) D.is
      ∙ get_or-append (take n old ++ t) (drop (n + i) old) 0 i (omega (arith, length-append (take n old) t))
      ∙ get_or-append (take n old) t 0 i (omega arith) ∙ get_or-take n old i 0 h

  pub doubled_turn : n + n ≤ length old → i < n → Doubled d n old (set out (n + i) (bit_xor (get_or out i 0) d)) (i + 1)
  doubled_turn fits h =
      let f : ℕ → ℕ = λ x. x ⊕ d in
      let one : suc i ≡ i + 1 = omega arith in
      let v = sym (is_xor (get_or out i 0) d) ∙ ap f (kept (omega arith) h) ∙ sym (get_or-map f old i 0) in
      record {
        within = omega arith;
        long = length-set out (n + i) (bit_xor (get_or out i 0) d) ∙ D.long;
        is = ap₂ (λ (l : List ℕ) (x : ℕ). set l (n + i) x) D.is v
            ∙ paste-suc old n (map f old) i (f 0) (omega arith) (omega (arith, length-map old f))
            ∙ ap (paste old n (map f old)) one;
      }

  pub doubled_end : n ≤ i → out ≡ paste old n (map (λ x. x ⊕ d) old) n
  doubled_end h = let e : i ≡ n = omega (arith, D.within) in D.is ∙ ap (paste old n (map (λ x. x ⊕ d) old)) e

-- the part repeated, where it is p
double_front : (f : ℕ → ℕ) (p old : List ℕ) (n : ℕ) → length p ≡ n
    → paste (p ++ drop n old) n (map f (p ++ drop n old)) n ≡ p ++ map f p ++ drop (n + n) old
double_front f p old n e =
    ap₂ (λ (a b : List ℕ). a ++ take n b ++ drop (n + n) (p ++ drop n old)) (take_at p (drop n old) n e) (map-append f p (drop n old))
    ∙ ap₂ (λ (a b : List ℕ). p ++ a ++ b) (take_at (map f p) (map f (drop n old)) n (length-map p f ∙ e))
    (sym (drop-drop n n (p ++ drop n old)) ∙ ap (drop n) (drop_at p (drop n old) n e) ∙ drop-drop n n old)

-- ---- choices

power-xor : (j k : ℕ) → k < 2 ^ j → 2 ^ j ⊕ k ≡ 2 ^ j + k
power-xor j k h = is_xor (2 ^ j) k ∙ rw one-mul at (xor_shifted 1 j k h)

-- bit j chooses the entry at place j as well
pub choose_above : (ds : List ℕ) (j k : ℕ) → j < length ds → k < 2 ^ j → choose ds (2 ^ j + k) ≡ choose ds k ⊕ get_or ds j 0
choose_above ds j k l h =
    ap (choose ds) (sym (power-xor j k h)) ∙ choose-xor ds (2 ^ j) k ∙ ap (λ (x : ℕ). x ⊕ choose ds k) (choose_pow ds j l)
    ∙ xor_comm (get_or ds j 0) (choose ds k)

count_up-add : (k n m : ℕ) → count_up k (n + m) ≡ count_up k n ++ count_up (k + n) m
count_up-add k zero m =
    let p : 0 + m ≡ m = omega arith in
    let q : k ≡ k + 0 = omega arith in
    ap (count_up k) p ∙ ap (λ (a : ℕ). count_up a m) q
count_up-add k (suc n) m =
    let p : suc n + m ≡ suc (n + m) = omega arith in
    let q : suc k + n ≡ k + suc n = omega arith in
    ap (count_up k) p ∙ ap (λ (l : List ℕ). k ∷ l) (count_up-add (suc k) n m ∙ ap (λ (a : ℕ). count_up (suc k) n ++ count_up a m) q)

-- f at n more is g of f
map_above : (f g : ℕ → ℕ) (n k m : ℕ) → ((i : ℕ) → i < k + m → f (n + i) ≡ g (f i)) → map f (count_up (n + k) m) ≡ map g (map f (count_up k m))
map_above f g n k zero h = refl
map_above f g n k (suc m) h =
    let p : suc (n + k) ≡ n + suc k = omega arith in
    ap₂ ◌∷◌ (h k (omega arith)) (ap (λ (a : ℕ). map f (count_up a m)) p ∙ map_above f g n (suc k) m (λ i l. h i (omega arith)))

-- ---- the list after j directions

abbrev sums : ℕ → List ℕ → ℕ → List ℕ
sums b ds n = map (λ k. b ⊕ choose ds k) (count_up 0 n)

module _ (b : ℕ) (ds : List ℕ) where
  sums-length : (n : ℕ) → length (sums b ds n) ≡ n
  sums-length n = length-map (count_up 0 n) (λ k. b ⊕ choose ds k) ∙ count_up-length 0 n

  sums_double : (n j d : ℕ) → n ≡ 2 ^ j → j < length ds → d ≡ get_or ds j 0 → sums b ds n ++ map (λ x. x ⊕ d) (sums b ds n) ≡ sums b ds (n + n)
  sums_double n j d p l e =
      let f : ℕ → ℕ = λ k. b ⊕ choose ds k in
      let z : n + 0 ≡ 0 + n = omega arith in
      ap (λ (t : List ℕ). sums b ds n ++ t) (sym (map_above f (λ x. x ⊕ d) n 0 n above)) ∙ sym (map-append f (count_up 0 n) (count_up (n + 0) n))
      ∙ ap (map f) (ap (λ (a : ℕ). count_up 0 n ++ count_up a n) z ∙ sym (count_up-add 0 n n))
    where
      above : (i : ℕ) → i < 0 + n → b ⊕ choose ds (n + i) ≡ (b ⊕ choose ds i) ⊕ d
      above i h =
          ap (λ (a : ℕ). b ⊕ choose ds (a + i)) p ∙ ap (λ (x : ℕ). b ⊕ x) (choose_above ds j i l (omega arith) ∙ ap (λ (x : ℕ). choose ds i ⊕ x) (sym e))
          ∙ sym (xor_assoc b (choose ds i) d)

-- the first 2 ^ j entries are the choices of j directions, the others are as they were
pub record Listing (b : ℕ) (ds : List ℕ) (count : ℕ) (old out : List ℕ) (size j : ℕ) : Type 0 where
  pub within : j ≤ count
  pub fits : 2 ^ count ≤ length old
  pub size_is : size ≡ 2 ^ j
  pub long : length out ≡ length old
  pub is : out ≡ sums b ds size ++ drop size old

-- the base is stored, and is the choice of no direction
pub listing_start : (b : ℕ) (ds : List ℕ) (count : ℕ) (old : List ℕ) (v : ℕ) → 2 ^ count ≤ length old → v ≡ b
    → Listing b ds count (set old 0 v) (set old 0 v) 1 0
listing_start b ds count old v h e =
    let some : 0 < length old = omega (arith, pow_pos count) in
    let z : v ≡ b ⊕ choose ds 0 = e ∙ sym (xor-zero b) ∙ ap (λ (x : ℕ). b ⊕ x) (sym (choose-zero ds)) in
    record {
      within = omega arith;
      fits = omega (arith, length-set old 0 v);
      size_is = refl;
      long = refl;
      is = set_split old 0 v some ∙ ap₂ (λ (x : ℕ) (t : List ℕ). x ∷ t) z (sym (drop-set-lt 1 old 0 v (omega arith)));
    }

module _ {b : ℕ} {ds : List ℕ} {count : ℕ} {old out : List ℕ} {size j : ℕ} (L : Listing b ds count old out size j) where
  -- there is room for as many again
  pub listing_room : j < count → size + size ≤ length out
  listing_room l = omega (arith, L.size_is, L.long, L.fits, pow_mono l)

  pub listing_turn : (next : List ℕ) (d : ℕ) → j < count → count ≤ length ds → d ≡ get_or ds j 0 → length next ≡ length out
      → next ≡ paste out size (map (λ x. x ⊕ d) out) size → Listing b ds count old next (size * 2) (j + 1)
  listing_turn next d l few e same r =
      let twice : size + size ≡ size * 2 = omega arith in
      let one : j + 1 ≡ suc j = omega arith in
      record {
        within = omega arith;
        fits = L.fits;
        size_is = rw one (omega (arith, L.size_is));
        long = same ∙ L.long;
        is = r ∙ ap (λ (t : List ℕ). paste t size (map (λ x. x ⊕ d) t) size) L.is
            ∙ double_front (λ x. x ⊕ d) (sums b ds size) old size (sums-length b ds size)
            ∙ ap (λ (t : List ℕ). t ++ drop (size + size) old) (sums_double b ds size j d L.size_is (omega arith) e)
            ∙ ap (λ (n : ℕ). sums b ds n ++ drop n old) twice;
      }

pub listing_end : (b : ℕ) (ds : List ℕ) (count : ℕ) (old out : List ℕ) (size j v : ℕ) → Listing b ds count (set old 0 v) out size j → count ≤ j
    → out ≡ map (λ k. b ⊕ choose ds k) (count_up 0 (2 ^ count)) ++ drop (2 ^ count) old
listing_end b ds count old out size j v L h =
    let e : j ≡ count = omega (arith, L.within) in
    L.is ∙ ap (λ (n : ℕ). sums b ds n ++ drop n (set old 0 v)) (L.size_is ∙ ap (λ (i : ℕ). 2 ^ i) e)
    ∙ ap (λ (t : List ℕ). sums b ds (2 ^ count) ++ t) (drop-set-lt (2 ^ count) old 0 v (pow_pos count))
